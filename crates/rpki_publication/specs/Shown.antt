-- What errors print.
use Rattle.std.specs.Prelude.{ℕ, List, ◌++◌, Option, Some, codes}
use Rattle.std.specs.Fmt.{decimal}
use Rattle.rpki_xml.specs.declared.error.XmlError.TheVariants as xml
use Rattle.rpki_publication.specs.declared.error.Error.{Error}
use Rattle.rpki_publication.specs.declared.error.Error.TheVariants as errors

-- the text that each error prints
abbrev pub shown_error : Error → Option (List ℕ)
shown_error errors.InvalidVersion = Some (codes "Invalid version")
shown_error (errors.XmlError xml.Malformed) = Some (codes "malformed XML")
shown_error (errors.XmlError xml.OutOfMemory) = Some (codes "out of memory")
shown_error (errors.InvalidErrorCode text) = Some (codes "Invalid error code: " ++ text)
shown_error errors.CmsDecode = Some (codes "Could not decode CMS")
shown_error (errors.Validation e) =
    Some (codes "CMS is not valid: " ++ (codes "check " ++ (decimal e.check ++ codes " failed")))
shown_error errors.NotQuery = Some (codes "was not a query message")
shown_error errors.NotReply = Some (codes "was not a reply message")
shown_error errors.Read = Some (codes "reading failed")
shown_error errors.Write = Some (codes "writing failed")
shown_error errors.TooLong = Some (codes "too long")
shown_error errors.OutOfMemory = Some (codes "out of memory")
