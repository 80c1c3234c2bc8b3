-- What errors print.
use Rattle.std.specs.Prelude.{ℕ, List, ◌++◌, Option, Some, codes}
use Rattle.std.specs.Fmt.{decimal}
use Rattle.rpki_sets.specs.Resources.{resources_text}
use Rattle.rpki_xml.specs.declared.error.XmlError.TheVariants as xml
use Rattle.rpki_updown.specs.declared.error.Error.{Error}
use Rattle.rpki_updown.specs.declared.error.Error.TheVariants as errors
use Rattle.rpki_updown.specs.RequestResourceLimit.{limit_text}

-- the text that each error prints
abbrev pub shown_error : Error → Option (List ℕ)
shown_error errors.InvalidVersion = Some (codes "Invalid protocol version, MUST be 1")
shown_error (errors.XmlError xml.Malformed) = Some (codes "malformed XML")
shown_error (errors.XmlError xml.OutOfMemory) = Some (codes "out of memory")
shown_error (errors.InvalidPayloadType e) = Some (codes "Invalid payload type: " ++ e.0)
shown_error errors.InvalidCsrSyntax = Some (codes "Could not decode CSR")
shown_error errors.CertSyntax = Some (codes "Could not decode certificate")
shown_error errors.CmsDecode = Some (codes "Could not decode CMS")
shown_error (errors.Validation e) =
    Some (codes "CMS is not valid: " ++ (codes "check " ++ (decimal e.check ++ codes " failed")))
shown_error (errors.Limit set limit) =
    Some (codes "Limit '" ++ (limit_text limit ++ (codes "' contains resources not held in set '"
    ++ (resources_text set ++ codes "'"))))
shown_error errors.Read = Some (codes "reading failed")
shown_error errors.Write = Some (codes "writing failed")
shown_error errors.TooLong = Some (codes "too long")
shown_error errors.OutOfMemory = Some (codes "out of memory")
