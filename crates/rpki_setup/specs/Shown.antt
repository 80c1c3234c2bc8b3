-- What errors print; nothing is said of the text of an unlawful URI.
use Rattle.std.specs.Prelude.{ℕ, List, Option, None, Some, codes}
use Rattle.rpki_xml.specs.declared.error.XmlError.TheVariants as xml
use Rattle.rpki_setup.specs.declared.error.Error.{Error}
use Rattle.rpki_setup.specs.declared.error.Error.TheVariants as errors

-- the text that each error prints, where one is said
abbrev pub shown_error : Error → Option (List ℕ)
shown_error (errors.InvalidXml xml.Malformed) = Some (codes "malformed XML")
shown_error (errors.InvalidXml xml.OutOfMemory) = Some (codes "out of memory")
shown_error errors.InvalidVersion = Some (codes "Invalid version")
shown_error errors.InvalidHandle = Some (codes "Invalid handle")
shown_error errors.InvalidTaBase64 = Some (codes "Invalid base64 of a TA cert")
shown_error errors.InvalidTaCertEncoding = Some (codes "Cannot decode TA cert")
shown_error errors.InvalidTaCert = Some (codes "Invalid TA cert")
shown_error (errors.InvalidUri e) = None
shown_error errors.Read = Some (codes "reading failed")
shown_error errors.Write = Some (codes "writing failed")
shown_error errors.TooLong = Some (codes "too long")
shown_error errors.OutOfMemory = Some (codes "out of memory")
