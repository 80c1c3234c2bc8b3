-- What errors print.
use Rattle.std.specs.Prelude.{ℕ, List, Option, Some, codes}
use Rattle.rpki_xml.specs.declared.error.XmlError.{XmlError}
use Rattle.rpki_xml.specs.declared.error.XmlError.TheVariants as errors

-- the text that an error prints
abbrev pub error_text : XmlError → Option (List ℕ)
error_text errors.Malformed = Some (codes "malformed XML")
error_text errors.OutOfMemory = Some (codes "out of memory")
