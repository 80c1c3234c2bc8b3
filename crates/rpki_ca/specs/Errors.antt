-- What the errors of a receipt print.
use Rattle.std.specs.Prelude.{ℕ, List, ◌++◌, Option, Some, codes}
use Rattle.std.specs.Fmt.{decimal}
use Rattle.rpki_ca.specs.declared.receiving.ReceiveError.{ReceiveError}
use Rattle.rpki_ca.specs.declared.receiving.ReceiveError.TheVariants as errors

-- the text that each error of a receipt prints
abbrev pub receive_text : ReceiveError → Option (List ℕ)
receive_text errors.CmsDecode = Some (codes "Could not decode CMS")
receive_text errors.XmlError = Some (codes "malformed XML")
receive_text errors.InvalidCsrSyntax = Some (codes "Could not decode CSR")
receive_text errors.CertSyntax = Some (codes "Could not decode certificate")
receive_text (errors.Validation e) =
    Some (codes "CMS is not valid: " ++ (codes "check " ++ (decimal e.check ++ codes " failed")))
receive_text errors.OutOfMemory = Some (codes "out of memory")
