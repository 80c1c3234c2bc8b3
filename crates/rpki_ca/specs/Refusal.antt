-- The exit status and the name of each refusal.
use Rattle.std.specs.Prelude.{ℕ, List, ◌++◌, codes}
use Rattle.std.specs.Fmt.{decimal}
use Rattle.rpki_ca.specs.declared.refusals.Refusal.{Refusal}
use Rattle.rpki_ca.specs.declared.refusals.Refusal.TheVariants.{Usage, Hex, CmsDecode, XmlError, CertSyntax, InvalidCsrSyntax, Validation, TooLong}
use Rattle.rpki_ca.specs.declared.refusals.Refusal.TheVariants.{InvalidTaCertEncoding, InvalidTaCert, KeyNotFound, IncompatibleKey}
use Rattle.rpki_ca.specs.declared.refusals.Refusal.TheVariants.{KeyReused, Signer, Moment}
use Rattle.rpki_ca.specs.declared.refusals.Refusal.TheVariants.{ReadFault, OutOfMemory}

-- the exit status of each refusal
abbrev pub status_of : Refusal → ℕ
status_of Usage = 2
status_of Hex = 3
status_of CmsDecode = 4
status_of XmlError = 5
status_of CertSyntax = 5
status_of InvalidCsrSyntax = 5
status_of InvalidTaCertEncoding = 5
status_of InvalidTaCert = 5
status_of (Validation n) = 6
status_of KeyNotFound = 7
status_of IncompatibleKey = 7
status_of KeyReused = 7
status_of Signer = 7
status_of Moment = 8
status_of TooLong = 9
status_of ReadFault = 10
status_of OutOfMemory = 12

-- the first word of the name, which is the whole name of all but one
abbrev pub word_of : Refusal → List ℕ
word_of Usage = codes "Usage"
word_of Hex = codes "Hex"
word_of CmsDecode = codes "CmsDecode"
word_of XmlError = codes "XmlError"
word_of CertSyntax = codes "CertSyntax"
word_of InvalidCsrSyntax = codes "InvalidCsrSyntax"
word_of InvalidTaCertEncoding = codes "InvalidTaCertEncoding"
word_of InvalidTaCert = codes "InvalidTaCert"
word_of (Validation n) = codes "Validation"
word_of KeyNotFound = codes "KeyNotFound"
word_of IncompatibleKey = codes "IncompatibleKey"
word_of KeyReused = codes "KeyReused"
word_of Signer = codes "Signer"
word_of Moment = codes "Moment"
word_of TooLong = codes "TooLong"
word_of ReadFault = codes "ReadFault"
word_of OutOfMemory = codes "OutOfMemory"

-- the name of a refusal: its word, and behind that of Validation a space and the number of the
-- check in decimal
abbrev pub name_of : Refusal → List ℕ
name_of (Validation n) = codes "Validation" ++ codes " " ++ decimal n
name_of refusal = word_of refusal
