-- What calls answer.
use Rattle.std.specs.Prelude.{◌≡◌, ℕ, List, Option, Some, None, Result, Ok, Err}
use Rattle.rpki_xml.specs.declared.error.Mismatch.{Mismatch}
use Rattle.rpki_xml.specs.declared.error.XmlError.{XmlError}
use Rattle.rpki_xml.specs.declared.error.XmlError.TheVariants as errors
use Rattle.rpki_xml.specs.Element.{Element}
use Rattle.rpki_xml.specs.Lexing.{IsDocument}

-- What a call without memory answered, seen by `view`, is what the definition gives, and Mismatch
-- comes exactly where it gives nothing.
abbrev pub Matches : {X Y : Type 0} → Option Y → (X → Y) → Result X Mismatch → Type 0
Matches given view (Ok x) = given ≡ Some (view x)
Matches given view (Err e) = given ≡ None

-- Malformed comes exactly where the definition gives nothing. OutOfMemory says nothing.
abbrev pub Fails : {Y : Type 0} → XmlError → Option Y → Type 0
Fails errors.OutOfMemory given = Unit {0}
Fails errors.Malformed given = given ≡ None

-- What a call that takes memory answered, seen by `view`, is what the definition gives, and it
-- fails where that gives nothing.
abbrev pub Gives : {X Y : Type 0} → Option Y → (X → Y) → Result X XmlError → Type 0
Gives given view (Ok x) = given ≡ Some (view x)
Gives given view (Err e) = Fails e given

-- Malformed comes exactly where the octets are no document. OutOfMemory says nothing.
abbrev pub IsDocumentRefused : XmlError → List ℕ → Type 0
IsDocumentRefused errors.OutOfMemory b = Unit {0}
IsDocumentRefused errors.Malformed b = (x : Element) → IsDocument b x → ⊥
