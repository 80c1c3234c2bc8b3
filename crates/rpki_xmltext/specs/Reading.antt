-- What octets are read as, by a table that says which message an element is.
use Rattle.std.specs.Prelude.{◌≡◌, ℕ, List, Option, Some}
use Rattle.rpki_xml.specs.Element.{Element}
use Rattle.rpki_xml.specs.Lexing.{IsDocument}

-- The octets are a document, whose element is the message by the table.
pub record ReadsAs {M : Type 0} (table : Element → Option M) (octets : List ℕ) (m : M) : Type 0
  where
    pub element : Element
    pub document : IsDocument octets element
    pub message : table element ≡ Some m

-- the octets are no message of the table
abbrev pub IsNoMessage : {M : Type 0} → (Element → Option M) → List ℕ → Type 0
IsNoMessage {M} table octets = (m : M) → ReadsAs table octets m → ⊥
