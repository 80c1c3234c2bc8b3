-- Values, each with its exact octets (X.690, 8.1).
use Rattle.std.specs.Prelude.{◌≡◌, ℕ, false, true, List, [], ◌∷◌, ◌++◌, length, ⊤}
use Rattle.rpki_der.specs.declared.mode.Mode.{Mode}
use Rattle.rpki_der.specs.declared.mode.Mode.TheVariants.{Ber, Der}
use Rattle.rpki_der.specs.Identifier.{IsIdentifier, is_constructed}
use Rattle.rpki_der.specs.Lengths.{IsLength}

-- how long the contents of a constructed value are: by length octets, or up to 00 00
pub data Form : Type 0 where
  Definite : (octets : List ℕ) → Form
  Indefinite : Form

-- a value is primitive, with its contents octets, or constructed, with the values inside it; and
-- values in turn
mutual
  pub data Value : Type 0 where
    Primitive : (identifier lengths contents : List ℕ) → Value
    Constructed : (identifier : List ℕ) (form : Form) (inner : Values) → Value

  pub data Values : Type 0 where
    End : Values
    ◌▸◌ : Value → Values → Values

infixr 20 ◌▸◌
-- the length octets of a constructed value; those of the indefinite form are 80 (8.1.3.6)
abbrev pub lengths_of : Form → List ℕ
lengths_of (Definite octets) = octets
lengths_of Indefinite = 128 ∷ []

-- the end-of-contents octets: 00 00 in the indefinite form, and none in the definite one (8.1.5)
abbrev pub end_mark : Form → List ℕ
end_mark (Definite octets) = []
end_mark Indefinite = 0 ∷ 0 ∷ []

-- the octets that spell a value, and those that spell values in turn
abbrev mutual
  pub spelling : Value → List ℕ
  spelling (Primitive identifier lengths contents) = identifier ++ (lengths ++ contents)
  spelling (Constructed identifier form inner) =
      identifier ++ (lengths_of form ++ (spellings inner ++ end_mark form))

  pub spellings : Values → List ℕ
  spellings End = []
  spellings (v ▸ vs) = spelling v ++ spellings vs

-- the form is lawful in the mode, where the contents have n octets; the indefinite form is in BER
-- alone
abbrev pub IsForm : Mode → Form → ℕ → Type 0
IsForm mode (Definite octets) n = IsLength mode octets n
IsForm Ber Indefinite n = ⊤
IsForm Der Indefinite n = ⊥

-- a value is lawful in the mode: its identifier says its form, its length fits its contents, and
-- the values inside it are lawful; and values in turn are
abbrev mutual
  pub IsValue : Mode → Value → Type 0
  IsValue mode (Primitive identifier lengths contents) =
      IsIdentifier identifier × (is_constructed identifier ≡ false)
      × IsLength mode lengths (length contents)
  IsValue mode (Constructed identifier form inner) =
      IsIdentifier identifier × (is_constructed identifier ≡ true)
      × IsForm mode form (length (spellings inner)) × AreValues mode inner

  pub AreValues : Mode → Values → Type 0
  AreValues mode End = ⊤
  AreValues mode (v ▸ vs) = IsValue mode v × AreValues mode vs

-- v stands at the beginning of the octets, and rest behind it
pub record Begins (mode : Mode) (octets : List ℕ) (v : Value) (rest : List ℕ) : Type 0 where
  pub lawful : IsValue mode v
  pub parts : octets ≡ spelling v ++ rest
