-- The lawful spellings of an attribute: white space, a name, `=` with white space round it, and a
-- value in either quote.
use Rattle.std.specs.Prelude.{◌≡◌, ℕ, List, [], ◌∷◌, ◌++◌, Bool, true, false, ◌||◌, not, ◌&&◌, nat_eq, codes}
use Rattle.std.specs.List.{list_all}
use Rattle.std.specs.Str.{bytes_eq}
use Rattle.rpki_xml.specs.Content.{is_white}
use Rattle.rpki_xml.specs.Element.{Attribute, is_nil}
use Rattle.rpki_xml.specs.Name.{is_name, is_name_octet}

-- the entity of a character, where it has one
abbrev pub is_entity : ℕ → List ℕ → Bool
is_entity c s =
    (nat_eq c 38 && bytes_eq s (codes "&amp;"))
    || (nat_eq c 60 && bytes_eq s (codes "&lt;"))
    || (nat_eq c 62 && bytes_eq s (codes "&gt;"))
    || (nat_eq c 34 && bytes_eq s (codes "&quot;"))
    || (nat_eq c 39 && bytes_eq s (codes "&apos;"))

-- a character as itself, which is neither `&` nor `<` nor the quote round the value
abbrev pub is_itself : ℕ → ℕ → List ℕ → Bool
is_itself quote c s = bytes_eq s (c ∷ []) && not (nat_eq c 38 || nat_eq c 60 || nat_eq c quote)

-- a value's characters, each as itself or as an entity
abbrev pub IsValueSpelling : ℕ → List (List ℕ) → List ℕ → Type 0
IsValueSpelling quote [] [] = Unit {0}
IsValueSpelling quote [] (c ∷ value) = ⊥
IsValueSpelling quote (s ∷ more) [] = ⊥
IsValueSpelling quote (s ∷ more) (c ∷ value) =
    ((is_itself quote c s || is_entity c s) ≡ true) × IsValueSpelling quote more value

-- spellings one after the other
abbrev pub concatenated : List (List ℕ) → List ℕ
concatenated [] = []
concatenated (s ∷ more) = s ++ concatenated more

-- the octets spell the attribute
pub record IsAttributeSpelling (octets : List ℕ) (a : Attribute) : Type 0 where
  pub before : List ℕ
  pub behind_name : List ℕ
  pub before_value : List ℕ
  pub quote : ℕ
  pub characters : List (List ℕ)
  pub is : octets
      ≡ before ++ (a.name ++ (behind_name ++ 61 ∷
      (before_value ++ quote ∷ (concatenated characters ++ quote ∷ []))))
  pub some_white : is_nil before ≡ false
  pub white : list_all is_white (before ++ (behind_name ++ before_value)) ≡ true
  pub name : is_name a.name ≡ true
  pub name_octets : list_all is_name_octet a.name ≡ true
  pub quoted : (nat_eq quote 34 || nat_eq quote 39) ≡ true
  pub value : IsValueSpelling quote characters a.value
