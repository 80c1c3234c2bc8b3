-- The one spelling that an element is written in.
use Rattle.std.specs.Prelude.{ℕ, Bool, true, false, ◌&&◌, List, [], ◌∷◌, ◌++◌, Option, Some, None, nat_eq, if◌then◌else◌, codes}
use Rattle.std.specs.List.{flat_map}
use Rattle.rpki_xml.specs.Element.{Attribute, Head, Elements, none, first, Element, alone, is_none, is_nil}

-- a character of a text: `&`, `<` and `>` as entities, every other one as itself
abbrev pub text_character : ℕ → List ℕ
text_character c =
    if nat_eq c 38 then codes "&amp;"
    else if nat_eq c 60 then codes "&lt;"
    else if nat_eq c 62 then codes "&gt;"
    else c ∷ []

-- a character of a value: the two quotes as entities too
abbrev pub value_character : ℕ → List ℕ
value_character c =
    if nat_eq c 34 then codes "&quot;"
    else if nat_eq c 39 then codes "&apos;"
    else text_character c

-- a text with its characters spelled one after the other
unfoldable pub spelled_text : List ℕ → List ℕ
spelled_text text = flat_map text_character text

-- a value with its characters spelled one after the other
unfoldable pub spelled_value : List ℕ → List ℕ
spelled_value value = flat_map value_character value

-- ` name="value"`
abbrev pub spelled_attribute : List ℕ → List ℕ → List ℕ
spelled_attribute name value = 32 ∷ (name ++ 61 ∷ 34 ∷ (spelled_value value ++ 34 ∷ []))

-- attributes spelled one after the other
abbrev pub spelled_attributes : List Attribute → List ℕ
spelled_attributes [] = []
spelled_attributes (a ∷ more) = spelled_attribute a.name a.value ++ spelled_attributes more

-- the declaration of a namespace, where there is one
abbrev pub spelled_namespace : Option (List ℕ) → List ℕ
spelled_namespace None = []
spelled_namespace (Some uri) = spelled_attribute (codes "xmlns") uri

-- `<name` and the attributes
abbrev pub spelled_start : Head → List ℕ
spelled_start h =
    60 ∷ (h.name ++ (spelled_namespace h.namespace ++ spelled_attributes h.attributes))

-- `</name>`
abbrev pub spelled_end : List ℕ → List ℕ
spelled_end name = 60 ∷ 47 ∷ (name ++ 62 ∷ [])

-- what follows the attributes: `/>` where nothing is inside, else `>`, what is inside, and the end
abbrev pub spelled_inside : Bool → List ℕ → List ℕ → List ℕ
spelled_inside true name inside = 47 ∷ 62 ∷ []
spelled_inside false name inside = 62 ∷ (inside ++ spelled_end name)

-- elements spelled one after the other, each with what is inside it
abbrev pub spelled_all : Elements → List ℕ
spelled_all none = []
spelled_all (first head children rest) =
    (spelled_start head
    ++ spelled_inside (is_nil head.text && is_none children) head.name
    (spelled_text head.text ++ spelled_all children))
    ++ spelled_all rest

-- an element spelled with all that is inside it
abbrev pub spelled : Element → List ℕ
spelled e = spelled_all (alone e)
