-- A document while it is written.
use Rattle.std.specs.Prelude.{ℕ, List, [], ◌∷◌, ◌++◌, Bool, true, false, Option, Some, None, if◌then◌else◌, drop, codes}
use Rattle.rpki_xml.specs.Element.{Attribute, Head, Elements, none, first, Element, alone}
use Rattle.rpki_xml.specs.Spelling.{spelled_text, spelled_attribute, spelled_end, spelled_all}

-- the octets so far, the names of the open elements, the innermost first, and whether the innermost
-- one's start still takes attributes
pub record Draft : Type 0 where
  pub octets : List ℕ
  pub open_names : List (List ℕ)
  pub in_start : Bool

-- nothing is written, and no element is open
abbrev pub empty_draft : Draft
empty_draft = record { octets = []; open_names = []; in_start = false }

-- the octets, with the innermost start closed by `>`
abbrev pub settled : Bool → List ℕ → List ℕ
settled in_start octets = if in_start then octets ++ 62 ∷ [] else octets

-- the draft with more inside its innermost element
unfoldable pub with_inside : List ℕ → Draft → Draft
with_inside inside d = record {
  octets = settled d.in_start d.octets ++ inside;
  open_names = d.open_names;
  in_start = false;
}

-- the draft after the start of an element with this name, which still takes attributes
unfoldable pub opened : List ℕ → Draft → Draft
opened name d = record {
  octets = settled d.in_start d.octets ++ 60 ∷ name;
  open_names = name ∷ d.open_names;
  in_start = true;
}

-- the draft with an attribute more in the innermost start
unfoldable pub with_attribute : List ℕ → List ℕ → Draft → Draft
with_attribute name value d = record {
  octets = d.octets ++ spelled_attribute name value;
  open_names = d.open_names;
  in_start = d.in_start;
}

-- an empty text leaves the start open
abbrev pub with_text : List ℕ → Draft → Draft
with_text [] d = d
with_text (c ∷ text) d = with_inside (spelled_text (c ∷ text)) d

-- the end of the innermost element: `/>` while its start takes attributes, else its end tag
abbrev pub ending : Bool → List (List ℕ) → List ℕ
ending true names = 47 ∷ 62 ∷ []
ending false [] = []
ending false (name ∷ names) = spelled_end name

-- the innermost element is closed
unfoldable pub closed : Draft → Draft
closed d = record {
  octets = d.octets ++ ending d.in_start d.open_names;
  open_names = drop 1 d.open_names;
  in_start = false;
}

-- the draft with these attributes more in the innermost start, in their order
abbrev pub with_attributes : List Attribute → Draft → Draft
with_attributes [] d = d
with_attributes (a ∷ more) d = with_attributes more (with_attribute a.name a.value d)

-- the attribute with a value that may be absent: none, or one
abbrev pub optional_attribute : List ℕ → Option (List ℕ) → List Attribute
optional_attribute name None = []
optional_attribute name (Some value) = record { name = name; value = value } ∷ []

-- the draft with a declaration of the namespace in the innermost start, where there is one
abbrev pub with_namespace : Option (List ℕ) → Draft → Draft
with_namespace uri d = with_attributes (optional_attribute (codes "xmlns") uri) d

-- the draft with whole elements inside its innermost element
unfoldable pub with_elements : Elements → Draft → Draft
with_elements none d = d
with_elements (first head children rest) d = with_inside (spelled_all (first head children rest)) d

-- the draft with a whole element inside its innermost element
abbrev pub with_element : Element → Draft → Draft
with_element e d = with_elements (alone e) d

-- the draft with an element's start
abbrev pub with_start : Head → Draft → Draft
with_start h d = with_attributes h.attributes (with_namespace h.namespace (opened h.name d))

-- what the calls for an element make of a draft: its start, its text, its children, its end
abbrev pub written : Element → Draft → Draft
written e d = closed (with_elements e.children (with_text e.head.text (with_start e.head d)))
