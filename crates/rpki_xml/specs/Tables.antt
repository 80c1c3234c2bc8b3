-- What a table of messages asks of an element: which name, which attributes, which text, which
-- children. Names are compared by their local parts.
use Rattle.std.specs.Prelude.{ℕ, List, [], ◌∷◌, Bool, true, false, ◌&&◌, Option, Some, None, filter}
use Rattle.std.specs.List.{list_any}
use Rattle.std.specs.Str.{bytes_eq}
use Rattle.rpki_common.specs.Chaining.{◌>>=◌}
use Rattle.rpki_common.specs.Items as items
use Rattle.rpki_xml.specs.Element.{Attribute, Head, Elements, none, first, Element, is_none, is_nil}
use Rattle.rpki_xml.specs.Name.{local_name}

-- a test that must pass
abbrev pub require : Bool → Option (Unit {0})
require true = Some tt
require false = None

-- ---- names

-- whether an element has this local name
abbrev pub is_named : List ℕ → Head → Bool
is_named local h = bytes_eq (local_name h.name) local

-- whether an attribute has this local name
abbrev pub is_called : List ℕ → Attribute → Bool
is_called local a = bytes_eq (local_name a.name) local

-- whether an attribute has one of these local names
abbrev pub is_listed : List (List ℕ) → Attribute → Bool
is_listed locals a = list_any (λ local. is_called local a) locals

-- ---- attributes

-- the value of an attribute, which is always there
abbrev pub value_of : Attribute → Option (List ℕ)
value_of a = Some a.value

-- the value of the attribute with this local name, where it is there. Two of them are refused
unfoldable pub optional : List ℕ → Head → Option (Option (List ℕ))
optional local h = items.at_most_one value_of (filter (is_called local) h.attributes)

-- the value of the attribute with this local name, which is there exactly once
unfoldable pub required : List ℕ → Head → Option (List ℕ)
required local h = items.the_one value_of (filter (is_called local) h.attributes)

-- no attributes but those with these local names
unfoldable pub only_listed : List (List ℕ) → Head → Option (Unit {0})
only_listed locals h = items.only (is_listed locals) h.attributes

-- what a rule reads of a text that may be absent: it must be lawful where it is there
abbrev pub where_there : {X : Type 0} → (List ℕ → Option X) → Option (List ℕ) → Option (Option X)
where_there rule None = Some None
where_there rule (Some text) = rule text >>= λ x. Some (Some x)

-- what a rule reads of the attribute with this local name, which must be lawful where it is there
unfoldable pub optional_by : {X : Type 0} → (List ℕ → Option X) → List ℕ → Head → Option (Option X)
optional_by rule local h = optional local h >>= where_there rule

-- whether a value is absent, or the given one
abbrev pub is_or_absent : Option (List ℕ) → List ℕ → Bool
is_or_absent None text = true
is_or_absent (Some value) text = bytes_eq value text

-- the attribute with this local name has the given value where it is there
unfoldable pub given_or_absent : List ℕ → List ℕ → Head → Option (Unit {0})
given_or_absent local text h = optional local h >>= λ value. require (is_or_absent value text)

-- ---- children and text

-- neither child nor text
abbrev pub is_empty : Element → Bool
is_empty e = is_none e.children && is_nil e.head.text

-- whether there is a first element, with this local name
abbrev pub is_first_named : List ℕ → Elements → Bool
is_first_named local none = false
is_first_named local (first head children rest) = is_named local head

-- exactly one element
abbrev pub the_child : Elements → Option Element
the_child none = None
the_child (first head children none) = Some (record { head = head; children = children })
the_child (first head children (first h cs rest)) = None

-- no element, or exactly one
abbrev pub at_most_one_child : Elements → Option (Option Element)
at_most_one_child none = Some None
at_most_one_child (first head children none) =
    Some (Some (record { head = head; children = children }))
at_most_one_child (first head children (first h cs rest)) = None

-- no element
abbrev pub no_child : Elements → Option (Unit {0})
no_child none = Some tt
no_child (first head children rest) = None

-- what each of the elements is read as, where each is
unfoldable pub each_of : {X : Type 0} → (Element → Option X) → Elements → Option (List X)
each_of f none = Some []
each_of f (first head children rest) =
    f (record { head = head; children = children }) >>= λ x. each_of f rest >>= λ xs. Some (x ∷ xs)
