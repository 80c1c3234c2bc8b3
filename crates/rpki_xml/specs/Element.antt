-- Elements as values: what a document holds, apart from its spelling.
-- Declarations of namespaces are not among the attributes of an element.
use Rattle.std.specs.Prelude.{ℕ, List, [], ◌∷◌, Bool, true, false, Option}

-- an attribute: its whole name and its value
pub record Attribute : Type 0 where
  pub name : List ℕ
  pub value : List ℕ

-- an element without its children: its whole name, its namespace if it has one, its attributes in
-- their order, its text
pub record Head : Type 0 where
  pub name : List ℕ
  pub namespace : Option (List ℕ)
  pub attributes : List Attribute
  pub text : List ℕ

-- elements that follow each other: none, or a first one with its head and its children, and then
-- the rest
pub data Elements : Type 0 where
  none : Elements
  first : Head → Elements → Elements → Elements

-- an element: its head, and the elements inside it
pub record Element : Type 0 where
  pub head : Head
  pub children : Elements

-- one element alone
abbrev pub alone : Element → Elements
alone e = first e.head e.children none

-- elements, and then more of them
abbrev pub joined_elements : Elements → Elements → Elements
joined_elements none more = more
joined_elements (first head children rest) more = first head children (joined_elements rest more)

-- the elements as a list
abbrev pub listed : Elements → List Element
listed none = []
listed (first head children rest) = record { head = head; children = children } ∷ listed rest

-- the elements that a list gives, one for each item
abbrev pub elements_of : {X : Type 0} → (X → Element) → List X → Elements
elements_of f [] = none
elements_of f (x ∷ xs) = first (f x).head (f x).children (elements_of f xs)

-- whether there is no element
abbrev pub is_none : Elements → Bool
is_none none = true
is_none (first head children rest) = false

-- whether a text is empty
abbrev pub is_nil : List ℕ → Bool
is_nil [] = true
is_nil (c ∷ text) = false
