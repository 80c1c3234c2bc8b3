-- What a document is: the grammar over pieces, by cases. Lexing says which octets each piece is.
use Rattle.std.specs.Prelude.{◌≡◌, ℕ, List, [], ◌∷◌, ◌++◌, Bool, true, false, ◌&&◌, ◌||◌, not, Option, Some, None, nat_eq, reverse, filter, if◌then◌else◌, codes}
use Rattle.std.specs.List.{list_all}
use Rattle.std.specs.Str.{bytes_eq}
use Rattle.rpki_xml.specs.Element.{Attribute, Head, Elements, none, first, Element, alone}
use Rattle.rpki_xml.specs.Name.{prefix_of}

-- an element's whole name, and all its attributes as they stand in its start
pub record Tag : Type 0 where
  pub name : List ℕ
  pub attributes : List Attribute

-- what a document is made of, from left to right
pub data Piece : Type 0 where
  -- a text run, its entities resolved
  run : List ℕ → Piece
  -- a comment or an instruction
  passed_over : Piece
  -- `<name attributes/>`
  leaf : Tag → Piece
  -- `<name attributes>`
  start : Tag → Piece
  -- `</name>`
  end : List ℕ → Piece

-- a content: text runs, passed-over pieces and elements in any mixture, up to its end
pub data Content : Type 0 where
  nothing : Content
  and_run : List ℕ → Content → Content
  and_passed_over : Content → Content
  and_leaf : Tag → Content → Content
  and_element : Tag → Content → Content → Content

-- the pieces of a content. The start and the end of an element have the same whole name
abbrev pub pieces : Content → List Piece
pieces nothing = []
pieces (and_run text more) = run text ∷ pieces more
pieces (and_passed_over more) = passed_over ∷ pieces more
pieces (and_leaf tag more) = leaf tag ∷ pieces more
pieces (and_element tag inside more) = start tag ∷ (pieces inside ++ end tag.name ∷ pieces more)

-- ---- namespaces

-- what follows a front, where the front is there
abbrev pub behind : List ℕ → List ℕ → Option (List ℕ)
behind [] b = Some b
behind (c ∷ front) [] = None
behind (c ∷ front) (d ∷ b) = if nat_eq d c then behind front b else None

-- whether there is no text
abbrev pub is_none_of : Option (List ℕ) → Bool
is_none_of None = true
is_none_of (Some text) = false

-- whether a text is there, and is this one
abbrev pub is_text : List ℕ → Option (List ℕ) → Bool
is_text text None = false
is_text text (Some other) = bytes_eq other text

-- whether an attribute's name declares the namespace of a prefix, or of names without one:
-- `xmlns:p` for the prefix p, or `xmlns`
unfoldable pub declares : Option (List ℕ) → List ℕ → Bool
declares None declaration = bytes_eq declaration (codes "xmlns")
declares (Some prefix) declaration = is_text prefix (behind (codes "xmlns:") declaration)

-- the first value that declares a prefix's namespace
abbrev pub declared : Option (List ℕ) → List Attribute → Option (List ℕ)
declared prefix [] = None
declared prefix (a ∷ more) = if declares prefix a.name then Some a.value else declared prefix more

-- a declaration of the empty text declares nothing
abbrev pub not_empty : Option (List ℕ) → Option (List ℕ)
not_empty None = None
not_empty (Some []) = None
not_empty (Some (c ∷ text)) = Some (c ∷ text)

-- the namespace of an element by its own declarations, where there is one and it is not empty
unfoldable pub namespace_of : Tag → Option (List ℕ)
namespace_of tag = not_empty (declared (prefix_of tag.name) tag.attributes)

-- whether an attribute is `xmlns` or has that prefix
unfoldable pub is_declaration : Attribute → Bool
is_declaration a =
    bytes_eq a.name (codes "xmlns") || not (is_none_of (behind (codes "xmlns:") a.name))

-- the attributes of an element: all but declarations
abbrev pub handed_on : List Attribute → List Attribute
handed_on list = filter (λ a. not (is_declaration a)) list

-- whether no two attributes have one whole name
abbrev pub is_distinct : List Attribute → Bool
is_distinct [] = true
is_distinct (a ∷ more) = list_all (λ b. not (bytes_eq a.name b.name)) more && is_distinct more

-- ---- what a content means

-- white space: tab, line feed, carriage return and space
abbrev pub is_white : ℕ → Bool
is_white c = nat_eq c 9 || nat_eq c 10 || nat_eq c 13 || nat_eq c 32

-- a text from its first octet on that is no white space
abbrev pub without_white : List ℕ → List ℕ
without_white [] = []
without_white (c ∷ text) = if is_white c then without_white text else c ∷ text

-- a text with outer white space dropped
unfoldable pub trimmed : List ℕ → List ℕ
trimmed text = reverse (without_white (reverse (without_white text)))

-- the runs of a content joined, those of its elements left out
abbrev pub characters : Content → List ℕ
characters nothing = []
characters (and_run text more) = text ++ characters more
characters (and_passed_over more) = characters more
characters (and_leaf tag more) = characters more
characters (and_element tag inside more) = characters more

-- the text of an element with these children and runs: none beside a child, else the runs without
-- outer white space
abbrev pub text_of_content : Elements → List ℕ → List ℕ
text_of_content none text = trimmed text
text_of_content (first head children rest) text = []

-- the head that a start gives, and this text
abbrev pub head_of_tag : Tag → List ℕ → Head
head_of_tag tag text = record {
  name = tag.name;
  namespace = namespace_of tag;
  attributes = handed_on tag.attributes;
  text = text;
}

-- the elements of a content, each with its own content's elements as its children
abbrev pub elements_in : Content → Elements
elements_in nothing = none
elements_in (and_run text more) = elements_in more
elements_in (and_passed_over more) = elements_in more
elements_in (and_leaf tag more) = first (head_of_tag tag []) none (elements_in more)
elements_in (and_element tag inside more) =
    first (head_of_tag tag (text_of_content (elements_in inside) (characters inside)))
    (elements_in inside) (elements_in more)

-- beside a child element all runs are white space
abbrev pub fits : Elements → List ℕ → Bool
fits none text = true
fits (first head children rest) text = list_all is_white text

-- in each start no two attributes have one whole name, and each element has a child or a text, not
-- both
abbrev pub IsLawful : Content → Type 0
IsLawful nothing = Unit {0}
IsLawful (and_run text more) = IsLawful more
IsLawful (and_passed_over more) = IsLawful more
IsLawful (and_leaf tag more) = (is_distinct tag.attributes ≡ true) × IsLawful more
IsLawful (and_element tag inside more) =
    (is_distinct tag.attributes ≡ true)
    × (IsLawful inside
    × ((fits (elements_in inside) (characters inside) ≡ true) × IsLawful more))

-- a content of exactly one element, with nothing but white space and passed-over pieces round it
pub record IsElement (list : List Piece) (x : Element) : Type 0 where
  pub content : Content
  pub spelled : pieces content ≡ list
  pub lawful : IsLawful content
  pub only : elements_in content ≡ alone x
  pub white : list_all is_white (characters content) ≡ true
