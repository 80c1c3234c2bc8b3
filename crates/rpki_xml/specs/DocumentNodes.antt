-- The one element of a document, as it lies in the list of nodes: a means for the document in
-- memory.
use Rattle.std.specs.Prelude.{◌≡◌, ℕ, List, [], ◌∷◌, Option, None, drop, if◌then◌else◌}
use Rattle.std.specs.List.{list_all}
use Rattle.rpki_xml.specs.declared.element.Node.{Node}
use Rattle.rpki_xml.specs.declared.document.Document.{Document}
use Rattle.rpki_xml.specs.Element.{Elements, none, first, Element, alone}
use Rattle.rpki_xml.specs.Content.{is_white}
use Rattle.rpki_xml.specs.Tables.{the_child}
use Rattle.rpki_xml.specs.Nodes.{flat, tree_of}
use Rattle.rpki_xml.specs.Views.{slots}
use Rattle.rpki_xml.specs.Stack.{Open, bare_head}

-- the first of elements, and a bare one where there is none
abbrev pub first_of : Elements → Element
first_of none = record { head = bare_head []; children = none }
first_of (first head children rest) = record { head = head; children = children }

-- the element behind the document's own node
unfoldable pub root_of : List ℕ → List Node → Element
root_of source nodes = first_of (tree_of (slots source (drop 1 nodes)))

-- behind it there is one element, and nothing else
abbrev pub IsWholeDocument : List ℕ → List Node → Type 0
IsWholeDocument source nodes = slots source (drop 1 nodes) ≡ flat (alone (root_of source nodes))

-- the element of a document in memory
abbrev pub root_of_document : Document → Element
root_of_document d = root_of d.source.now d.nodes.items

-- behind the own node of a document in memory there is one element, and nothing else
abbrev pub IsWholeIn : Document → Type 0
IsWholeIn d = IsWholeDocument d.source.now d.nodes.items

-- the element of a document whose pieces were all read
unfoldable pub root_of_opens : List Open → Option Element
root_of_opens [] = None
root_of_opens (d ∷ []) = if list_all is_white d.head.text then the_child d.done else None
root_of_opens (d ∷ o ∷ outer) = None
