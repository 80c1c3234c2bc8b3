-- Reading piece by piece, with the elements that are still open: a means for the reader, tied to
-- Content by proofs/Stacks.antt.
use Rattle.std.specs.Prelude.{ℕ, List, [], ◌∷◌, ◌++◌, ◌&&◌, Option, Some, None, if◌then◌else◌, length, take, drop, reverse, ◌≡◌, nat_eq}
use Rattle.std.specs.List.{list_all}
use Rattle.std.specs.Str.{bytes_eq}
use Rattle.rpki_xml.specs.Element.{Head, Elements, none, Element, alone, joined_elements}
use Rattle.rpki_xml.specs.Nodes.{Slot, flat, tree_of}
use Rattle.rpki_xml.specs.Views.{slots, Parts}
use Rattle.rpki_xml.specs.declared.element.Node.{Node}
use Rattle.rpki_common.specs.Chaining.{◌>>=◌}
use Rattle.rpki_xml.specs.Content.{Piece, run, passed_over, leaf, start, end, head_of_tag, text_of_content, fits, is_distinct, is_white, trimmed}

-- an element that is still open: its head, whose text is the text so far, and its children so far
pub record Open : Type 0 where
  pub head : Head
  pub done : Elements

-- a head with this name, and nothing else
abbrev pub bare_head : List ℕ → Head
bare_head name = record { name = name; namespace = None; attributes = []; text = [] }

-- a head with this text in the place of its own
abbrev pub head_with_text : List ℕ → Head → Head
head_with_text text h = record {
  name = h.name;
  namespace = h.namespace;
  attributes = h.attributes;
  text = text;
}

-- an element whose start was read, with nothing inside yet
abbrev pub open_started : Head → Open
open_started h = record { head = h; done = none }

-- the document itself, whose content is read like an element's
abbrev pub whole : Open
whole = open_started (bare_head [])

-- an open element after more text and more children
abbrev pub and_more : List ℕ → Elements → Open → Open
and_more text children o = record {
  head = head_with_text (o.head.text ++ text) o.head;
  done = joined_elements o.done children;
}

-- an open element at its end: the text it has then, and its children
abbrev pub open_ended : Open → Element
open_ended o =
    record { head = head_with_text (text_of_content o.done o.head.text) o.head; children = o.done }

-- the open elements, the innermost first, after one run more
unfoldable pub add_run : List ℕ → List Open → Option (List Open)
add_run text [] = None
add_run text (o ∷ outer) = Some (and_more text none o ∷ outer)

-- the open elements after an element without children inside the innermost one
unfoldable pub add_element : Head → List Open → Option (List Open)
add_element head [] = None
add_element head (o ∷ outer) =
    Some (and_more [] (alone (record { head = head; children = none })) o ∷ outer)

-- the open elements after the start of an element inside the innermost one
unfoldable pub begin_element : Head → List Open → Option (List Open)
begin_element head [] = None
begin_element head (o ∷ outer) = Some (open_started head ∷ o ∷ outer)

-- the open elements after the end of the innermost one, if that has this name and may have its text
unfoldable pub end_element : List ℕ → List Open → Option (List Open)
end_element name [] = None
end_element name (o ∷ []) = None
end_element name (o ∷ p ∷ outer) =
    if bytes_eq o.head.name name && fits o.done o.head.text
    then Some (and_more [] (alone (open_ended o)) p ∷ outer)
    else None

-- the open elements after one piece more
abbrev pub step : Piece → List Open → Option (List Open)
step (run text) opens = add_run text opens
step passed_over opens = Some opens
step (leaf tag) opens =
    if is_distinct tag.attributes then add_element (head_of_tag tag []) opens else None
step (start tag) opens =
    if is_distinct tag.attributes then begin_element (head_of_tag tag []) opens else None
step (end name) opens = end_element name opens

-- the open elements after these pieces
abbrev pub steps : List Piece → List Open → Option (List Open)
steps [] opens = Some opens
steps (piece ∷ more) opens = step piece opens >>= λ after. steps more after

-- ---- the open elements as they lie in a flat list

-- an open element, the elements below which aren't counted yet
abbrev pub open_slot : Open → Slot
open_slot o = record { head = o.head; below = 0 }

-- the open elements and their children so far, in the order of their starts
abbrev pub slots_of : List Open → List Slot
slots_of [] = []
slots_of (o ∷ outer) = slots_of outer ++ open_slot o ∷ flat o.done

-- where the open elements stand, the innermost first
abbrev pub places_of : List Open → List ℕ
places_of [] = []
places_of (o ∷ outer) = length (slots_of outer) ∷ places_of outer

-- the open element that begins a list
abbrev pub open_at : List Slot → List Open
open_at [] = []
open_at (s ∷ list) = record { head = s.head; done = tree_of list } ∷ []

-- the open elements at these places
abbrev pub opens_of : List Slot → List ℕ → List Open
opens_of list [] = []
opens_of list (i ∷ places) = open_at (drop i list) ++ opens_of (take i list) places

-- the open elements that the code holds of a document
unfoldable pub held : List ℕ → List Node → List ℕ → List Open
held source nodes places = opens_of (slots source nodes) (reverse places)

-- what the code holds is open elements, and nothing else
pub record AreOpensHeld (source : List ℕ) (nodes : List Node) (places : List ℕ) : Type 0 where
  pub nodes_are : slots source nodes ≡ slots_of (held source nodes places)
  pub places_are : reverse places ≡ places_of (held source nodes places)

-- the text of an element with so many elements below it, if it may have one
abbrev pub open_text : ℕ → List ℕ → Option (List ℕ)
open_text below text =
    if nat_eq below 0 then Some (trimmed text)
    else if list_all is_white text then Some []
    else None

-- an element's parts with this text
abbrev pub with_part : List ℕ → Parts → Parts
with_part text parts = record {
  text = text;
  namespace = parts.namespace;
  attributes = parts.attributes;
}

-- an element's parts with this text behind its text
abbrev pub with_more_text : List ℕ → Parts → Parts
with_more_text text parts = with_part (parts.text ++ text) parts

-- an element's parts at its end, with so many elements below it, if it may have its text
unfoldable pub settled_parts : ℕ → Parts → Option Parts
settled_parts below parts = open_text below parts.text >>= λ text. Some (with_part text parts)
