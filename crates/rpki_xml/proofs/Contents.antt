-- The content that an element is written as.
use Rattle.std.proofs.Common.{ℕ, List, [], ◌∷◌, ◌++◌, Bool, true, false, ◌&&◌, Option, Some, None}
use Rattle.std.specs.Prelude.{codes}
use Rattle.rpki_xml.specs.Element.{Attribute, Head, Elements, none, first, is_none, is_nil}
use Rattle.rpki_xml.specs.Content.{Tag, Content, nothing, and_run, and_leaf, and_element}

abbrev pub declaration : Option (List ℕ) → List Attribute
declaration None = []
declaration (Some uri) = record { name = codes "xmlns"; value = uri } ∷ []

abbrev pub tag_of : Head → Tag
tag_of h = record { name = h.name; attributes = declaration h.namespace ++ h.attributes }

abbrev pub text_content : List ℕ → Content → Content
text_content [] more = more
text_content (c ∷ text) more = and_run (c ∷ text) more

abbrev pub element_content : Bool → Tag → Content → Content → Content
element_content true tag inside more = and_leaf tag more
element_content false tag inside more = and_element tag inside more

abbrev pub content_of : Elements → Content
content_of none = nothing
content_of (first head children rest) = element_content (is_nil head.text && is_none children) (tag_of head) (text_content head.text (content_of children)) (content_of rest)
