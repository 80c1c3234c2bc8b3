-- What the code holds, as values: the nodes of the document in memory, and the names of a writer's
-- open elements.
use Rattle.std.specs.Prelude.{ℕ, List, [], map, reverse, Option, Some, None, String, string_bytes}
use Rattle.std.specs.Option.{option_map}
use Rattle.rpki_xml.specs.declared.element.Node as declared_node
use Rattle.rpki_xml.specs.declared.element.Attribute.{Attribute as Lent}
use Rattle.rpki_xml.specs.declared.element.Rest.{Rest}
use Rattle.rpki_xml.specs.declared.element.Rest.TheVariants as rest
use Rattle.rpki_xml.specs.declared.kept.Named.{Named}
use Rattle.rpki_xml.specs.declared.kept.Text.{Text}
use Rattle.rpki_xml.specs.Element.{Attribute, Head}
use Rattle.rpki_xml.specs.Kept.{name_from, part_of, kept_text, attributes_of}
use Rattle.rpki_xml.specs.Nodes.{Slot}

-- the text of a node
abbrev pub text_in : List ℕ → Rest → List ℕ
text_in source (rest.Plain start end) = part_of start end source
text_in source (rest.Own octets) = octets.value.items
text_in source (rest.Bare attributes) = []
text_in source (rest.Attributed more) = kept_text source more.value.text
text_in source (rest.Namespaced more) = kept_text source more.value.text

-- the namespace of a node, where it has one
abbrev pub namespace_in : List ℕ → Rest → Option (List ℕ)
namespace_in source (rest.Plain start end) = None
namespace_in source (rest.Own octets) = None
namespace_in source (rest.Bare attributes) = None
namespace_in source (rest.Attributed more) = None
namespace_in source (rest.Namespaced more) = Some (kept_text source more.value.namespace)

-- the attributes of a node
abbrev pub attributes_in : List ℕ → Rest → List Attribute
attributes_in source (rest.Plain start end) = []
attributes_in source (rest.Own octets) = []
attributes_in source (rest.Bare attributes) = attributes_of source attributes.value.items
attributes_in source (rest.Attributed more) = attributes_of source more.value.attributes.items
attributes_in source (rest.Namespaced more) = attributes_of source more.value.attributes.items

-- what a node holds beside its name: text, namespace and attributes
pub record Parts : Type 0 where
  pub text : List ℕ
  pub namespace : Option (List ℕ)
  pub attributes : List Attribute

-- text, namespace and attributes that are kept as places of a document, or by themselves
abbrev pub parts_of : List ℕ → Text → Option Text → List Named → Parts
parts_of source text namespace attributes = record {
  text = kept_text source text;
  namespace = option_map (kept_text source) namespace;
  attributes = attributes_of source attributes;
}

-- text, namespace and attributes of a node
abbrev pub parts_in : List ℕ → Rest → Parts
parts_in source r = record {
  text = text_in source r;
  namespace = namespace_in source r;
  attributes = attributes_in source r;
}

-- an attribute that is lent
abbrev pub lent : Lent → Attribute
lent a = record { name = a.name.now; value = a.value.now }

-- what a node of a document means
abbrev pub head_of : List ℕ → declared_node.Node → Head
head_of source n = record {
  name = name_from source n.name;
  namespace = namespace_in source n.rest;
  attributes = attributes_in source n.rest;
  text = text_in source n.rest;
}

-- the nodes of a document as slots: each one's head, and how many nodes are below it
abbrev pub slots : List ℕ → List declared_node.Node → List Slot
slots source nodes = map (λ n. record { head = head_of source n; below = n.below }) nodes

-- the names that a writer holds, the innermost last
abbrev pub names_of : {Z : Type 0} → List (String Z) → List (List ℕ)
names_of names = reverse (map string_bytes names)
