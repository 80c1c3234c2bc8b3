-- The parts of elements that are plain: they are read again.
use Rattle.std.proofs.Common.{◌≡◌, ℕ, true, false, List, None}
use Rattle.std.specs.List.{AllByRecursion}
use Rattle.rpki_text.specs.Uri.{Kind, fault_of}
use Rattle.rpki_xml.specs.Content.{is_declaration, is_distinct, trimmed}
use Rattle.rpki_xml.specs.Element.{Attribute}
use Rattle.rpki_xml.specs.Lettered.{AreOctets}
use Rattle.rpki_xml.specs.PlainElement.{IsPlainName, IsPlainAttribute, IsPlainHead}
use Rattle.rpki_xmltext.specs.Parts.{attribute, leaf}
use Rattle.rpki_xmltext.proofs.Uris.{uri_octets}

-- any value of octets that a document may have, under a plain name that declares nothing
pub attribute_plain : (name value : List ℕ) → IsPlainName name → is_declaration (attribute name value) ≡ false → AreOctets value → IsPlainAttribute (attribute name value)
attribute_plain name value n d v = record { name = n; handed_on = d; value = v }

pub uri_plain : (kind : Kind) (name uri : List ℕ) → IsPlainName name → is_declaration (attribute name uri) ≡ false → fault_of kind uri ≡ None → IsPlainAttribute (attribute name uri)
uri_plain kind name uri n d h = attribute_plain name uri n d (uri_octets kind uri h)

pub leaf_plain : (name : List ℕ) (attributes : List Attribute) (text : List ℕ) → IsPlainName name → AllByRecursion IsPlainAttribute attributes → is_distinct attributes ≡ true
    → trimmed text ≡ text → AreOctets text → IsPlainHead (leaf name attributes text).head
leaf_plain name attributes text n a d t o = record { name = n; namespace = tt; attributes = a; distinct = d; trimmed = t; text = o }
