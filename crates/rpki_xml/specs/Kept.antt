-- What stands at places of a document that is lent: a means for the document in memory.
use Rattle.std.specs.Prelude.{◌≡◌, ◌++◌, ℕ, List, map, take, drop}
use Rattle.rpki_xml.specs.declared.kept.Text.{Text}
use Rattle.rpki_xml.specs.declared.kept.Text.TheVariants as variant
use Rattle.rpki_xml.specs.declared.kept.Named.{Named}
use Rattle.rpki_xml.specs.Element.{Attribute}
use Rattle.rpki_xml.specs.Lexing.{front_of}
use Rattle.rpki_xml.specs.Name.{is_name_octet}

-- the document ends with these octets
pub record HasBack (source back : List ℕ) : Type 0 where
  pub front : List ℕ
  pub is : source ≡ front ++ back

-- the name that begins at a place of a document
abbrev pub name_from : List ℕ → ℕ → List ℕ
name_from source start = front_of is_name_octet (drop start source)

-- the octets between two places of a document
abbrev pub part_of : ℕ → ℕ → List ℕ → List ℕ
part_of start end source = drop start (take end source)

-- a text that is kept as two places of a document, or by itself
abbrev pub kept_text : List ℕ → Text → List ℕ
kept_text source (variant.At start end) = part_of start end source
kept_text source (variant.Own octets) = octets.value.items

-- an attribute whose name begins at a place of a document
abbrev pub attribute_of : List ℕ → Named → Attribute
attribute_of source a = record { name = name_from source a.name; value = kept_text source a.value }

-- attributes whose names begin at places of a document
abbrev pub attributes_of : List ℕ → List Named → List Attribute
attributes_of source list = map (attribute_of source) list
