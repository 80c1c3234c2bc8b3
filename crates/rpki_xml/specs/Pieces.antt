-- What the code's pieces of a document are as values: a means for the reader.
use Rattle.std.specs.Prelude.{ℕ, List}
use Rattle.rpki_xml.specs.declared.lexing.Tag as declared_tag
use Rattle.rpki_xml.specs.declared.lexing.Piece.{Piece as Found}
use Rattle.rpki_xml.specs.declared.lexing.Piece.TheVariants as code
use Rattle.rpki_xml.specs.Content.{Tag, Piece, run, passed_over, leaf, start, end}
use Rattle.rpki_xml.specs.Kept.{name_from, kept_text, attributes_of}

-- a tag of the code: its name and its attributes, as they stand in the document
abbrev pub tag : List ℕ → declared_tag.Tag → Tag
tag source t = record {
  name = name_from source t.name;
  attributes = attributes_of source t.attributes.items;
}

-- a piece of the code, as a piece of the document
abbrev pub piece : List ℕ → Found → Piece
piece source (code.Run text) = run (kept_text source text)
piece source code.PassedOver = passed_over
piece source (code.Leaf t) = leaf (tag source t)
piece source (code.Start t) = start (tag source t)
piece source (code.End name) = end name.now
