-- How the elements of messages are written: an attribute, an element without children. And what a
-- rule reads of an attribute that has to be there.
use Rattle.std.specs.Prelude.{ℕ, List, Option, None}
use Rattle.rpki_common.specs.Chaining.{◌>>=◌}
use Rattle.rpki_xml.specs.Element.{Attribute, Head, none, Element}
use Rattle.rpki_xml.specs.Tables.{required}

-- the attribute with this name and this value
abbrev pub attribute : List ℕ → List ℕ → Attribute
attribute name value = record { name = name; value = value }

-- an element without children
abbrev pub leaf : List ℕ → List Attribute → List ℕ → Element
leaf name attributes text = record {
  head = record { name = name; namespace = None; attributes = attributes; text = text };
  children = none;
}

-- what a rule reads of the attribute with this local name, which is there exactly once and must be
-- lawful
unfoldable pub required_by : {X : Type 0} → (List ℕ → Option X) → List ℕ → Head → Option X
required_by rule local h = required local h >>= rule
