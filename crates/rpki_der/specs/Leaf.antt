-- Primitive values by tag and contents, and a SEQUENCE of one or two of them.
use Rattle.std.specs.Prelude.{ℕ, Option, None, Some, List}
use Rattle.rpki_common.specs.Chaining.{◌>>=◌}
use Rattle.rpki_der.specs.Identifier.{tag_of}
use Rattle.rpki_der.specs.Grammar.{within, first, done}
use Rattle.rpki_der.specs.Tags.{sequence}
use Rattle.rpki_der.specs.Value.{Value, Primitive, Constructed, Values, End, ◌▸◌}

-- the tag and the contents octets of a primitive value
pub record LeafFields : Type 0 where
  pub tag : List ℕ
  pub content : List ℕ

-- a primitive value
abbrev pub leaf : Value → Option LeafFields
leaf (Primitive identifier lengths contents) =
    Some (record { tag = tag_of identifier; content = contents })
leaf (Constructed identifier form inner) = None

-- a further value, if one is left, and the values behind it
unfoldable pub further : {X : Type 0} → (Value → Option X) → Values → Option (Option X × Values)
further field End = Some (None, End)
further field (v ▸ vs) = field v >>= λ x. Some (Some x, vs)

-- a SEQUENCE of one or two primitive values
unfoldable pub one_or_two : Value → Option (LeafFields × Option LeafFields)
one_or_two = within sequence (λ vs. do
  a ← first leaf vs
  b ← further leaf a.1
  done (a.0, b.0) b.1)
