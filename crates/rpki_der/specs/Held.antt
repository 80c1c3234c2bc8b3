-- The octets of a level's values, as they stand there; what ends the level isn't among them.
use Rattle.std.specs.Prelude.{ℕ, ◌-◌, Option, Some, List, length, take}
use Rattle.rpki_common.specs.Chaining.{◌>>=◌}
use Rattle.rpki_der.specs.Value.{Value, spelling, Values, spellings}

-- what fields reads of the values, and in front of it their octets
unfoldable pub held : {X : Type 0} → (Values → Option X) → Values → Option (List ℕ × X)
held fields vs = fields vs >>= λ x. Some (spellings vs, x)

-- values of any kind, as their octets
abbrev pub as_octets : Values → Option (List ℕ)
as_octets vs = Some (spellings vs)

-- the octets of a value that the grammar reads
unfoldable pub octets_of : {X : Type 0} → (Value → Option X) → Value → Option (List ℕ)
octets_of grammar v = grammar v >>= λ x. Some (spelling v)

-- what the grammar reads of a value, and in front of it the value's octets
unfoldable pub with_octets : {X : Type 0} → (Value → Option X) → Value → Option (List ℕ × X)
with_octets grammar v = grammar v >>= λ x. Some (spelling v, x)

-- the octets from start up to those at the end
abbrev pub up_to : List ℕ → List ℕ → List ℕ
up_to start end' = take (length start - length end') start
