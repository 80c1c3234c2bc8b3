-- Values as their octets spell them, and the values inside a value.
use Rattle.std.specs.Prelude.{ℕ, Option, None, Some, List, [], ◌∷◌, ◌++◌}
use Rattle.rpki_der.specs.declared.mode.Mode.TheVariants.{Ber}
use Rattle.rpki_der.specs.Value.{Value, Primitive, Constructed, Values, End, ◌▸◌}
use Rattle.rpki_der.specs.Reader.{value_at}

-- the value, if there is one
abbrev pub value_of : Option (Value × List ℕ) → Value
value_of None = Primitive [] [] []
value_of (Some v) = v.0

-- the values inside a value
abbrev pub inside : Value → Values
inside (Primitive identifier lengths contents) = End
inside (Constructed identifier form inner) = inner

-- the values as a list, in their order
abbrev pub each : Values → List Value
each End = []
each (v ▸ vs) = v ∷ each vs

-- the value that begins the octets
unfoldable pub value_in : List ℕ → Value
value_in octets = value_of (value_at Ber octets)

-- the values that the octets spell: those inside a SEQUENCE of them
unfoldable pub values_in : List ℕ → Values
values_in octets = inside (value_in (48 ∷ 128 ∷ (octets ++ 0 ∷ 0 ∷ [])))
