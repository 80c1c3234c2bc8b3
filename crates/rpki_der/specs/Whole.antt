-- Octets that hold exactly one value.
use Rattle.std.specs.Prelude.{◌≡◌, ℕ, Option, None, Some, Result, List, [], ◌∷◌, MatchResult, ⊤}
use Rattle.rpki_der.specs.declared.error.DecodeError.{DecodeError}
use Rattle.rpki_der.specs.declared.error.DecodeError.TheVariants.{Malformed, OutOfMemory}
use Rattle.rpki_der.specs.declared.mode.Mode.{Mode}
use Rattle.rpki_common.specs.Chaining.{◌>>=◌}
use Rattle.rpki_der.specs.Reader.{value_at}
use Rattle.rpki_der.specs.Value.{Value, Begins}

-- The octets are one value, which the grammar reads as x, and nothing stands behind it.
pub record IsWhole {X : Type 0} (grammar : Value → Option X) (mode : Mode) (octets : List ℕ)
    (x : X) : Type 0 where
  pub value : Value
  pub begins : Begins mode octets value []
  pub reads : grammar value ≡ Some x

-- what an error of a call on one whole value says: Malformed, that the octets are none that the
-- grammar reads; OutOfMemory, nothing
unfoldable pub RefusesWhole : {X : Type 0} → (Value → Option X) → Mode → List ℕ → DecodeError
    → Type 0
RefusesWhole grammar mode octets Malformed =
    (v : Value) → Begins mode octets v [] → grammar v ≡ None
RefusesWhole grammar mode octets OutOfMemory = ⊤

-- The answer is the one value that the octets are, or Malformed exactly where they are none that
-- the grammar reads.
abbrev pub HoldsOne : {X Y : Type 0} → (Value → Option X) → (Y → X) → Mode → List ℕ
    → Result Y DecodeError → Type 0
HoldsOne grammar view mode octets result =
    MatchResult result (λ y. IsWhole grammar mode octets (view y))
    (RefusesWhole grammar mode octets)

-- ---- the one value that octets are as a function, for the calls that take no memory

-- the value, where no octets stand behind it
abbrev pub whole_alone : Value × List ℕ → Option Value
whole_alone (v, []) = Some v
whole_alone (v, a ∷ more) = None

-- the one value that the octets are, with nothing behind it
unfoldable pub alone : Mode → List ℕ → Option Value
alone mode octets = value_at mode octets >>= whole_alone

-- what the grammar reads of it
unfoldable pub whole_of : {X : Type 0} → (Value → Option X) → Mode → List ℕ → Option X
whole_of grammar mode octets = alone mode octets >>= grammar
