-- Small integers (X.690, 8.3).
use Rattle.std.specs.Prelude.{ℕ, [], ◌∷◌, Option}
use Rattle.rpki_der.specs.Tags.{integer_tag}
use Rattle.rpki_der.specs.Value.{Value}
use Rattle.rpki_der.specs.Grammar.{primitive, so, exactly}

-- the INTEGER n, for an n below 128: its contents are the one octet n
unfoldable pub integer_is : ℕ → Value → Option (Unit {0})
integer_is n = so (primitive integer_tag) (exactly (n ∷ []))
