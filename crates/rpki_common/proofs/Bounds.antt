-- What stands in front of a `>>=` that gives something, or under a test.
use Rattle.std.proofs.Common.{◌≡◌, Bool, true, false, Option, None, Some, refl}
use Rattle.std.specs.Prelude.{if◌then◌else◌}
use Rattle.rpki_common.specs.Chaining.{◌>>=◌}
use Rattle.rpki_common.proofs.Truths.{none_some}

pub record Bound {X Y : Type 0} (o : Option X) (f : X → Option Y) (y : Y) : Type 0 where
  pub x : X
  pub found : o ≡ Some x
  pub then' : f x ≡ Some y

pub bound : {X Y : Type 0} (o : Option X) (f : X → Option Y) (y : Y) → (o >>= f) ≡ Some y → Bound o f y
unfolding ◌>>=◌
bound None f y e = absurd (none_some y e)
bound (Some x) f y e = record { x = x; found = refl; then' = e }

pub chosen : {X : Type 0} (b : Bool) (o : Option X) (x : X) → (if b then o else None) ≡ Some x → o ≡ Some x
chosen true o x e = e
chosen false o x e = absurd (none_some x e)
