-- How a walk goes on: a means for the loop.
use Rattle.std.specs.Prelude.{◌≡◌, ◌+◌, ◌<◌, length}
use Rattle.rpki_der.specs.Position.{Position}
use Rattle.rpki_der.specs.Walk.{Descends, left_in}

-- over a value, or into a constructed one
pub record GoesOn (old new : Position) : Type 0 where
  pub descends : Descends old.mode old.here old.levels new.here new.levels
  pub mode : new.mode ≡ old.mode
  pub smaller : length new.here + left_in new.levels < length old.here + left_in old.levels
