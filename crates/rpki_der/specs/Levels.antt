-- The open levels of a reader, as its code keeps them: a means, tied to the list of levels by the
-- model of `Levels`.
use Rattle.std.specs.Prelude.{ℕ, zero, suc, ◌+◌, ◌^◌, ◌<◌, List, [], ◌∷◌, length, reverse}
use Rattle.rpki_der.specs.declared.levels.Run.{Run}
use Rattle.rpki_der.specs.Level.{Level, Sized, Marked}
use Rattle.rpki_der.specs.Ticks.{behind}

-- n levels that end at 00 00, inside these
abbrev pub marked_in : ℕ → List Level → List Level
marked_in zero levels = levels
marked_in (suc n) levels = Marked ∷ marked_in n levels

-- the innermost run first
abbrev pub levels_from : List Run → List Level
levels_from [] = []
levels_from (run ∷ runs) = Sized run.after.now ∷ marked_in run.marked (levels_from runs)

-- the innermost run last
abbrev pub levels_of : List Run → List Level
levels_of runs = levels_from (reverse runs)

-- There are no more levels than octets were passed to go into them, so that their count never comes
-- to its end.
abbrev pub HasRoom : List ℕ → List Level → Type 0
HasRoom here levels = length levels + (length here + behind levels) < 2 ^ 64
