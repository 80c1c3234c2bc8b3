-- How many levels are open.
use Rattle.std.proofs.Common.{ℕ, zero, suc, ◌≤◌, List, length, arith}
use Rattle.rpki_der.specs.Level.{Level}
use Rattle.rpki_der.specs.Levels.{marked_in}

pub marked_within : (n : ℕ) (levels : List Level) → n ≤ length (marked_in n levels)
marked_within zero levels = omega arith
marked_within (suc n) levels = let le = marked_within n levels in omega arith
