-- Lines as an input has them.
use Rattle.std.specs.Prelude.{◌≡◌, ◌==◌, ◌≤◌, ℕ, false, All, List, length}
use Rattle.rpki_common.specs.Limits.{most_input}

-- a line has no line feed, and not more octets than an input may have
pub record IsLine (line : List ℕ) : Type 0 where
  pub one : All (λ octet. (octet == 10) ≡ false) line
  pub short : length line ≤ most_input
