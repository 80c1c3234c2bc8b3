-- Characters that stand for themselves: a means for the reader.
use Rattle.std.specs.Prelude.{ℕ, Bool, ◌&&◌, not, nat_eq}

-- whether a character in a text or a value that ends at `stop` stands for itself
abbrev pub is_plain : ℕ → ℕ → Bool
is_plain stop c = not (nat_eq c stop) && not (nat_eq c 60) && not (nat_eq c 38)
