-- Counts of calls and of faults.
use Rattle.std.specs.Prelude.{ℕ, ◌+◌, ◌-◌, ◌^◌, min}

-- A count after one more: it stops at 2^64 - 1.
abbrev pub count_after : ℕ → ℕ
count_after before = min (before + 1) (2 ^ 64 - 1)
