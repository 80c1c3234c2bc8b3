-- When a call may answer that a source, a sink, a signer or another thing outside failed: by a
-- count of its faults.
use Rattle.std.specs.Prelude.{ℕ, ◌+◌, ◌-◌, ◌^◌, ◌≤◌, min, Result, OnErr}

-- The count has risen from `before` to `after`, or it stands at the last value that it can have.
abbrev pub Rose : ℕ → ℕ → Type 0
Rose before after = min (before + 1) (2 ^ 64 - 1) ≤ after

-- The count of faults doesn't fall in the call, and the call answers a fault only where it rose.
pub record HasCause {T E : Type 0} (before after : ℕ) (result : Result T E) : Type 0 where
  pub later : before ≤ after
  pub failed : OnErr result (Rose before after)
