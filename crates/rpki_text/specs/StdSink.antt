-- A sink over a writer of std, as clauses see it.
use Rattle.std.specs.Prelude.{ℕ}

-- a writer, and how often calls of the sink failed
pub record SinkOver (W : Type 0) : Type 0 where
  -- what is written to
  pub writer : W
  -- how many calls failed
  pub faults : ℕ
