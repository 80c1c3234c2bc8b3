-- A source in memory, as clauses see it.
use Rattle.std.specs.Prelude.{ℕ, List, drop}
use Rattle.rpki_text.specs.Counts.{count_after}

-- what a source in memory has still to give, how much a call gives, and how its calls went
pub record SourceState : Type 0 where
  -- the octets still to come
  pub rest : List ℕ
  -- the most that one call gives
  pub piece : ℕ
  -- how many calls there were
  pub calls : ℕ
  -- the numbers of the calls that fail, counted from 0
  pub failing : List ℕ
  -- how many calls failed
  pub faults : ℕ

-- A source of `octets` before its first call.
abbrev pub source_of : List ℕ → ℕ → List ℕ → SourceState
source_of octets piece failing =
    record { rest = octets; piece = piece; calls = 0; failing = failing; faults = 0 }

-- A source after a call that gave `count` octets.
abbrev pub after_giving : ℕ → SourceState → SourceState
after_giving count s = record s { rest = drop count s.rest; calls = count_after s.calls }

-- A source after a call that failed.
abbrev pub after_failing : SourceState → SourceState
after_failing s = record s { calls = count_after s.calls; faults = count_after s.faults }
