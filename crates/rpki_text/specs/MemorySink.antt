-- A sink in memory, as clauses see it.
use Rattle.std.specs.Prelude.{ℕ, ◌-◌, List, [], ◌++◌, length}
use Rattle.rpki_text.specs.Counts.{count_after}

-- what a sink in memory holds, how much more it takes, and how its calls went
pub record SinkState : Type 0 where
  -- the octets written so far
  pub written : List ℕ
  -- how many more it can hold
  pub room : ℕ
  -- the most that one call takes
  pub piece : ℕ
  -- how many calls there were
  pub calls : ℕ
  -- the numbers of the calls that fail, counted from 0
  pub failing : List ℕ
  -- how many calls failed
  pub faults : ℕ

-- A sink before its first call.
abbrev pub empty_sink : ℕ → ℕ → List ℕ → SinkState
empty_sink room piece failing =
    record { written = []; room = room; piece = piece; calls = 0; failing = failing; faults = 0 }

-- A sink after a call that took `octets`.
abbrev pub after_taking : List ℕ → SinkState → SinkState
after_taking octets s = record s {
  written = s.written ++ octets;
  room = s.room - length octets;
  calls = count_after s.calls;
}

-- A sink after a call that failed.
abbrev pub after_failing : SinkState → SinkState
after_failing s = record s { calls = count_after s.calls; faults = count_after s.faults }
