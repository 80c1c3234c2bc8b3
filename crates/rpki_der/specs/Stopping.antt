-- How far a reader of whole values comes before it stops: by headers and end marks, one behind the
-- other.
use Rattle.std.specs.Prelude.{ℕ, ◌+◌, ◌≤◌, List, [], ◌∷◌}
use Rattle.rpki_der.specs.declared.mode.Mode.{Mode}
use Rattle.rpki_der.specs.Value.{Primitive, Begins}
use Rattle.rpki_der.specs.Level.{Level, EndsLevel, Opens}
use Rattle.rpki_der.specs.Ticks.{marks}

-- From start on, inside the levels outer, n headers and end marks stand one behind the other;
-- behind them is here, inside levels.
pub data Headers (mode : Mode) (start : List ℕ) (outer : List Level) : ℕ → List ℕ → List Level
    → Type 0 where
  Nothing : Headers mode start outer 0 start outer
  -- a primitive value
  Over : (n : ℕ) (here : List ℕ) (levels : List Level) (identifier lengths contents rest : List ℕ)
      → Headers mode start outer n here levels
      → Begins mode here (Primitive identifier lengths contents) rest
      → Headers mode start outer (n + 1) rest levels
  -- the header of a constructed value
  Into : (n : ℕ) (here : List ℕ) (levels : List Level) (identifier : List ℕ) (level : Level)
      (inner : List ℕ)
      → Headers mode start outer n here levels → Opens mode here identifier level inner
      → Headers mode start outer (n + 1) inner (level ∷ levels)
  -- the end of a level, by an end mark or not
  Out : (n : ℕ) (here : List ℕ) (levels : List Level) (level : Level) (rest : List ℕ)
      → Headers mode start outer n here (level ∷ levels) → EndsLevel level here rest
      → Headers mode start outer (n + marks level) rest levels

-- From start on, inside the levels outer, there were at most as many ticks as headers and end marks
-- stand there one behind the other, and k more.
pub record StopsIn (k : ℕ) (mode : Mode) (start : List ℕ) (outer : List Level)
    (before after : ℕ) : Type 0 where
  pub count : ℕ
  pub here : List ℕ
  pub levels : List Level
  pub headers : Headers mode start outer count here levels
  pub most : after ≤ before + count + k

-- A reader of a whole value stopped: it ticked at most once for the header at which it stopped,
-- besides the headers and end marks before.
abbrev pub StopsAt : Mode → List ℕ → ℕ → ℕ → Type 0
StopsAt mode start before after = StopsIn 1 mode start [] before after
