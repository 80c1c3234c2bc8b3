-- A source over a reader of std, as clauses see it.
use Rattle.std.specs.Prelude.{ℕ}

-- a reader, and how often calls of the source failed
pub record SourceOver (R : Type 0) : Type 0 where
  -- what is read from
  pub reader : R
  -- how many calls failed
  pub faults : ℕ
