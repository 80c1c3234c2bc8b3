-- Reading the segments of an octet string one after the other: a means for the loop, tied to
-- `joined_pieces` by proofs/Joining.antt.
use Rattle.std.specs.Prelude.{◌≡◌, ℕ, zero, suc, ◌+◌, Some, List, [], ◌++◌, length, drop}
use Rattle.rpki_der.specs.Value.{Value, Values, Begins}
use Rattle.rpki_der.specs.Level.{LevelHolds}
use Rattle.rpki_der.specs.Position.{Position, top}
use Rattle.rpki_der.specs.OctetString.{joined_pieces, joined_all}

-- octet strings stand at n levels from p on; behind them is q, and all is front with what they join
-- to
abbrev pub JoinsUp : ℕ → Position → List ℕ → Position → List ℕ → Type 0
JoinsUp zero p front q all = (p ≡ q) × (front ≡ all)
JoinsUp (suc n) p front q all =
    (vs : Values) × (next : List ℕ) × (w : List ℕ) × LevelHolds p.mode (top p.levels) p.here vs next
    × (joined_all vs ≡ Some w)
    × JoinsUp n (record { mode = p.mode; here = next; levels = drop 1 p.levels }) (front ++ w) q all

-- one octet string stands first, and then what is joined on
abbrev pub OneJoin : List ℕ → ℕ → Position → List ℕ → Position → List ℕ → Type 0
OneJoin tag n p front q all =
    (v : Value) × (next : List ℕ) × (w : List ℕ) × Begins p.mode p.here v next
    × (joined_pieces tag v ≡ Some w)
    × JoinsUp n (record { mode = p.mode; here = next; levels = p.levels }) (front ++ w) q all

-- reading an octet string at p is reading on at p', k levels deeper
pub record Segments (tag : List ℕ) (k : ℕ) (p : Position) (front : List ℕ) (p' : Position)
    (front' : List ℕ) : Type 0 where
  pub deeper : length p'.levels ≡ length p.levels + k
  pub forth : (n : ℕ) (q : Position) (all : List ℕ) → OneJoin tag n p front q all
      → JoinsUp (n + k) p' front' q all
  pub back : (n : ℕ) (q : Position) (all : List ℕ) → JoinsUp (n + k) p' front' q all
      → OneJoin tag n p front q all

-- reading an octet string at p is reading on at p', some number of levels deeper
abbrev pub Segment : List ℕ → Position → List ℕ → Position → List ℕ → Type 0
Segment tag p front p' front' = (k : ℕ) × Segments tag k p front p' front'

-- reading an octet string at p is reading on at p', n levels up
pub record Joins (tag : List ℕ) (p : Position) (n : ℕ) (p' : Position) (front : List ℕ) : Type 0
  where
    pub forth : (q : Position) (all : List ℕ) → OneJoin tag 0 p [] q all → JoinsUp n p' front q all
    pub back : (q : Position) (all : List ℕ) → JoinsUp n p' front q all → OneJoin tag 0 p [] q all
