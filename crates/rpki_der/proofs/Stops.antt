-- How far a reader of whole values comes before it stops.
use Rattle.std.proofs.Common.{◌≡◌, ℕ, ◌+◌, ◌≤◌, Result, Ok, Err, List, [], ◌∷◌, drop, sym, subst, arith}
use Rattle.std.specs.Prelude.{OnErr}
use Rattle.rpki_der.specs.declared.mode.Mode.{Mode}
use Rattle.rpki_der.specs.Value.{Primitive, Begins}
use Rattle.rpki_der.specs.Level.{Level, EndsLevel, Opens}
use Rattle.rpki_der.specs.Ticks.{marks}
use Rattle.rpki_der.specs.Stopping.{Headers, Nothing, Over, Into, Out, StopsIn}

pub headers_at : (mode : Mode) (start : List ℕ) (outer : List Level) (n m : ℕ) (here : List ℕ) (levels : List Level) → n ≡ m → Headers mode start outer n here levels → Headers mode start outer m here levels
headers_at mode start outer n m here levels e h = subst (λ k. Headers mode start outer k here levels) e h

pub headers_on : (mode : Mode) (a : List ℕ) (as' : List Level) (n : ℕ) (b : List ℕ) (bs : List Level) (m : ℕ) (c : List ℕ) (cs : List Level) → Headers mode a as' n b bs → Headers mode b bs m c cs → Headers mode a as' (n + m) c cs
headers_on mode a as' n b bs m c cs h Nothing = headers_at mode a as' n (n + 0) b bs (omega arith) h
headers_on mode a as' n b bs m c cs h (Over k here levels i l d rest g s) =
    headers_at mode a as' (n + k + 1) (n + (k + 1)) rest levels (omega arith) (Over (n + k) here levels i l d rest (headers_on mode a as' n b bs k here levels h g) s)
headers_on mode a as' n b bs m c cs h (Into k here levels i level inner g o) =
    headers_at mode a as' (n + k + 1) (n + (k + 1)) inner (level ∷ levels) (omega arith) (Into (n + k) here levels i level inner (headers_on mode a as' n b bs k here levels h g) o)
headers_on mode a as' n b bs m c cs h (Out k here levels level rest g e) =
    headers_at mode a as' (n + k + marks level) (n + (k + marks level)) rest levels (omega arith) (Out (n + k) here levels level rest (headers_on mode a as' n b bs k here (level ∷ levels) h g) e)

pub one_over : (mode : Mode) (start : List ℕ) (levels : List Level) (i l d rest : List ℕ) → Begins mode start (Primitive i l d) rest → Headers mode start levels 1 rest levels
one_over mode start levels i l d rest b = headers_at mode start levels (0 + 1) 1 rest levels (omega arith) (Over 0 start levels i l d rest Nothing b)

pub one_into : (mode : Mode) (start : List ℕ) (levels levels' : List Level) (i : List ℕ) (level : Level) (inner : List ℕ) → Opens mode start i level inner → levels' ≡ level ∷ levels → Headers mode start levels 1 inner levels'
one_into mode start levels levels' i level inner o e =
    subst (λ (ls : List Level). Headers mode start levels 1 inner ls) (sym e) (headers_at mode start levels (0 + 1) 1 inner (level ∷ levels) (omega arith) (Into 0 start levels i level inner Nothing o))

-- ---- the loop: n headers and end marks were passed, and ticked for

pub record Passed (mode : Mode) (start : List ℕ) (outer : List Level) (before : ℕ) (here : List ℕ) (levels : List Level) (after : ℕ) : Type 0 where
  pub count : ℕ
  pub headers : Headers mode start outer count here levels
  pub ticks : after ≡ before + count

pub passed_none : (mode : Mode) (start : List ℕ) (outer : List Level) (t : ℕ) → Passed mode start outer t start outer t
passed_none mode start outer t = record { count = 0; headers = Nothing; ticks = omega arith }

pub passed_one : (mode : Mode) (start : List ℕ) (outer : List Level) (b : ℕ) (here : List ℕ) (levels : List Level) (m : ℕ) (here' : List ℕ) (levels' : List Level) (a : ℕ) → Passed mode start outer b here levels m → Headers mode here levels 1 here' levels' → a ≡ m + 1 → Passed mode start outer b here' levels' a
passed_one mode start outer b here levels m here' levels' a p h t = record {
  count = p.count + 1;
  headers = headers_on mode start outer p.count here levels 1 here' levels' p.headers h;
  ticks = omega (arith, p.ticks, t);
}

pub passed_out : (mode : Mode) (start : List ℕ) (outer : List Level) (b : ℕ) (here : List ℕ) (levels : List Level) (m : ℕ) (level : Level) (rest : List ℕ) (a : ℕ) → levels ≡ level ∷ drop 1 levels → Passed mode start outer b here levels m → EndsLevel level here rest → a ≡ m + marks level → Passed mode start outer b rest (drop 1 levels) a
passed_out mode start outer b here levels m level rest a e p ends t = record {
  count = p.count + marks level;
  headers = Out p.count here (drop 1 levels) level rest (subst (λ (ls : List Level). Headers mode start outer p.count here ls) e p.headers) ends;
  ticks = omega (arith, p.ticks, t);
}

pub stops_after : (k : ℕ) (mode : Mode) (start : List ℕ) (outer : List Level) (b : ℕ) (here : List ℕ) (levels : List Level) (m a : ℕ) → Passed mode start outer b here levels m → a ≤ m + k → StopsIn k mode start outer b a
stops_after k mode start outer b here levels m a p t = record {
  count = p.count;
  here = here;
  levels = levels;
  headers = p.headers;
  most = omega (arith, p.ticks, t);
}

-- it stopped before the first header was passed
pub stops_first : (k : ℕ) (mode : Mode) (start : List ℕ) (outer : List Level) (b a : ℕ) → a ≤ b + k → StopsIn k mode start outer b a
stops_first k mode start outer b a t = stops_after k mode start outer b start outer b a (passed_none mode start outer b) t

-- behind one header, which ticked once
pub stops_on : (k : ℕ) (mode : Mode) (start : List ℕ) (outer : List Level) (here : List ℕ) (levels : List Level) (b m a : ℕ) → Headers mode start outer 1 here levels → m ≡ b + 1 → StopsIn k mode here levels m a → StopsIn k mode start outer b a
stops_on k mode start outer here levels b m a h t s = record {
  count = 1 + s.count;
  here = s.here;
  levels = s.levels;
  headers = headers_on mode start outer 1 here levels s.count s.here s.levels h s.headers;
  most = omega (arith, t, s.most);
}

-- the first header was counted before
pub stops_counted : (mode : Mode) (start : List ℕ) (outer : List Level) (here : List ℕ) (levels : List Level) (b a : ℕ) → Headers mode start outer 1 here levels → StopsIn 1 mode here levels b a → StopsIn 0 mode start outer b a
stops_counted mode start outer here levels b a h s = record {
  count = 1 + s.count;
  here = s.here;
  levels = s.levels;
  headers = headers_on mode start outer 1 here levels s.count s.here s.levels h s.headers;
  most = omega (arith, s.most);
}

pub stops_before : (mode : Mode) (start : List ℕ) (outer : List Level) (b m a : ℕ) → m ≡ b + 1 → StopsIn 0 mode start outer m a → StopsIn 1 mode start outer b a
stops_before mode start outer b m a t s = record {
  count = s.count;
  here = s.here;
  levels = s.levels;
  headers = s.headers;
  most = omega (arith, t, s.most);
}

-- ---- results

pub on_err : {X E : Type 0} (r : Result X E) (P : Type 0) → P → OnErr r P
on_err (Ok x) P h = tt
on_err (Err e) P h = h

pub on_err_so : {X E : Type 0} (r : Result X E) (P Q : Type 0) → (P → Q) → OnErr r P → OnErr r Q
on_err_so (Ok x) P Q f h = tt
on_err_so (Err e) P Q f h = f h

pub stops_behind : {X E : Type 0} (r : Result X E) (mode : Mode) (start : List ℕ) (opened : List Level) (here : List ℕ) (levels : List Level) (b m a : ℕ) → opened ≡ [] → Headers mode start opened 1 here levels → m ≡ b + 1 → OnErr r (StopsIn 1 mode here levels m a) → OnErr r (StopsIn 1 mode start [] b a)
stops_behind r mode start opened here levels b m a e h t s =
    on_err_so r _ _ (λ p. stops_on 1 mode start [] here levels b m a (subst (λ (ls : List Level). Headers mode start ls 1 here levels) e h) t p) s
