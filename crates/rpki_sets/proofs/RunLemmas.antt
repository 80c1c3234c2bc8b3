-- Maximal runs are determined by their numbers, and `union` gives the maximal runs of what it is given.
use Rattle.std.proofs.Common.{◌≡◌, ◌↔◌, ℕ, ◌+◌, ◌<◌, ◌≤◌, ◌⊎◌, inl, inr, ltb, List, [], ◌∷◌, refl, arith}
use Rattle.std.proofs.lemmas.Bool.{cases_lt, cond_both, ltb-true, ltb-false}
use Rattle.rpki_sets.specs.declared.run.Run.{Run}
use Rattle.rpki_sets.specs.Runs.{HoldsNumber, Has, SameNumbers, Includes, AllOrdered, IsApart, IsMaximal, hull, add, union}

-- ---- where the numbers of maximal runs lie

-- the numbers of runs that begin behind a gap lie behind it
pub above_gap : (k : ℕ) (runs : List Run) → IsApart k runs → IsMaximal runs → (n : ℕ) → Has runs n → k + 1 < n
above_gap k [] apart maximal n h = absurd h
above_gap k (run ∷ more) apart maximal n (inl held) = omega arith
above_gap k (run ∷ more) apart maximal n (inr later) =
    let behind = above_gap run.last more maximal.1 maximal.2 n later in omega arith

-- the first number is the least
pub first_least : (run : Run) (more : List Run) → IsMaximal (run ∷ more) → (n : ℕ) → Has (run ∷ more) n → run.first ≤ n
first_least run more maximal n (inl held) = held.0
first_least run more maximal n (inr later) =
    let behind = above_gap run.last more maximal.1 maximal.2 n later in omega arith

-- the number behind the first run lies in no run
pub gap_behind : (run : Run) (more : List Run) → IsMaximal (run ∷ more) → ¬ (Has (run ∷ more) (run.last + 1))
gap_behind run more maximal (inl held) = omega arith
gap_behind run more maximal (inr later) =
    let behind = above_gap run.last more maximal.1 maximal.2 (run.last + 1) later in omega arith

-- a number behind the first run lies in the others
pub in_others : (run : Run) (more : List Run) (n : ℕ) → run.last < n → Has (run ∷ more) n → Has more n
in_others run more n behind (inl held) = absurd (omega arith)
in_others run more n behind (inr later) = later

-- ---- equal numbers, equal runs

last_le : (r s : Run) (xs ys : List Run) → IsMaximal (r ∷ xs) → IsMaximal (s ∷ ys) → Includes (s ∷ ys) (r ∷ xs) → r.first ≡ s.first → r.last ≤ s.last
last_le r s xs ys ma mb all e =
    elim (cases_lt s.last r.last) [
      | inl longer ↦ absurd (gap_behind s ys mb (all (s.last + 1) (inl (omega arith, omega arith))))
      | inr short ↦ short
    ]

others_included : (r s : Run) (xs ys : List Run) → IsMaximal (r ∷ xs) → Includes (s ∷ ys) (r ∷ xs) → r.last ≡ s.last → Includes ys xs
others_included r s xs ys ma all e n h =
    let behind = above_gap r.last xs ma.1 ma.2 n h in
    in_others s ys n (omega arith) (all n (inr h))

-- lists with the same numbers include each other
pub SameNumbers-includes : (a b : List Run) → SameNumbers a b → Includes b a × Includes a b
SameNumbers-includes a b same = (λ n h. (same n).0 h, λ n h. (same n).1 h)

pub same_from_includes : (a b : List Run) → IsMaximal a → IsMaximal b → Includes b a → Includes a b → a ≡ b
same_from_includes [] [] ma mb ab ba = refl
same_from_includes [] (s ∷ ys) ma mb ab ba = absurd (ba s.first (inl (omega arith, mb.0)))
same_from_includes (r ∷ xs) [] ma mb ab ba = absurd (ab r.first (inl (omega arith, ma.0)))
same_from_includes (r ∷ xs) (s ∷ ys) ma mb ab ba =
    let sr : s.first ≤ r.first = first_least s ys mb r.first (ab r.first (inl (omega arith, ma.0))) in
    let rs : r.first ≤ s.first = first_least r xs ma s.first (ba s.first (inl (omega arith, mb.0))) in
    let first : r.first ≡ s.first = omega arith in
    let up : r.last ≤ s.last = last_le r s xs ys ma mb ab first in
    let down : s.last ≤ r.last = last_le s r ys xs mb ma ba (omega arith) in
    let last : r.last ≡ s.last = omega arith in
    let others : xs ≡ ys = same_from_includes xs ys ma.2 mb.2 (others_included r s xs ys ma ab last) (others_included s r ys xs mb ba (omega arith)) in
    λ i. record { first = first i; last = last i } ∷ others i

-- maximal runs of the same numbers are the same runs
pub same_runs : (a b : List Run) → IsMaximal a → IsMaximal b → SameNumbers a b → a ≡ b
same_runs a b ma mb same = same_from_includes a b ma mb (SameNumbers-includes a b same).0 (SameNumbers-includes a b same).1

-- ---- a run added

hull-holds : (a b : Run) → a.first ≤ a.last → b.first ≤ b.last → b.first ≤ a.last + 1 → a.first ≤ b.last + 1 → (n : ℕ) → HoldsNumber (hull a b) n ↔ (HoldsNumber a n ⊎ HoldsNumber b n)
hull-holds a b oa ob near far n = (
  λ h. elim (cases_lt a.last n) [
    | inl above ↦ elim (cases_lt b.last n) [ inl both ↦ absurd (omega arith) | inr under ↦ inr (omega arith, under) ]
    | inr under ↦ elim (cases_lt n a.first) [ inl below ↦ inr (omega arith, omega arith) | inr inside ↦ inl (inside, under) ]
  ],
  λ h. elim h [ inl x ↦ (omega arith, omega arith) | inr y ↦ (omega arith, omega arith) ],
)

-- what is added is there, and nothing else is new
pub Has-add : (run : Run) (runs : List Run) → run.first ≤ run.last → IsMaximal runs → (n : ℕ) → Has (add run runs) n ↔ (HoldsNumber run n ⊎ Has runs n)
unfolding add
Has-add run [] o m n = (λ h. h, λ h. h)
Has-add run (next ∷ more) o m n =
    cond_both (ltb (run.last + 1) next.first) _ _ (λ x. Has x n ↔ (HoldsNumber run n ⊎ Has (next ∷ more) n))
    (λ e. (λ h. h, λ h. h))
    (λ e. cond_both (ltb (next.last + 1) run.first) _ _ (λ x. Has x n ↔ (HoldsNumber run n ⊎ Has (next ∷ more) n))
    (λ f. let rec = Has-add run more o m.2 n in (
      λ h. elim h [ inl x ↦ inr (inl x) | inr y ↦ elim (rec.0 y) [ inl z ↦ inl z | inr w ↦ inr (inr w) ] ],
      λ h. elim h [ inl x ↦ inr (rec.1 (inl x)) | inr y ↦ elim y [ inl z ↦ inl z | inr w ↦ inr (rec.1 (inr w)) ] ],
    ))
    (λ f.
    let near : next.first ≤ run.last + 1 = ltb-false _ _ e in
    let far : run.first ≤ next.last + 1 = ltb-false _ _ f in
    let rec = Has-add (hull run next) more (omega arith) m.2 n in
    let both = hull-holds run next o m.0 near far n in (
      λ h. elim (rec.0 h) [ inl x ↦ elim (both.0 x) [ inl y ↦ inl y | inr z ↦ inr (inl z) ] | inr w ↦ inr (inr w) ],
      λ h. rec.1 (elim h [ inl x ↦ inl (both.1 (inl x)) | inr y ↦ elim y [ inl z ↦ inl (both.1 (inr z)) | inr w ↦ inr w ] ]),
    )))

IsApart-add : (k : ℕ) (run : Run) (runs : List Run) → k + 1 < run.first → IsApart k runs → IsMaximal runs → IsApart k (add run runs)
unfolding add
IsApart-add k run [] below apart m = below
IsApart-add k run (next ∷ more) below apart m =
    cond_both (ltb (run.last + 1) next.first) _ _ (IsApart k)
    (λ e. below)
    (λ e. cond_both (ltb (next.last + 1) run.first) _ _ (IsApart k)
    (λ f. apart)
    (λ f. IsApart-add k (hull run next) more (omega arith) (IsApart-further more m) m.2))
  where
    IsApart-further : (others : List Run) → IsMaximal (next ∷ others) → IsApart k others
    IsApart-further [] q = tt
    IsApart-further (third ∷ rest) q = omega arith

-- what comes of adding is maximal
pub IsMaximal-add : (run : Run) (runs : List Run) → run.first ≤ run.last → IsMaximal runs → IsMaximal (add run runs)
unfolding add
IsMaximal-add run [] o m = (o, tt, tt)
IsMaximal-add run (next ∷ more) o m =
    cond_both (ltb (run.last + 1) next.first) _ _ IsMaximal
    (λ e. (o, ltb-true _ _ e, m))
    (λ e. cond_both (ltb (next.last + 1) run.first) _ _ IsMaximal
    (λ f. (m.0, IsApart-add next.last run more (ltb-true _ _ f) m.1 m.2, IsMaximal-add run more o m.2))
    (λ f. IsMaximal-add (hull run next) more (omega arith) m.2))

-- ---- a union

pub IsMaximal-union : (runs : List Run) → AllOrdered runs → IsMaximal (union runs)
unfolding union
IsMaximal-union [] o = tt
IsMaximal-union (run ∷ more) o = IsMaximal-add run (union more) o.0 (IsMaximal-union more o.1)

pub Has-union : (runs : List Run) → AllOrdered runs → SameNumbers (union runs) runs
unfolding union
Has-union [] o n = (λ h. h, λ h. h)
Has-union (run ∷ more) o n =
    let here = Has-add run (union more) o.0 (IsMaximal-union more o.1) n in
    let rec = Has-union more o.1 n in (
      λ h. elim (here.0 h) [ inl x ↦ inl x | inr y ↦ inr (rec.0 y) ],
      λ h. here.1 (elim h [ inl x ↦ inl x | inr y ↦ inr (rec.1 y) ]),
    )

-- maximal runs of the numbers in some runs are their union
pub is_union : (joined runs : List Run) → AllOrdered runs → IsMaximal joined → SameNumbers joined runs → joined ≡ union runs
is_union joined runs o m same =
    same_runs joined (union runs) m (IsMaximal-union runs o)
    (λ n. (λ h. (Has-union runs o n).1 ((same n).0 h), λ h. (same n).1 ((Has-union runs o n).0 h)))

-- ---- whether maximal runs have all numbers of others

-- a run that ends before all that is asked for makes no difference
pub without_first : (s r : Run) (others rest : List Run) → s.last < r.first → IsMaximal (r ∷ rest) → Includes (s ∷ others) (r ∷ rest) ↔ Includes others (r ∷ rest)
without_first s r others rest before m = (
  λ all n h. let least : r.first ≤ n = first_least r rest m n h in in_others s others n (omega arith) (all n h),
  λ all n h. inr (all n h),
)

-- a run that lies in one of the runs makes no difference
pub without_asked : (s r : Run) (others rest : List Run) → (s.first ≤ r.first) × (r.last ≤ s.last) → Includes (s ∷ others) (r ∷ rest) ↔ Includes (s ∷ others) rest
without_asked s r others rest inside = (
  λ all n h. all n (inr h),
  λ all n h. elim h [ inl x ↦ inl (omega arith, omega arith) | inr y ↦ all n y ],
)

-- a run that doesn't lie in the first run which ends no earlier lies in none
pub not_included : (s r : Run) (others rest : List Run) → IsMaximal (s ∷ others) → r.first ≤ r.last → r.first ≤ s.last → ¬ ((s.first ≤ r.first) × (r.last ≤ s.last)) → ¬ (Includes (s ∷ others) (r ∷ rest))
not_included s r others rest m o reach outside all =
    elim (cases_lt r.first s.first) [
      | inl early ↦ let least : s.first ≤ r.first = first_least s others m r.first (all r.first (inl (omega arith, o))) in omega arith
      | inr late ↦ elim (cases_lt s.last r.last) [
        | inl long ↦ gap_behind s others m (all (s.last + 1) (inl (omega arith, omega arith)))
        | inr short ↦ outside (late, short)
      ]
    ]

-- nothing has no number
pub nothing_included : (r : Run) (rest : List Run) → r.first ≤ r.last → ¬ (Includes [] (r ∷ rest))
nothing_included r rest o all = all r.first (inl (omega arith, o))

pub union-nil : union [] ≡ []
unfolding union
union-nil = refl
