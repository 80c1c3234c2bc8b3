-- The loop that joins ascending runs: what is joined, the run at hand and what is left have the numbers of all runs.
use Rattle.std.proofs.Common.{◌≡◌, ◌↔◌, ℕ, ◌+◌, ◌<◌, ◌≤◌, ◌⊎◌, inl, inr, max, false, IsTrue, List, [], ◌∷◌, ◌++◌, refl, subst, arith, append_assoc, length, get_or, drop, add-one, drop-cons, length-drop}
use Rattle.std.proofs.lemmas.Bool.{cases_lt, false≢true}
use Rattle.std.proofs.lemmas.List.{nil_from_length}
use Rattle.rpki_sets.specs.declared.run.Run.{Run}
use Rattle.rpki_sets.specs.Runs.{Has, SameNumbers, AllOrdered, IsApart, IsMaximal, union}
use Rattle.rpki_sets.specs.Ascending.{AllFrom, IsAscending}
use Rattle.rpki_sets.proofs.RunLemmas.{is_union}

-- a run lengthened
abbrev pub longer : Run → ℕ → Run
longer run last = record { first = run.first; last = max run.last last }

-- what a test that failed says
pub not_near : (first last : ℕ) → (first ≤ last → IsTrue false) → last < first
not_near first last test = elim (cases_lt last first) [ inl above ↦ above | inr under ↦ absurd (false≢true (test under)) ]

-- ---- the numbers of joined lists

pub Has-append : (xs ys : List Run) (n : ℕ) → Has (xs ++ ys) n ↔ (Has xs n ⊎ Has ys n)
Has-append [] ys n = (λ h. inr h, λ h. elim h [ inl x ↦ absurd x | inr y ↦ y ])
Has-append (x ∷ xs) ys n =
    let rec = Has-append xs ys n in (
      λ h. elim h [ inl a ↦ inl (inl a) | inr b ↦ elim (rec.0 b) [ inl c ↦ inl (inr c) | inr d ↦ inr d ] ],
      λ h. elim h [ inl a ↦ elim a [ inl c ↦ inl c | inr d ↦ inr (rec.1 (inl d)) ] | inr b ↦ inr (rec.1 (inr b)) ],
    )

-- lists with the same numbers at the end have the same numbers
SameNumbers-append : (xs ys zs : List Run) → SameNumbers ys zs → SameNumbers (xs ++ ys) (xs ++ zs)
SameNumbers-append xs ys zs same n = (
  λ h. (Has-append xs zs n).1 (elim ((Has-append xs ys n).0 h) [ inl a ↦ inl a | inr b ↦ inr ((same n).0 b) ]),
  λ h. (Has-append xs ys n).1 (elim ((Has-append xs zs n).0 h) [ inl a ↦ inl a | inr b ↦ inr ((same n).1 b) ]),
)

-- a run and the next one that it overlaps or touches are one run
two_as_one : (held next : Run) (left : List Run) → held.first ≤ next.first → next.first ≤ held.last + 1 → SameNumbers (longer held next.last ∷ left) (held ∷ next ∷ left)
two_as_one held next left from near n = (
  λ h. elim h [
    | inl x ↦ elim (cases_lt held.last n) [ inl above ↦ inr (inl (omega arith, omega arith)) | inr under ↦ inl (x.0, under) ]
    | inr y ↦ inr (inr y)
  ],
  λ h. elim h [
    | inl x ↦ inl (omega arith, omega arith)
    | inr y ↦ elim y [ inl z ↦ inl (omega arith, omega arith) | inr w ↦ inr w ]
  ],
)

-- ---- maximal runs, changed at the end

IsApart-longer : (k last : ℕ) (xs : List Run) (held : Run) → IsApart k (xs ++ held ∷ []) → IsApart k (xs ++ longer held last ∷ [])
IsApart-longer k last [] held h = h
IsApart-longer k last (x ∷ xs) held h = h

IsMaximal-longer : (last : ℕ) (xs : List Run) (held : Run) → IsMaximal (xs ++ held ∷ []) → IsMaximal (xs ++ longer held last ∷ [])
IsMaximal-longer last [] held h = (omega arith, tt, tt)
IsMaximal-longer last (x ∷ xs) held h = (h.0, IsApart-longer x.last last xs held h.1, IsMaximal-longer last xs held h.2)

IsApart-push : (k : ℕ) (xs : List Run) (held next : Run) → IsApart k (xs ++ held ∷ []) → IsApart k (xs ++ held ∷ next ∷ [])
IsApart-push k [] held next h = h
IsApart-push k (x ∷ xs) held next h = h

IsMaximal-push : (xs : List Run) (held next : Run) → IsMaximal (xs ++ held ∷ []) → held.last + 1 < next.first → next.first ≤ next.last → IsMaximal (xs ++ held ∷ next ∷ [])
IsMaximal-push [] held next h apart o = (h.0, apart, (o, tt, tt))
IsMaximal-push (x ∷ xs) held next h apart o = (h.0, IsApart-push x.last xs held next h.1, IsMaximal-push xs held next h.2 apart o)

-- ---- the loop

pub record IsJoining (runs joined : List Run) (held : Run) (left : List Run) : Type 0 where
  pub maximal : IsMaximal (joined ++ held ∷ [])
  pub from : AllFrom held.first left
  pub ascending : IsAscending left
  pub ordered : AllOrdered left
  pub same : SameNumbers (joined ++ held ∷ left) runs

module _ (runs : List Run) where
  pub start_joining : (first : Run) (more : List Run) → runs ≡ first ∷ more → AllOrdered runs → IsAscending runs → IsJoining runs [] first more
  start_joining first more e o up =
      let o' : AllOrdered (first ∷ more) = subst AllOrdered e o in
      let up' : IsAscending (first ∷ more) = subst IsAscending e up in record {
        maximal = (o'.0, tt, tt);
        from = up'.0;
        ascending = up'.1;
        ordered = o'.1;
        same = rw e (λ n. (λ h. h, λ h. h));
      }

  -- the next run is taken into the one at hand
  pub join_more : (joined : List Run) (held next : Run) (left : List Run) → next.first ≤ held.last + 1 → IsJoining runs joined held (next ∷ left) → IsJoining runs joined (longer held next.last) left
  join_more joined held next left near j = record {
    maximal = IsMaximal-longer next.last joined held j.maximal;
    from = j.from.1;
    ascending = j.ascending.1;
    ordered = j.ordered.1;
    same = λ n.
        let step = SameNumbers-append joined _ _ (two_as_one held next left j.from.0 near) n in
        (λ h. (j.same n).0 (step.0 h), λ h. step.1 ((j.same n).1 h));
  }

  -- the run at hand is done
  pub push_more : (joined : List Run) (held next : Run) (left : List Run) → held.last + 1 < next.first → IsJoining runs joined held (next ∷ left) → IsJoining runs (joined ++ held ∷ []) next left
  push_more joined held next left apart j = record {
    maximal = rw append_assoc (IsMaximal-push joined held next j.maximal apart j.ordered.0);
    from = j.ascending.0;
    ascending = j.ascending.1;
    ordered = j.ordered.1;
    same = rw append_assoc j.same;
  }

  -- one step over the list at its place i
  module _ (joined : List Run) (held : Run) (more : List Run) (i : ℕ) (d : Run) (within : i < length more) (j : IsJoining runs joined held (drop i more)) where
    at_hand : IsJoining runs joined held (get_or more i d ∷ drop (i + 1) more)
    at_hand =
        let split : drop i more ≡ get_or more i d ∷ drop (i + 1) more = rw (add-one, drop-cons more i d within) refl in
        subst (IsJoining runs joined held) split j

    pub next_later : held.first ≤ (get_or more i d).first
    next_later = at_hand.from.0

    pub step_joined : (joined' : List Run) (held' : Run) (last : ℕ) → joined' ≡ joined → held' ≡ record { first = held.first; last = last } → last ≡ max held.last (get_or more i d).last → (get_or more i d).first ≤ held.last + 1 → IsJoining runs joined' held' (drop (i + 1) more)
    step_joined joined' held' last e f g near =
        rw (e, f, g) (join_more joined held (get_or more i d) (drop (i + 1) more) near at_hand)

    pub step_pushed : (joined' : List Run) (held' : Run) → joined' ≡ joined ++ held ∷ [] → held' ≡ get_or more i d → held.last + 1 < (get_or more i d).first → IsJoining runs joined' held' (drop (i + 1) more)
    step_pushed joined' held' e f apart = rw (e, f) (push_more joined held (get_or more i d) (drop (i + 1) more) apart at_hand)

  end_joining : (joined : List Run) (held : Run) → AllOrdered runs → IsJoining runs joined held [] → joined ++ held ∷ [] ≡ union runs
  end_joining joined held o j = is_union (joined ++ held ∷ []) runs o j.maximal j.same

  pub all_joined : (joined : List Run) (held : Run) (more : List Run) (i : ℕ) → length more ≤ i → AllOrdered runs → IsJoining runs joined held (drop i more) → joined ++ held ∷ [] ≡ union runs
  all_joined joined held more i past o j =
      let none : drop i more ≡ [] = nil_from_length _ (simp length-drop (omega arith)) in
      end_joining joined held o (subst (IsJoining runs joined held) none j)
