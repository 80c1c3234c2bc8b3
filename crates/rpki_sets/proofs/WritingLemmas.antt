-- The text of a run, and of runs, by cases.
use Rattle.std.proofs.Common.{◌≡◌, ◌≢◌, ℕ, true, false, None, Some, List, [], ◌∷◌, ◌++◌, ◌+◌, ◌<◌, ◌≤◌, length, take, get_or, codes, refl, sym, ap, ◌∙◌, arith, add-one, take_all, append-nil}
use Rattle.std.specs.Fmt.{decimal}
use Rattle.std.specs.List.{flat_map}
use Rattle.std.proofs.lemmas.List.{flat_map_more, take_more}
use Rattle.std.proofs.lemmas.Bool.{eq-eqb, ne_eqb}
use Rattle.rpki_sets.specs.declared.run.Run.{Run}
use Rattle.rpki_sets.specs.Prefixes.{prefix_length}
use Rattle.rpki_sets.specs.Kinds.{Kind, run_text, range_text, printed}

module _ (kind : Kind) (run : Run) where
  pub run_text-prefix : (w len : ℕ) → w ≡ kind.width → kind.has_prefixes ≡ true → Some len ≡ prefix_length w run → run_text kind run ≡ kind.number_text run.first ++ (codes "/" ++ decimal len)
  unfolding run_text
  run_text-prefix w len e p h = rw (p, ← e) (rw (sym h) refl)

  pub run_text-no_prefix : (w : ℕ) → w ≡ kind.width → kind.has_prefixes ≡ true → None ≡ prefix_length w run → run_text kind run ≡ range_text kind run
  unfolding run_text
  run_text-no_prefix w e p h = rw (p, ← e) (rw (sym h) refl)

  pub run_text-one : kind.has_prefixes ≡ false → run.first ≡ run.last → run_text kind run ≡ kind.number_text run.first
  unfolding run_text
  run_text-one p e = rw (p, eq-eqb _ _ e) refl

  pub run_text-two : kind.has_prefixes ≡ false → run.first ≢ run.last → run_text kind run ≡ range_text kind run
  unfolding run_text
  run_text-two p e = rw (p, ne_eqb _ _ e) refl

-- ---- the loop over the runs

module _ (kind : Kind) where
  abbrev behind : Run → List ℕ
  behind next = codes "," ++ run_text kind next

  pub text_of-nil : printed kind [] ≡ []
  unfolding printed
  text_of-nil = refl

  text_of-cons : (run : Run) (more : List Run) → printed kind (run ∷ more) ≡ run_text kind run ++ flat_map behind more
  unfolding printed
  text_of-cons run more = refl

  module _ (runs : List Run) (first : Run) (more : List Run) (is : runs ≡ first ∷ more) where
    so_far : (i : ℕ) → printed kind (take (i + 1) runs) ≡ run_text kind first ++ flat_map behind (take i more)
    so_far i = rw (is, add-one) (text_of-cons first (take i more))

    pub text_of-start : printed kind (take (0 + 1) runs) ≡ run_text kind first
    text_of-start = so_far 0 ∙ append-nil (run_text kind first)

    pub text_of-more : (i : ℕ) (d : Run) → i < length more → printed kind (take ((i + 1) + 1) runs) ≡ printed kind (take (i + 1) runs) ++ (codes "," ++ run_text kind (get_or more i d))
    text_of-more i d within =
        let longer : take (i + 1) more ≡ take i more ++ get_or more i d ∷ [] = take_more more i d within in
        so_far (i + 1) ∙ ap (λ l. run_text kind first ++ flat_map behind l) longer
        ∙ sym (flat_map_more behind (run_text kind first) (take i more) (get_or more i d))
        ∙ ap (λ l. l ++ behind (get_or more i d)) (sym (so_far i))

    pub text_of-all : (i : ℕ) → length more ≤ i → printed kind (take (i + 1) runs) ≡ printed kind runs
    text_of-all i past = ap (printed kind) (take_all (i + 1) runs (rw is (omega arith)))
