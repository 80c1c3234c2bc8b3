-- What is printed is read as the same set.
use Rattle.std.proofs.Common.{◌≡◌, ◌≢◌, inl, inr, ℕ, ◌+◌, ◌^◌, ◌<◌, ◌≤◌, Bool, true, false, cond, eqb, Option, None, Some, List, [], ◌∷◌, ◌++◌, length, reverse, map, refl, sym, ap, ◌∙◌, arith, append-nil, length-append}
use Rattle.std.specs.Fmt.{decimal}
use Rattle.std.specs.List.{All, slice_split}
use Rattle.std.proofs.lemmas.Bool.{cond_both, cond-true, eqb-true, ne_eqb, le-leb, cases_Bool}
use Rattle.std.proofs.lemmas.List.{reverse-reverse}
use Rattle.std.proofs.lemmas.List.Elements.{All-nil, All-cons, All-head, All-append, All-weaker}
use Rattle.std.proofs.lemmas.List.Splits.{slice_split_at, slice_split_none}
use Rattle.std.proofs.lemmas.List.Sorted.{All-permutation, IsPermutation-reverse}
use Rattle.rpki_common.specs.Chaining.{◌>>=◌}
use Rattle.rpki_sets.specs.declared.run.Run.{Run}
use Rattle.rpki_sets.specs.Runs.{AllOrdered, IsMaximal, IsSet}
use Rattle.rpki_sets.specs.Texts.{skip_spaces, trimmed, read_all}
use Rattle.rpki_sets.specs.Prefixes.{prefix_length}
use Rattle.rpki_sets.specs.Kinds.{Kind, IsLawfulKind, IsPlain, run_from, range, prefix_of, item, spaced_item, runs_of, blocks_of, range_text, prefix_or_range_text, run_text, printed}
use Rattle.rpki_sets.proofs.AsLaws.{decimal_below-decimal, All-plain-decimal}
use Rattle.rpki_sets.proofs.Cutting.{cut_behind, cut_none_there}
use Rattle.rpki_sets.proofs.Fitting.{IsFit, blocks_of-some, runs_of-blank, runs_of-parts}
use Rattle.rpki_sets.proofs.Fitted.{head_fits, tail_set}
use Rattle.rpki_sets.proofs.ItemLemmas.{range_both, range_one, range_one_none, item_prefix, item_no_prefix, item_range, prefix_some}
use Rattle.rpki_sets.proofs.PrefixLemmas.{prefix_length-sound}
use Rattle.rpki_sets.proofs.RunLemmas.{is_union}
use Rattle.rpki_sets.proofs.WritingLemmas.{text_of-nil}
use Rattle.rpki_sets.proofs.Spaces.{skip_spaces-nil, skip_spaces-other}

-- ---- texts without spaces

-- neither a comma nor a space
abbrev IsQuiet : ℕ → Type 0
IsQuiet octet = (octet ≢ 44) × (octet ≢ 32)

skip_spaces-none : (text : List ℕ) → All (λ octet. octet ≢ 32) text → skip_spaces text ≡ text
skip_spaces-none [] none = skip_spaces-nil
skip_spaces-none (octet ∷ more) none = skip_spaces-other octet more (All-head (λ o. o ≢ 32) octet more none)

trimmed-none : (text : List ℕ) → All (λ octet. octet ≢ 32) text → All (λ octet. octet ≢ 32) (reverse text) → trimmed text ≡ text
unfolding trimmed
trimmed-none text none back =
    ap (λ t. reverse (skip_spaces (reverse t))) (skip_spaces-none text none) ∙ ap reverse (skip_spaces-none (reverse text) back) ∙ reverse-reverse text

-- ---- one run

run_from-some : (run : Run) → run.first ≤ run.last → run_from run.first run.last ≡ Some run
run_from-some run up = cond-true _ _ _ (le-leb run.first run.last up)

module _ (kind : Kind) (lawful : IsLawfulKind kind) (run : Run) (fit : IsFit kind.width run) where
  first_within : run.first < 2 ^ kind.width
  first_within = let up = fit.ordered in let top = fit.within in omega arith

  plain_first : All IsPlain (kind.number_text run.first)
  plain_first = lawful.plain run.first first_within

  plain_last : All IsPlain (kind.number_text run.last)
  plain_last = lawful.plain run.last fit.within

  no : (mark : ℕ) → ((octet : ℕ) → IsPlain octet → octet ≢ mark) → (text : List ℕ) → All IsPlain text → All (λ octet. octet ≢ mark) text
  no mark other text all = All-weaker IsPlain (λ octet. octet ≢ mark) other text all

  range-read : (text : List ℕ) → text ≡ range_text kind run → range kind text ≡ Some run
  range-read text is =
      let here = cut_behind 45 text (kind.number_text run.first) (kind.number_text run.last) is (no 45 (λ o p. p.2) _ plain_first) in
      sym (range_both kind text _ _ run.first run.last here (sym (lawful.again run.first first_within)) (sym (lawful.again run.last fit.within)))
      ∙ run_from-some run fit.ordered

  one-read : run.first ≡ run.last → range kind (kind.number_text run.first) ≡ Some run
  one-read e =
      let nowhere = cut_none_there 45 (kind.number_text run.first) (no 45 (λ o p. p.2) _ plain_first) in
      sym (range_one kind _ run.first nowhere (sym (lawful.again run.first first_within)))
      ∙ ap (run_from run.first) e ∙ run_from-some run fit.ordered

  prefix-read : (len : ℕ) → prefix_length kind.width run ≡ Some len → prefix_of kind (kind.number_text run.first, decimal len) ≡ Some run
  prefix-read len e =
      let sound = prefix_length-sound kind.width run len e in
      let bounded = lawful.bounded in
      sym (prefix_some kind (kind.number_text run.first) (decimal len) run run.first len kind.width kind.width (sym sound.1) (sym (lawful.again run.first first_within)) refl refl
      (sym (decimal_below-decimal (kind.width + 1) len (omega arith) (omega arith))))

  prefix_item : (len : ℕ) (text : List ℕ) → kind.has_prefixes ≡ true → prefix_length kind.width run ≡ Some len → text ≡ kind.number_text run.first ++ (47 ∷ decimal len) → item kind text ≡ Some run
  prefix_item len text p e is =
      let here = cut_behind 47 text (kind.number_text run.first) (decimal len) is (no 47 (λ o q. q.3) _ plain_first) in
      sym (item_prefix kind text _ p here) ∙ prefix-read len e

  no_slash : All (λ octet. octet ≢ 47) (range_text kind run)
  no_slash =
      All-append (λ octet. octet ≢ 47) (kind.number_text run.first) (45 ∷ kind.number_text run.last)
      (no 47 (λ o q. q.3) _ plain_first)
      (All-cons (λ octet. octet ≢ 47) 45 (kind.number_text run.last) (λ e. omega arith) (no 47 (λ o q. q.3) _ plain_last))

  range_item : kind.has_prefixes ≡ true → item kind (range_text kind run) ≡ Some run
  range_item p = sym (item_no_prefix kind (range_text kind run) p (cut_none_there 47 (range_text kind run) no_slash)) ∙ range-read (range_text kind run) refl

  by_length : (o : Option ℕ) → prefix_length kind.width run ≡ o → kind.has_prefixes ≡ true → item kind (prefix_or_range_text kind run o) ≡ Some run
  by_length None e p = range_item p
  by_length (Some len) e p = prefix_item len _ p e refl

  by_ends : kind.has_prefixes ≡ false → item kind (cond (eqb run.first run.last) (kind.number_text run.first) (range_text kind run)) ≡ Some run
  by_ends p =
      cond_both (eqb run.first run.last) (kind.number_text run.first) (range_text kind run) (λ text. item kind text ≡ Some run)
      (λ e. sym (item_range kind (kind.number_text run.first) p) ∙ one-read (eqb-true _ _ e))
      (λ e. sym (item_range kind (range_text kind run) p) ∙ range-read (range_text kind run) refl)

  -- the text of a run is read as the run
  pub item-run_text : item kind (run_text kind run) ≡ Some run
  unfolding run_text
  item-run_text =
      cond_both kind.has_prefixes (prefix_or_range_text kind run (prefix_length kind.width run)) (cond (eqb run.first run.last) (kind.number_text run.first) (range_text kind run)) (λ text. item kind text ≡ Some run)
      (λ p. by_length (prefix_length kind.width run) refl p)
      (λ p. by_ends p)

  -- ---- it has neither commas nor spaces

  quiet : (text : List ℕ) → All IsPlain text → All IsQuiet text
  quiet text all = All-weaker IsPlain IsQuiet (λ o p. (p.0, p.1)) text all

  quiet_range : All IsQuiet (range_text kind run)
  quiet_range =
      All-append IsQuiet (kind.number_text run.first) (45 ∷ kind.number_text run.last) (quiet _ plain_first)
      (All-cons IsQuiet 45 (kind.number_text run.last) (λ e. omega arith, λ e. omega arith) (quiet _ plain_last))

  quiet_by_length : (o : Option ℕ) → prefix_length kind.width run ≡ o → All IsQuiet (prefix_or_range_text kind run o)
  quiet_by_length None e = quiet_range
  quiet_by_length (Some len) e =
      let sound = prefix_length-sound kind.width run len e in
      let bounded = lawful.bounded in
      All-append IsQuiet (kind.number_text run.first) (47 ∷ decimal len) (quiet _ plain_first)
      (All-cons IsQuiet 47 (decimal len) (λ h. omega arith, λ h. omega arith) (quiet _ (All-plain-decimal len (omega arith))))

  pub quiet_run_text : All IsQuiet (run_text kind run)
  unfolding run_text
  quiet_run_text =
      cond_both kind.has_prefixes (prefix_or_range_text kind run (prefix_length kind.width run)) (cond (eqb run.first run.last) (kind.number_text run.first) (range_text kind run)) (All IsQuiet)
      (λ p. quiet_by_length (prefix_length kind.width run) refl)
      (λ p. cond_both (eqb run.first run.last) (kind.number_text run.first) (range_text kind run) (All IsQuiet) (λ e. quiet _ plain_first) (λ e. quiet_range))

-- ---- a whole text

module _ (kind : Kind) (lawful : IsLawfulKind kind) where
  abbrev is_comma : ℕ → Bool
  is_comma octet = eqb octet 44

  item-empty : item kind [] ≡ None
  item-empty =
      let nothing : None ≡ range kind [] = range_one_none kind [] (cut_none_there 45 [] (All-nil (λ o. o ≢ 45))) (sym lawful.empty) in
      elim (cases_Bool kind.has_prefixes) [
        | inl p ↦ sym (item_no_prefix kind [] p (cut_none_there 47 [] (All-nil (λ o. o ≢ 47)))) ∙ sym nothing
        | inr p ↦ sym (item_range kind [] p) ∙ sym nothing
      ]

  not_empty_text : (text : List ℕ) (run : Run) → item kind text ≡ Some run → 0 < length text
  not_empty_text [] run e = absurd (let none = item-empty in none_is_some run (sym none ∙ e))
    where
      none_is_some : (r : Run) → ◌≡◌ {A = Option Run} None (Some r) → ⊥
      none_is_some r h = cc
  not_empty_text (octet ∷ more) run e = omega arith

  module _ (run : Run) (fit : IsFit kind.width run) where
    quiet_one : All IsQuiet (run_text kind run)
    quiet_one = quiet_run_text kind lawful run fit

    no_space : All (λ octet. octet ≢ 32) (run_text kind run)
    no_space = All-weaker IsQuiet (λ octet. octet ≢ 32) (λ o q. q.1) _ quiet_one

    no_comma : All (λ octet. is_comma octet ≡ false) (run_text kind run)
    no_comma = All-weaker IsQuiet (λ octet. is_comma octet ≡ false) (λ o q. ne_eqb o 44 q.0) _ quiet_one

    spaced-run_text : spaced_item kind (run_text kind run) ≡ Some run
    spaced-run_text =
        ap (item kind) (trimmed-none (run_text kind run) no_space (All-permutation (λ octet. octet ≢ 32) _ _ (IsPermutation-reverse (run_text kind run)) no_space))
        ∙ item-run_text kind lawful run fit

  -- the text of runs is cut into the texts of the runs
  split-text_of : (run : Run) (more : List Run) → IsSet kind.width (run ∷ more) → slice_split is_comma (printed kind (run ∷ more)) ≡ run_text kind run ∷ map (run_text kind) more
  unfolding printed
  split-text_of run [] set =
      ap (slice_split is_comma) (append-nil (run_text kind run)) ∙ slice_split_none is_comma (run_text kind run) (no_comma run (head_fits kind.width run [] set))
  split-text_of run (next ∷ rest) set =
      slice_split_at is_comma (run_text kind run) 44 (printed kind (next ∷ rest)) (no_comma run (head_fits kind.width run (next ∷ rest) set)) refl
      ∙ ap (λ l. run_text kind run ∷ l) (split-text_of next rest (tail_set kind.width run (next ∷ rest) set))

  -- each of them is read as its run
  read_all-texts : (runs : List Run) → IsSet kind.width runs → read_all (spaced_item kind) (map (run_text kind) runs) ≡ Some runs
  unfolding read_all ◌>>=◌
  read_all-texts [] set = refl
  read_all-texts (run ∷ more) set =
      rw (spaced-run_text run (head_fits kind.width run more set)) (rw (read_all-texts more (tail_set kind.width run more set)) refl)

  no_space_text : (run : Run) (more : List Run) → IsSet kind.width (run ∷ more) → All (λ octet. octet ≢ 32) (printed kind (run ∷ more))
  unfolding printed
  no_space_text run [] set = All-append (λ o. o ≢ 32) (run_text kind run) [] (no_space run (head_fits kind.width run [] set)) (All-nil (λ o. o ≢ 32))
  no_space_text run (next ∷ rest) set =
      All-append (λ o. o ≢ 32) (run_text kind run) (44 ∷ printed kind (next ∷ rest)) (no_space run (head_fits kind.width run (next ∷ rest) set))
      (All-cons (λ o. o ≢ 32) 44 (printed kind (next ∷ rest)) (λ e. omega arith) (no_space_text next rest (tail_set kind.width run (next ∷ rest) set)))

  long_text : (run : Run) (more : List Run) → IsSet kind.width (run ∷ more) → 0 < length (printed kind (run ∷ more))
  unfolding printed
  long_text run more set =
      let long = not_empty_text (run_text kind run) run (item-run_text kind lawful run (head_fits kind.width run more set)) in
      simp length-append (omega arith)

  -- what is printed is read as the same runs
  pub runs_of-text_of : (runs : List Run) → IsSet kind.width runs → runs_of kind (printed kind runs) ≡ Some runs
  runs_of-text_of [] set = runs_of-blank kind (printed kind []) [] (ap (λ t. length (trimmed t)) (text_of-nil kind) ∙ ap length (trimmed-none [] (All-nil (λ o. o ≢ 32)) (All-nil (λ o. o ≢ 32)))) refl
  runs_of-text_of (run ∷ more) set =
      let text = printed kind (run ∷ more) in
      let none = no_space_text run more set in
      let same : trimmed text ≡ text = trimmed-none text none (All-permutation (λ octet. octet ≢ 32) _ _ (IsPermutation-reverse text) none) in
      let long = long_text run more set in
      let full : eqb (length (trimmed text)) 0 ≡ false = ne_eqb _ 0 (λ e. let short : length text ≡ 0 = sym (ap length same) ∙ e in omega arith) in
      runs_of-parts kind text full ∙ ap (read_all (spaced_item kind)) (split-text_of run more set) ∙ read_all-texts (run ∷ more) set

  AllOrdered-maximal : (runs : List Run) → IsMaximal runs → AllOrdered runs
  AllOrdered-maximal [] m = tt
  AllOrdered-maximal (run ∷ more) m = (m.0, AllOrdered-maximal more m.2)

  -- what is printed of a set is read as the same set
  pub blocks_of-text_of : (runs : List Run) → IsSet kind.width runs → blocks_of kind (printed kind runs) ≡ Some runs
  blocks_of-text_of runs set =
      blocks_of-some kind (printed kind runs) runs (runs_of-text_of runs set)
      ∙ ap Some (sym (is_union runs runs (AllOrdered-maximal runs set.maximal) set.maximal (λ n. (λ h. h, λ h. h))))
