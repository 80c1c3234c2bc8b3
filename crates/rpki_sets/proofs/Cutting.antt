-- A text cut at a mark.
use Rattle.std.proofs.Common.{◌≡◌, ◌≢◌, ℕ, ◌+◌, ◌-◌, ◌<◌, ◌≤◌, inl, inr, Bool, not, length, length-append, length-drop, take_all, None, Some, List, [], ◌∷◌, ◌++◌, take, drop, eqb, refl, sym, ap, ◌∙◌, arith}
use Rattle.std.specs.List.{position, position_or_len, slice_split, All}
use Rattle.std.proofs.lemmas.Bool.{cases_lt, lt-ltb, le-ltb, not-true, ne_eqb, eq-eqb}
use Rattle.std.proofs.lemmas.List.Splits.{slice_split_first, slice_split_none}
use Rattle.std.proofs.lemmas.List.Sums.{prefix_len_passes, position_or_len_is}
use Rattle.std.proofs.NetLemmas.Options.{same_parts}
use Rattle.std.proofs.Math.Seq.{take-append_seam, drop-append-add, get_or-append_seam}
use Rattle.std.proofs.lemmas.List.{get_or_append_left}
use Rattle.rpki_common.specs.Chaining.{◌>>=◌}
use Rattle.rpki_sets.specs.Texts.{cut}

pub cut_at : (mark : ℕ) (text : List ℕ) (place : ℕ) → position (λ octet. eqb octet mark) text ≡ Some place → cut mark text ≡ Some (take place text, drop (place + 1) text)
unfolding cut ◌>>=◌
cut_at mark text place e = rw e refl

pub cut_nowhere : (mark : ℕ) (text : List ℕ) → None ≡ position (λ octet. eqb octet mark) text → cut mark text ≡ None
unfolding cut ◌>>=◌
cut_nowhere mark text e = rw (sym e) refl

-- a text cut at a mark, as slices of the text have it
pub cut_at_sliced : (mark : ℕ) (text : List ℕ) (place : ℕ) → Some place ≡ position (λ octet. eqb octet mark) text → place < length text → cut mark text ≡ Some (take place text, take (length text - (place + 1)) (drop (place + 1) text))
cut_at_sliced mark text place e within =
    let whole : take (length text - (place + 1)) (drop (place + 1) text) ≡ drop (place + 1) text = take_all _ _ (simp length-drop (omega arith)) in
    rw whole (cut_at mark text place (sym e))

module _ (mark : ℕ) (text : List ℕ) where
  abbrev pub is_mark : ℕ → Bool
  is_mark octet = eqb octet mark

  cut_found : position_or_len is_mark text < length text → cut mark text ≡ Some (take (position_or_len is_mark text) text, drop (position_or_len is_mark text + 1) text)
  unfolding cut ◌>>=◌
  cut_found within = rw (lt-ltb _ _ within) refl

  cut_missing : length text ≤ position_or_len is_mark text → cut mark text ≡ None
  unfolding cut ◌>>=◌
  cut_missing past = rw (le-ltb _ _ past) refl

  pub cut-some : (a b : List ℕ) → cut mark text ≡ Some (a, b) → (position_or_len is_mark text < length text) × (take (position_or_len is_mark text) text ≡ a) × (drop (position_or_len is_mark text + 1) text ≡ b)
  cut-some a b e = elim (cases_lt (position_or_len is_mark text) (length text)) [
    | inl within ↦ let same = same_parts _ _ _ _ (sym (cut_found within) ∙ e) in (within, same.0, same.1)
    | inr past ↦ absurd (let none = cut_missing past in cc)
  ]

  pub cut-none : cut mark text ≡ None → length text ≤ position_or_len is_mark text
  cut-none e = elim (cases_lt (position_or_len is_mark text) (length text)) [
    | inl within ↦ absurd (let some = cut_found within in cc)
    | inr past ↦ past
  ]

  -- a text cut at its first mark, and the other parts
  pub split_first : (a b : List ℕ) → cut mark text ≡ Some (a, b) → slice_split is_mark text ≡ a ∷ slice_split is_mark b
  split_first a b e =
      let at = cut-some a b e in
      slice_split_first is_mark text 0 at.0 ∙ (λ i. at.1 i ∷ slice_split is_mark (at.2 i))

  -- what is left is shorter
  pub cut_shorter : (a b : List ℕ) → cut mark text ≡ Some (a, b) → length b < length text
  cut_shorter a b e =
      let at = cut-some a b e in
      rw (← at.2) (simp length-drop (omega arith))

  -- a text with no mark is its one part
  pub split_last : cut mark text ≡ None → slice_split is_mark text ≡ text ∷ []
  split_last e =
      slice_split_none is_mark text
      (λ k d within. not-true _ (prefix_len_passes (λ octet. not (is_mark octet)) text k d (let past = cut-none e in omega arith)))

  -- the first mark behind a text that has none
  pub cut_behind : (front back : List ℕ) → text ≡ front ++ mark ∷ back → All (λ octet. octet ≢ mark) front → cut mark text ≡ Some (front, back)
  cut_behind front back is none =
      let long : length text ≡ length front + (length back + 1) = ap length is ∙ simp length-append (omega arith) in
      let place : position_or_len is_mark text ≡ length front =
      position_or_len_is is_mark text (length front) 0 (omega arith)
      (λ k h. rw (is, get_or_append_left front (mark ∷ back) 0 k h) (ne_eqb _ _ (none k 0 h)))
      (λ h. rw is (eq-eqb _ _ (get_or-append_seam front mark back 0))) in
      let before : take (position_or_len is_mark text) text ≡ front = rw (place, is) (take-append_seam front (mark ∷ back)) in
      let behind : drop (position_or_len is_mark text + 1) text ≡ back = rw (place, is) (drop-append-add front (mark ∷ back) 1) in
      cut_found (omega arith) ∙ (λ i. Some (before i, behind i))

  pub cut_none_there : All (λ octet. octet ≢ mark) text → cut mark text ≡ None
  cut_none_there none =
      let place : position_or_len is_mark text ≡ length text =
      position_or_len_is is_mark text (length text) 0 (omega arith) (λ k h. ne_eqb _ _ (none k 0 h)) (λ h. absurd (omega arith)) in
      cut_missing (omega arith)
