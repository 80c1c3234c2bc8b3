-- What an item is, by the parts that it is cut into.
use Rattle.std.proofs.Common.{◌≡◌, ℕ, ◌+◌, true, false, None, Some, List, refl, sym, ap, ◌∙◌}
use Rattle.rpki_common.specs.Chaining.{◌>>=◌}
use Rattle.rpki_sets.specs.declared.run.Run.{Run}
use Rattle.rpki_sets.specs.Texts.{cut, decimal_below}
use Rattle.rpki_sets.specs.Prefixes.{prefix}
use Rattle.rpki_sets.specs.Kinds.{Kind, run_from, range, prefix_of, item}

module _ (kind : Kind) (text : List ℕ) where
  pub range_first_none : (first last : List ℕ) → cut 45 text ≡ Some (first, last) → None ≡ kind.number first → None ≡ range kind text
  unfolding range ◌>>=◌
  range_first_none first last e h = rw e (rw (sym h) refl)

  pub range_last_none : (first last : List ℕ) (a : ℕ) → cut 45 text ≡ Some (first, last) → Some a ≡ kind.number first → None ≡ kind.number last → None ≡ range kind text
  unfolding range ◌>>=◌
  range_last_none first last a e h k = rw e (rw (sym h) (rw (sym k) refl))

  pub range_both : (first last : List ℕ) (a b : ℕ) → cut 45 text ≡ Some (first, last) → Some a ≡ kind.number first → Some b ≡ kind.number last → run_from a b ≡ range kind text
  unfolding range ◌>>=◌
  range_both first last a b e h k = rw e (rw (sym h) (rw (sym k) refl))

  pub range_one_none : cut 45 text ≡ None → None ≡ kind.number text → None ≡ range kind text
  unfolding range ◌>>=◌
  range_one_none e h = rw e (rw (sym h) refl)

  pub range_one : (a : ℕ) → cut 45 text ≡ None → Some a ≡ kind.number text → run_from a a ≡ range kind text
  unfolding range ◌>>=◌
  range_one a e h = rw e (rw (sym h) refl)

  pub item_prefix : (parts : List ℕ × List ℕ) → kind.has_prefixes ≡ true → cut 47 text ≡ Some parts → prefix_of kind parts ≡ item kind text
  unfolding item
  item_prefix parts p e = rw p (rw e refl)

  pub item_no_prefix : kind.has_prefixes ≡ true → cut 47 text ≡ None → range kind text ≡ item kind text
  unfolding item
  item_no_prefix p e = rw p (rw e refl)

  pub item_range : kind.has_prefixes ≡ false → range kind text ≡ item kind text
  unfolding item
  item_range p = rw p refl

module _ (kind : Kind) (address len : List ℕ) where
  pub prefix_address_none : None ≡ kind.number address → None ≡ prefix_of kind (address, len)
  unfolding ◌>>=◌
  prefix_address_none h = rw (sym h) refl

  pub prefix_len_none : (a w z : ℕ) → Some a ≡ kind.number address → w ≡ kind.width → z ≡ w → None ≡ decimal_below (z + 1) len → None ≡ prefix_of kind (address, len)
  unfolding ◌>>=◌
  prefix_len_none a w z h e f k =
      let k' : None ≡ decimal_below (kind.width + 1) len = k ∙ ap (λ n. decimal_below (n + 1) len) (f ∙ e) in
      rw (sym h) (rw (sym k') refl)

  pub prefix_some : (run : Run) (a n w z : ℕ) → run ≡ prefix w a n → Some a ≡ kind.number address → w ≡ kind.width → z ≡ w → Some n ≡ decimal_below (z + 1) len → Some run ≡ prefix_of kind (address, len)
  unfolding ◌>>=◌
  prefix_some run a n w z is h e f k =
      let k' : Some n ≡ decimal_below (kind.width + 1) len = k ∙ ap (λ n. decimal_below (n + 1) len) (f ∙ e) in
      ap Some (is ∙ ap (λ n'. prefix n' a n) e) ∙ rw (sym h) (rw (sym k') refl)
