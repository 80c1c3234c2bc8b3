-- Prefixes lie within their width, and the loops over bits.
use Rattle.std.proofs.Common.{◌≡◌, ◌≢◌, Bool, true, false, cond, None, Some, ℕ, suc, ◌+◌, ◌-◌, ◌*◌, ◌/◌, ◌%◌, ◌^◌, ◌<◌, ◌≤◌, refl, sym, ap, ◌∙◌, arith, mod-eq_of_lt}
use Rattle.std.specs.Prelude.{count_ones}
use Rattle.std.specs.Int.Count.{ones-ones}
use Rattle.std.proofs.lemmas.Bool.{cond-true, cond-false}
use Rattle.std.proofs.Math.Nat.{mul-le-mul_right, div-lt_iff_lt-mul}
use Rattle.std.proofs.lemmas.Nat.{pow-add, pow_pos}
use Rattle.std.proofs.Math.Pow.{pow-lt, pow_mono}
use Rattle.rpki_sets.specs.declared.run.Run.{Run}
use Rattle.rpki_sets.specs.Comparing.{is_same}
use Rattle.rpki_sets.proofs.EqualRuns.{is_same-true, is_same-refl}
use Rattle.rpki_sets.specs.Prefixes.{prefix, prefix_length}

-- a whole block of an address lies below the power that the address lies below
pub block_below : (address free width : ℕ) → free ≤ width → address < 2 ^ width → address / 2 ^ free * 2 ^ free + 2 ^ free ≤ 2 ^ width
block_below address free width within below =
    let split : 2 ^ width ≡ 2 ^ (width - free) * 2 ^ free = ap (λ n. 2 ^ n) (omega arith) ∙ pow-add 2 (width - free) free in
    let under : address < 2 ^ (width - free) * 2 ^ free = omega (arith, split) in
    let quotient : address / 2 ^ free < 2 ^ (width - free) = (div-lt_iff_lt-mul (pow_pos free)).1 under in
    let whole : suc (address / 2 ^ free) * 2 ^ free ≤ 2 ^ (width - free) * 2 ^ free = mul-le-mul_right (2 ^ free) quotient in
    omega (arith, whole, split)

pub size_is : (free : ℕ) → free < 128 → 1 * 2 ^ free % 340282366920938463463374607431768211456 ≡ 2 ^ free
size_is free small =
    let below : 2 ^ free < 2 ^ 128 = pow-lt small in
    let alone : 1 * 2 ^ free ≡ 2 ^ free = omega arith in
    rw alone (mod-eq_of_lt below)

pub last_fits : (address free width : ℕ) → free ≤ width → width ≤ 128 → address < 2 ^ width → free ≢ 128 → (size : ℕ) → size ≡ 1 * 2 ^ free % 340282366920938463463374607431768211456 → address / size * size + (size - 1) < 2 ^ 128
last_fits address free width within bounded below other size is =
    let size_is' : size ≡ 2 ^ free = is ∙ size_is free (omega arith) in
    let block = block_below address free width within below in
    let top : 2 ^ width ≤ 2 ^ 128 = pow_mono bounded in
    let positive = pow_pos free in
    rw size_is' (omega (arith, block, top, positive))

-- ---- the length of a prefix

module _ (width : ℕ) (run : Run) where
  abbrev the_len : ℕ
  the_len = width - count_ones (run.last - run.first)

  same_answer : (made : Run) (len : ℕ) (b : Bool) → len ≡ the_len → made ≡ prefix width run.first len → b ≡ is_same made run → is_same (prefix width run.first the_len) run ≡ b
  same_answer made len b e is same = sym (same ∙ ap (λ m. is_same m run) (is ∙ ap (prefix width run.first) e))

  pub prefix_length_some : (made : Run) (len : ℕ) → len ≡ the_len → made ≡ prefix width run.first len → true ≡ is_same made run → Some len ≡ prefix_length width run
  unfolding prefix_length
  prefix_length_some made len e is same = ap Some e ∙ sym (cond-true _ _ _ (same_answer made len true e is same))

  pub prefix_length_none : (made : Run) (len : ℕ) → len ≡ the_len → made ≡ prefix width run.first len → false ≡ is_same made run → None ≡ prefix_length width run
  unfolding prefix_length
  prefix_length_none made len e is same = sym (cond-false _ _ _ (same_answer made len false e is same))

some_len : (width : ℕ) (run : Run) (n len : ℕ) (b : Bool) → is_same (prefix width run.first n) run ≡ b → cond b (Some n) None ≡ Some len → (n ≡ len) × (prefix width run.first n ≡ run)
some_len width run n len true same e = (cc, is_same-true _ _ same)
some_len width run n len false same e = absurd (cc)

-- a length that is found is that of the prefix
pub prefix_length-sound : (width : ℕ) (run : Run) (len : ℕ) → prefix_length width run ≡ Some len → (len ≤ width) × (prefix width run.first len ≡ run)
unfolding prefix_length
prefix_length-sound width run len e =
    let found = some_len width run (the_len width run) len (is_same (prefix width run.first (the_len width run)) run) refl e in
    (omega (arith, found.0), ap (prefix width run.first) (sym found.0) ∙ found.1)

-- the length of a prefix is found
pub prefix_length-complete : (width : ℕ) (run : Run) (len : ℕ) → len ≤ width → prefix width run.first len ≡ run → prefix_length width run ≡ Some len
prefix_length-complete width run len within is =
    let size = 2 ^ (width - len) in
    let first : run.first / size * size ≡ run.first = ap (λ r. r.first) is in
    let last : run.first / size * size + (size - 1) ≡ run.last = ap (λ r. r.last) is in
    let gap : run.last - run.first ≡ 2 ^ (width - len) - 1 = omega arith in
    let ones : count_ones (run.last - run.first) ≡ width - len = ap count_ones gap ∙ ones-ones (width - len) in
    let e : len ≡ the_len width run = omega (arith, ones) in
    sym (prefix_length_some width run run len e (sym is) (sym (is_same-refl run run refl)))
