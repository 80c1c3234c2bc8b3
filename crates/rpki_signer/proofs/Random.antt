-- Random octets, block by block.
use Rattle.std.proofs.Common.{◌≡◌, ℕ, zero, suc, ◌+◌, ◌-◌, ◌<◌, ◌≤◌, ◌⊎◌, inl, inr, List, ◌++◌, length, refl, sym, ap, ◌∙◌, arith, append_assoc, length-append}
use Rattle.std.specs.Prelude.{min, take, drop}
use Rattle.std.specs.Int.{to_be_bytes, w64}
use Rattle.std.proofs.lemmas.Bool.{cases_lt}
use Rattle.std.proofs.lemmas.List.{take_at, take_all, take-append-le, length-take-le, length-drop, append-nil}
use Rattle.std.proofs.Math.Seq.{take-append-add}
use Rattle.sha2.proofs.Facts256.{length-sha256}
use Rattle.rpki_signer.specs.ToySigner.{random_block, random_blocks, octets_from}

block_length : (seed number block : ℕ) → length (random_block seed number block) ≡ 32
block_length seed number block = length-sha256 ((to_be_bytes w64 seed ++ to_be_bytes w64 number) ++ to_be_bytes w64 block)

-- blocks behind those that are needed change nothing
more_by : (seed number block k j : ℕ) → ((32 < k) ⊎ (k ≤ 32)) → ((i : ℕ) → i ≤ j → take i (random_blocks seed number (block + 1) j) ≡ take i (random_blocks seed number (block + 1) (suc j))) → k ≤ suc j
    → take k (random_blocks seed number block (suc j)) ≡ take k (random_blocks seed number block (suc (suc j)))
more_by seed number block k j (inl h) more h' =
    let l = block_length seed number block in
    let b = random_block seed number block in
    let x = random_blocks seed number (block + 1) j in
    let y = random_blocks seed number (block + 1) (suc j) in
    let split : k ≡ length b + (k - 32) = omega (arith, l, h) in
    ap (λ i. take i (b ++ x)) split ∙ (take-append-add b x (k - 32) ∙ (ap (λ o. b ++ o) (more (k - 32) (omega (arith, h, h'))) ∙ (sym (take-append-add b y (k - 32)) ∙ ap (λ i. take i (b ++ y)) (sym split))))
more_by seed number block k j (inr h) more h' =
    let l = block_length seed number block in
    let b = random_block seed number block in
    take-append-le k b (random_blocks seed number (block + 1) j) (omega (arith, l, h)) ∙ sym (take-append-le k b (random_blocks seed number (block + 1) (suc j)) (omega (arith, l, h)))

more : (seed number block k j : ℕ) → k ≤ j → take k (random_blocks seed number block j) ≡ take k (random_blocks seed number block (suc j))
more seed number block k zero h = let none : k ≡ 0 = omega (arith, h) in rw none refl
more seed number block k (suc j) h = more_by seed number block k j (cases_lt 32 k) (λ i h. more seed number (block + 1) i j h) h

enough : (seed number block k d : ℕ) → take k (random_blocks seed number block (k + d)) ≡ take k (random_blocks seed number block k)
enough seed number block k zero = let e : k + 0 ≡ k = omega arith in ap (λ i. take k (random_blocks seed number block i)) e
enough seed number block k (suc d) =
    let e : k + suc d ≡ suc (k + d) = omega arith in
    let h : k ≤ k + d = omega arith in
    ap (λ i. take k (random_blocks seed number block i)) e ∙ (sym (more seed number block k (k + d) h) ∙ enough seed number block k d)

first_block : (seed number block m : ℕ) → 0 < m → octets_from seed number block m ≡ take m (random_block seed number block ++ random_blocks seed number (block + 1) (m - 1))
first_block seed number block m h = let e : m ≡ suc (m - 1) = omega (arith, h) in ap (λ k. take m (random_blocks seed number block k)) e

short_step : (seed number block m count : ℕ) → 0 < m → m ≤ 32 → count ≡ m → octets_from seed number block m ≡ take count (random_block seed number block) ++ octets_from seed number (block + 1) (m - count)
short_step seed number block m count some h e =
    let l = block_length seed number block in
    let none : m - count ≡ 0 = omega (arith, e) in
    first_block seed number block m some ∙ (take-append-le m (random_block seed number block) (random_blocks seed number (block + 1) (m - 1)) (omega (arith, l, h))
    ∙ (ap (λ k. take k (random_block seed number block)) (sym e)
    ∙ (sym (append-nil (take count (random_block seed number block))) ∙ ap (λ k. take count (random_block seed number block) ++ octets_from seed number (block + 1) k) (sym none))))

long_step : (seed number block m count : ℕ) → 32 < m → count ≡ 32 → octets_from seed number block m ≡ take count (random_block seed number block) ++ octets_from seed number (block + 1) (m - count)
long_step seed number block m count h e =
    let l = block_length seed number block in
    let b = random_block seed number block in
    let split : m ≡ length b + (m - count) = omega (arith, l, e, h) in
    let beyond : m - 1 ≡ (m - count) + 31 = omega (arith, e, h) in
    first_block seed number block m (omega (arith, h))
    ∙ (ap (λ k. take k (b ++ random_blocks seed number (block + 1) (m - 1))) split
    ∙ (take-append-add b (random_blocks seed number (block + 1) (m - 1)) (m - count)
    ∙ (ap (λ k. b ++ take (m - count) (random_blocks seed number (block + 1) k)) beyond
    ∙ (ap (λ o. b ++ o) (enough seed number (block + 1) (m - count) 31)
    ∙ ap (λ o. o ++ octets_from seed number (block + 1) (m - count)) (sym (take_all count b (omega (arith, l, e))))))))

step_by : (seed number block m count : ℕ) → ((32 < m) ⊎ (m ≤ 32)) → 0 < m → count ≡ min m 32 → octets_from seed number block m ≡ take count (random_block seed number block) ++ octets_from seed number (block + 1) (m - count)
step_by seed number block m count (inl h) some e = long_step seed number block m count h (omega (arith, e, h))
step_by seed number block m count (inr h) some e = short_step seed number block m count some h (omega (arith, e, h))

pub step : (seed number block m count : ℕ) → 0 < m → count ≡ min m 32 → octets_from seed number block m ≡ take count (random_block seed number block) ++ octets_from seed number (block + 1) (m - count)
step seed number block m count some e = step_by seed number block m count (cases_lt 32 m) some e

-- what was copied stands behind what stood before
pub copied : (at count : ℕ) (target octets new : List ℕ) → at + count ≤ length target → count ≤ length octets → new ≡ take at target ++ (take count octets ++ drop (at + length (take count octets)) target)
    → (take (at + count) new ≡ take at target ++ take count octets) × (length new ≡ length target)
copied at count target octets new h k e =
    let la : length (take at target) ≡ at = length-take-le at target (omega (arith, h)) in
    let lc : length (take count octets) ≡ count = length-take-le count octets k in
    let d = drop (at + length (take count octets)) target in
    let whole : length (take at target ++ take count octets) ≡ at + count = omega (arith, length-append (take at target) (take count octets), la, lc) in
    let assoc : new ≡ (take at target ++ take count octets) ++ d = e ∙ sym (append_assoc (take at target) (take count octets) d) in (
      ap (λ o. take (at + count) o) assoc ∙ take_at (take at target ++ take count octets) d (at + count) whole,
      ap (λ (o : List ℕ). length o) assoc ∙ omega (arith, length-append (take at target ++ take count octets) d, whole, length-drop (at + length (take count octets)) target, lc, h),
    )

-- a round of the loop
pub filled : (seed number block at count : ℕ) (target new all : List ℕ) → at < length target → count ≡ min (length target - at) 32 → new ≡ take at target ++ (take count (random_block seed number block) ++ drop (at + length (take count (random_block seed number block))) target)
    → take at target ++ octets_from seed number block (length target - at) ≡ all
    → (take (at + count) new ++ octets_from seed number (block + 1) (length new - (at + count)) ≡ all) × (length new ≡ length target) × (at + count ≤ length new) × (0 < count)
filled seed number block at count target new all h e n i =
    let b = random_block seed number block in
    let l = block_length seed number block in
    let within : at + count ≤ length target = omega (arith, h, e) in
    let c = copied at count target b new within (omega (arith, l, e)) n in
    let left : length new - (at + count) ≡ length target - at - count = omega (arith, c.1) in (
      ap (λ o. o ++ octets_from seed number (block + 1) (length new - (at + count))) c.0
          ∙ (ap (λ k. (take at target ++ take count b) ++ octets_from seed number (block + 1) k) left
          ∙ (append_assoc (take at target) (take count b) (octets_from seed number (block + 1) (length target - at - count))
          ∙ (ap (λ o. take at target ++ o) (sym (step seed number block (length target - at) count (omega (arith, h)) e)) ∙ i))),
      c.1,
      omega (arith, c.1, within),
      omega (arith, h, e),
    )

pub at_end : (seed number block at : ℕ) (target all : List ℕ) → length target ≤ at → at ≤ length target → take at target ++ octets_from seed number block (length target - at) ≡ all → target ≡ all
at_end seed number block at target all h k e =
    let none : length target - at ≡ 0 = omega (arith, h) in
    sym (take_all at target h) ∙ (sym (append-nil (take at target)) ∙ (ap (λ m. take at target ++ octets_from seed number block m) (sym none) ∙ e))
