-- The octets of a number, the highest first.
use Rattle.std.proofs.Common.{◌≡◌, ℕ, zero, suc, ◌+◌, ◌-◌, ◌*◌, ◌/◌, ◌%◌, ◌^◌, ◌<◌, List, [], ◌∷◌, length, get_or, refl, arith}
use Rattle.std.specs.Int.{w128, byte_at, bytes_high_first, from_be_bytes, to_be_bytes}
use Rattle.std.specs.Net.Addr.{octets_of, segments_of}
use Rattle.std.proofs.Math.Nat as nat

byte_small : (k n : ℕ) → byte_at k n < 256
byte_small zero n = omega arith
byte_small (suc k) n = omega arith

pub bytes_small : (k n i : ℕ) → get_or (bytes_high_first k n) i 0 < 256
bytes_small zero n i = omega arith
bytes_small (suc k) n zero = byte_small k n
bytes_small (suc k) n (suc i) = bytes_small k n i

pub octets_of-segments_of : (n : ℕ) (xs : List ℕ) → length xs ≡ 2 * n → ((k : ℕ) → get_or xs k 0 < 256) → octets_of (segments_of xs) ≡ xs
octets_of-segments_of n [] even small = refl
octets_of-segments_of n (a ∷ []) even small = absurd (omega arith)
octets_of-segments_of n (a ∷ b ∷ xs) even small =
    let low : b < 256 = small 1 in
    let high : (a * 256 + b) / 256 ≡ a = omega arith in
    let rest : (a * 256 + b) % 256 ≡ b = omega arith in
    λ i. high i ∷ rest i ∷ octets_of-segments_of (n - 1) xs (omega arith) (λ k. small (suc (suc k))) i

pub segments_small : (xs : List ℕ) → ((k : ℕ) → get_or xs k 0 < 256) → (k : ℕ) → get_or (segments_of xs) k 0 < 2 ^ 16
segments_small [] small k = omega arith
segments_small (a ∷ []) small k = omega arith
segments_small (a ∷ b ∷ xs) small zero = let high = small 0 in let low = small 1 in omega arith
segments_small (a ∷ b ∷ xs) small (suc k) = segments_small xs (λ i. small (suc (suc i))) k

byte_and_rest : (n p : ℕ) → n / p ≡ n / p % 256 + n / (p * 256) * 256
byte_and_rest n p = omega (arith, nat.div-div-eq-div-mul n p 256)

joined_16 : (a0 a1 a2 a3 a4 a5 a6 a7 a8 a9 a10 a11 a12 a13 a14 a15 n0 n1 n2 n3 n4 n5 n6 n7 n8 n9 n10 n11 n12 n13 n14 n15 : ℕ)
    → n0 ≡ a0 + n1 * 256 → n1 ≡ a1 + n2 * 256 → n2 ≡ a2 + n3 * 256 → n3 ≡ a3 + n4 * 256 → n4 ≡ a4 + n5 * 256 → n5 ≡ a5 + n6 * 256 → n6 ≡ a6 + n7 * 256 → n7 ≡ a7 + n8 * 256
    → n8 ≡ a8 + n9 * 256 → n9 ≡ a9 + n10 * 256 → n10 ≡ a10 + n11 * 256 → n11 ≡ a11 + n12 * 256 → n12 ≡ a12 + n13 * 256 → n13 ≡ a13 + n14 * 256 → n14 ≡ a14 + n15 * 256 → n15 ≡ a15
    → a15 * 256 ^ 15 + a14 * 256 ^ 14 + a13 * 256 ^ 13 + a12 * 256 ^ 12 + a11 * 256 ^ 11 + a10 * 256 ^ 10 + a9 * 256 ^ 9 + a8 * 256 ^ 8 + a7 * 256 ^ 7 + a6 * 256 ^ 6 + a5 * 256 ^ 5 + a4 * 256 ^ 4 + a3 * 256 ^ 3 + a2 * 256 ^ 2 + a1 * 256 ^ 1 + a0 ≡ n0
joined_16 a0 a1 a2 a3 a4 a5 a6 a7 a8 a9 a10 a11 a12 a13 a14 a15 n0 n1 n2 n3 n4 n5 n6 n7 n8 n9 n10 n11 n12 n13 n14 n15 e0 e1 e2 e3 e4 e5 e6 e7 e8 e9 e10 e11 e12 e13 e14 e15 = omega arith

pub from_be_bytes-to_be_bytes_16 : (n : ℕ) → n < 2 ^ 128 → from_be_bytes w128 (to_be_bytes w128 n) ≡ n
from_be_bytes-to_be_bytes_16 n fits =
    let low : n ≡ n % 256 + n / 256 ^ 1 * 256 = omega arith in
    let high : n / 256 ^ 15 ≡ n / 256 ^ 15 % 256 = omega arith in
    joined_16 _ _ _ _ _ _ _ _ _ _ _ _ _ _ _ _ n _ _ _ _ _ _ _ _ _ _ _ _ _ _ _ low (byte_and_rest n (256 ^ 1)) (byte_and_rest n (256 ^ 2)) (byte_and_rest n (256 ^ 3)) (byte_and_rest n (256 ^ 4)) (byte_and_rest n (256 ^ 5)) (byte_and_rest n (256 ^ 6)) (byte_and_rest n (256 ^ 7)) (byte_and_rest n (256 ^ 8)) (byte_and_rest n (256 ^ 9)) (byte_and_rest n (256 ^ 10)) (byte_and_rest n (256 ^ 11)) (byte_and_rest n (256 ^ 12)) (byte_and_rest n (256 ^ 13)) (byte_and_rest n (256 ^ 14)) high
