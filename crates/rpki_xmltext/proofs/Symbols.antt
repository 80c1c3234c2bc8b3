-- Octets whose symbols in an alphabet of 64 are octets.
use Rattle.std.proofs.Common.{◌≡◌, ℕ, zero, suc, ◌+◌, ◌*◌, ◌/◌, ◌%◌, ◌<◌, ◌≤◌, Bool, true, false, List, [], ◌∷◌, ◌++◌, length, Result, Ok, refl, sym, ap, ◌∙◌, arith}
use Rattle.std.specs.Prelude.{nat_lt}
use Rattle.std.specs.List.{list_all, slice_index}
use Rattle.std.proofs.lemmas.List.{get_or_past}
use Rattle.std.proofs.lemmas.List.Folds.{list_all-append}
use Rattle.std.proofs.lemmas.Bool.Decides.{nat_tests}
use Rattle.base64.specs.GeneralPurpose.{IsBytes}
use Rattle.base64.specs.Rfc4648.{encode_symbols}
use Rattle.rpki_common.proofs.Truths.{both}
use Rattle.rpki_text.proofs.Bytes.{both_bytes, byte_first, no_bytes}
use Rattle.rpki_xml.specs.Lettered.{AreOctets}
use Rattle.rpki_xml.specs.Lexing.{is_octet}

differs : (x : Bool) → x ≡ true → x ≡ false → ⊥
differs x e f = cc

-- ---- octets

-- octets of a text
pub octet_byte : (text : List ℕ) → AreOctets text → IsBytes text
octet_byte [] h i = omega arith
octet_byte (c ∷ text) h zero = let p = (both (is_octet c) (list_all is_octet text) h).0 in small c p
  where
    small : (c : ℕ) → is_octet c ≡ true → c < 256
    small c h = grind (arith, nat_tests)
octet_byte (c ∷ text) h (suc i) = octet_byte text (both (is_octet c) (list_all is_octet text) h).1 i

pub same_ok : {E : Type 0} (a b : List ℕ) → ◌≡◌ {A = Result (List ℕ) E} (Ok a) (Ok b) → a ≡ b
same_ok a b e = cc

-- ---- octets with the same symbols

abbrev one : ℕ → ℕ → ℕ
one i j = i * 4 + j / 16

abbrev two : ℕ → ℕ → ℕ
two j k = j % 16 * 16 + k / 4

abbrev three : ℕ → ℕ → ℕ
three k l = k % 4 * 64 + l

-- four places, as three octets, and again
first_place : (i j : ℕ) → j < 64 → one i j / 4 ≡ i
first_place i j h = omega arith

second_place : (i j k : ℕ) → j < 64 → k < 64 → one i j % 4 * 16 + two j k / 16 ≡ j
second_place i j k h g = omega arith

third_place : (j k l : ℕ) → k < 64 → l < 64 → two j k % 16 * 4 + three k l / 64 ≡ k
third_place j k l h g = omega arith

fourth_place : (k l : ℕ) → l < 64 → three k l % 64 ≡ l
fourth_place k l h = omega arith

last_place : (j b : ℕ) → two j (b % 16 * 4) % 16 * 4 ≡ b % 16 * 4
last_place j b = omega arith

one_byte : (i j : ℕ) → i < 64 → j < 64 → one i j < 256
one_byte i j h g = omega arith

two_byte : (j k : ℕ) → k < 64 → two j k < 256
two_byte j k h = omega arith

three_byte : (k l : ℕ) → l < 64 → three k l < 256
three_byte k l h = omega arith

module _ (table : List ℕ) (count' : length table ≡ 64) where
  past_none : (k : ℕ) → 64 ≤ k → is_octet (slice_index table k) ≡ false
  past_none k le = ap is_octet (get_or_past table k 0 (omega (arith, count', le)))

  -- what is a symbol has its place in the alphabet
  place : (k : ℕ) → is_octet (slice_index table k) ≡ true → k < 64
  place k h = go (nat_lt k 64) refl
    where
      go : (x : Bool) → nat_lt k 64 ≡ x → k < 64
      go true e = grind (arith, nat_tests)
      go false e = let le : 64 ≤ k = grind (arith, nat_tests) in absurd (differs (is_octet (slice_index table k)) h (past_none k le))

  pub record Alike (m : List ℕ) : Type 0 where
    pub octets : List ℕ
    pub bytes : IsBytes octets
    pub symbols : encode_symbols table octets ≡ encode_symbols table m
    pub amount : length octets ≡ length m

  pub alike : (m : List ℕ) → AreOctets (encode_symbols table m) → Alike m
  unfolding encode_symbols
  alike [] h = record { octets = []; bytes = no_bytes; symbols = refl; amount = refl }
  alike (a ∷ []) h =
      let p = place (a / 4) (both _ _ h).0 in
      record { octets = a ∷ []; bytes = byte_first a [] (omega arith) no_bytes; symbols = refl; amount = refl }
  alike (a ∷ b ∷ []) h =
      let i = a / 4 in
      let j = a % 4 * 16 + b / 16 in
      let k = b % 16 * 4 in
      let p = both _ _ h in
      let q = both _ _ p.1 in
      let li : i < 64 = place i p.0 in
      let lj : j < 64 = place j q.0 in
      let lk : k < 64 = omega arith in
      record {
        octets = one i j ∷ two j k ∷ [];
        bytes = byte_first (one i j) (two j k ∷ []) (one_byte i j li lj) (byte_first (two j k) [] (two_byte j k lk) no_bytes);
        symbols = rw (first_place i j lj, second_place i j k lj lk, last_place j b) refl;
        amount = refl;
      }
  alike (a ∷ b ∷ c ∷ rest) h =
      let i = a / 4 in
      let j = a % 4 * 16 + b / 16 in
      let k = b % 16 * 4 + c / 64 in
      let l = c % 64 in
      let p = both _ _ h in
      let q = both _ _ p.1 in
      let r = both _ _ q.1 in
      let s = both _ _ r.1 in
      let li : i < 64 = place i p.0 in
      let lj : j < 64 = place j q.0 in
      let lk : k < 64 = place k r.0 in
      let ll : l < 64 = place l s.0 in
      let more = alike rest s.1 in
      record {
        octets = one i j ∷ two j k ∷ three k l ∷ more.octets;
        bytes = byte_first (one i j) (two j k ∷ three k l ∷ more.octets) (one_byte i j li lj) (byte_first (two j k) (three k l ∷ more.octets) (two_byte j k lk) (byte_first (three k l) more.octets (three_byte k l ll) more.bytes));
        symbols = rw (first_place i j lj, second_place i j k lj lk, third_place j k l lk ll, fourth_place k l ll, more.symbols) refl;
        amount = ap (λ (n : ℕ). suc (suc (suc n))) more.amount;
      }

  pub front_octets : (m rest : List ℕ) → AreOctets (encode_symbols table m ++ rest) → AreOctets (encode_symbols table m)
  front_octets m rest h = (both (list_all is_octet (encode_symbols table m)) (list_all is_octet rest) (sym (list_all-append is_octet (encode_symbols table m) rest) ∙ h)).0
