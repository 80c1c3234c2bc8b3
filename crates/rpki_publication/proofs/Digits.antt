-- The digits of a digest stand for themselves, and are octets that a document may have.
use Rattle.std.proofs.Common.{◌≡◌, ℕ, zero, suc, ◌/◌, ◌%◌, ◌<◌, Bool, true, false, ◌&&◌, not, List, [], ◌∷◌, ◌++◌, length, Some, None, Result, Ok, Err, refl, sym, ap, arith}
use Rattle.std.specs.Prelude.{nat_eq, ◌==◌, if◌then◌else◌, codes}
use Rattle.std.specs.List.{list_all, flat_map}
use Rattle.std.specs.Result.{result_ok}
use Rattle.std.specs.Int.{to_be_bytes, bytes_high_first, byte_at, w64}
use Rattle.std.proofs.lemmas.Bool.{eqb-true}
use Rattle.hex.specs.Hex.{lower_digits, encode_with, encode_lower, decode_of, IsBytes}
use Rattle.hex.specs.declared.error.FromHexError.{FromHexError}
use Rattle.hex.proofs.HexLemmas.{decode_of-ok}
use Rattle.sha2.specs.Sha256.{sha256, digest_bytes}
use Rattle.sha2.proofs.Facts256.{length-sha256}
use Rattle.rpki_common.proofs.Truths.{both, none_some, same_some}
use Rattle.rpki_xmltext.proofs.Base64s.{symbol, member}
use Rattle.rpki_text.proofs.Bytes.{both_bytes, byte_first, no_bytes}
use Rattle.rpki_text.specs.Hash.{digest_of_text}
use Rattle.rpki_xml.specs.Lettered.{AreOctets}
use Rattle.rpki_xml.specs.Lexing.{is_octet}
use Rattle.rpki_xml.specs.Spelling.{value_character, spelled_value, spelled_attribute}
use Rattle.rpki_publication.specs.Change.{IsDigest}

digits : (test : ℕ → Bool) (xs : List ℕ) → test 0 ≡ true → list_all test lower_digits ≡ true → list_all test (encode_with lower_digits xs) ≡ true
unfolding encode_with
digits test [] z h = refl
digits test (b ∷ rest) z h = rw (symbol test lower_digits (b / 16) z h, symbol test lower_digits (b % 16) z h) (digits test rest z h)

abbrev stands : ℕ → Bool
stands c = not (nat_eq c 34) && (not (nat_eq c 39) && (not (nat_eq c 38) && (not (nat_eq c 60) && not (nat_eq c 62))))

not_false : (b : Bool) → not b ≡ true → b ≡ false
not_false true h = absurd cc
not_false false h = refl

standing : (text : List ℕ) → list_all stands text ≡ true → flat_map value_character text ≡ text
standing [] h = refl
standing (c ∷ text) h =
    let p = both (stands c) (list_all stands text) h in
    let q = both (not (nat_eq c 34)) _ p.0 in
    let r = both (not (nat_eq c 39)) _ q.1 in
    let s = both (not (nat_eq c 38)) _ r.1 in
    let t = both (not (nat_eq c 60)) (not (nat_eq c 62)) s.1 in
    rw (not_false (nat_eq c 34) q.0, not_false (nat_eq c 39) r.0, not_false (nat_eq c 38) s.0, not_false (nat_eq c 60) t.0, not_false (nat_eq c 62) t.1, standing text p.1) refl

spelled_digits : (hash : List ℕ) → spelled_value (encode_lower hash) ≡ encode_lower hash
unfolding spelled_value
spelled_digits hash = standing (encode_lower hash) (digits stands hash refl refl)

pub hash_spelled : (hash : List ℕ) → codes " hash=\"" ++ (encode_lower hash ++ codes "\"") ≡ spelled_attribute (codes "hash") (encode_lower hash)
hash_spelled hash = ap (λ (l : List ℕ). codes " hash=\"" ++ (l ++ codes "\"")) (sym (spelled_digits hash))

-- ---- octets of a document

rest_bytes : (x : ℕ) (m : List ℕ) → IsBytes (x ∷ m) → IsBytes m
rest_bytes x m h i = h (suc i)

octets : (xs : List ℕ) → IsBytes xs → AreOctets (encode_with lower_digits xs)
unfolding encode_with
octets [] h = refl
octets (b ∷ rest) h =
    let small : b < 256 = h 0 in
    rw (member is_octet lower_digits (b / 16) refl (omega arith), member is_octet lower_digits (b % 16) refl (omega arith)) (octets rest (rest_bytes b rest h))

pub digest_octets : (hash : List ℕ) → IsDigest hash → AreOctets (encode_lower hash)
digest_octets hash h = octets hash h.1

-- ---- what is read is a digest

told : (r : Result (List ℕ) FromHexError) (h : List ℕ) → result_ok r ≡ Some h → r ≡ Ok h
told (Ok x) h e = ap Ok (same_some x h e)
told (Err x) h e = absurd (none_some h e)

read_at : (text h : List ℕ) (b : Bool) → (length text == 64) ≡ b → (if b then result_ok (decode_of text) else None) ≡ Some h → IsDigest h
read_at text h false is e = absurd (none_some h e)
read_at text h true is e =
    let ok = decode_of-ok text h (told (decode_of text) h e) in
    let long = eqb-true (length text) 64 is in
    let twice = ok.2 in
    (omega (arith, long, twice), ok.3)

pub digest_read : (text h : List ℕ) → digest_of_text text ≡ Some h → IsDigest h
digest_read text h e = read_at text h (length text == 64) refl e

-- ---- what SHA-256 gives is a digest

byte : (i n : ℕ) → byte_at i n < 256
byte zero n = omega arith
byte (suc i) n = omega arith

high_first : (k n : ℕ) → IsBytes (bytes_high_first k n)
high_first zero n = no_bytes
high_first (suc k) n = byte_first (byte_at k n) (bytes_high_first k n) (byte k n) (high_first k n)

words : (h : List ℕ) (n : ℕ) → IsBytes (digest_bytes h n)
unfolding digest_bytes
words h zero = no_bytes
words h (suc n) = both_bytes (digest_bytes h n) _ (words h n) (high_first 4 _)

-- octets of numbers, the most significant first
pub numbers : (a b : ℕ) → IsBytes (to_be_bytes w64 a ++ to_be_bytes w64 b)
numbers a b = both_bytes (to_be_bytes w64 a) (to_be_bytes w64 b) (high_first 8 a) (high_first 8 b)

pub sha256_digest : (m : List ℕ) → IsDigest (sha256 m)
unfolding sha256
sha256_digest m = (length-sha256 m, words _ 8)
