-- The name under which a certificate lies in its directory: its URI is lawful.
use Rattle.std.proofs.Common.{◌≡◌, ℕ, zero, suc, ◌+◌, ◌-◌, ◌/◌, ◌%◌, ◌<◌, ◌≤◌, Bool, true, false, ◌&&◌, ◌||◌, not, nat_lt, nat_eq, if◌then◌else◌, Option, Some, None, List, [], ◌∷◌, ◌++◌, length, take, drop, codes, slice_index, refl, sym, ap, subst, ◌∙◌, append_assoc, append-nil, length-append, arith}
use Rattle.std.specs.List.{list_all, list_any, slice_split, onto_first}
use Rattle.std.specs.Cmp.Lexicographic.{pointwise, bytes_decides}
use Rattle.std.proofs.lemmas.Bool.Decides.{Decides-below_and, nat_tests}
use Rattle.std.proofs.lemmas.Grind.{common_steps}
use Rattle.std.proofs.lemmas.List.{take-append-drop, take-append-le, drop-append-le, drop_all}
use Rattle.std.proofs.lemmas.List.Folds.{list_all-append, list_any-append}
use Rattle.std.proofs.lemmas.List.Splits.{slice_split-cons_no, slice_split-cons_yes, length-slice_split}
use Rattle.hex.specs.Hex.{IsBytes, encode_upper, encode_with, upper_digits}
use Rattle.hex.proofs.HexLemmas.{length-encode_with}
use Rattle.rpki_common.proofs.Truths.{are_true, both}
use Rattle.rpki_text.specs.Uri.{is_uri_octet}
use Rattle.rpki_text.proofs.Naming.{IsName, first_stays, is_no_slash, long_is_no_dot, one_part}

-- ---- the name of a certificate

module _ (p : ℕ → Bool) (digits : (d : ℕ) → d < 16 → p (slice_index upper_digits d) ≡ true) (end : list_all p (codes ".cer") ≡ true) where
  all_pass : (key : List ℕ) → IsBytes key → list_all p (encode_upper key ++ codes ".cer") ≡ true
  unfolding encode_with
  all_pass [] bytes = end
  all_pass (b ∷ rest) bytes =
      let small : b < 256 = bytes 0 in
      are_true (p (slice_index upper_digits (b / 16))) _ (digits (b / 16) (omega (arith, small)))
      (are_true (p (slice_index upper_digits (b % 16))) _ (digits (b % 16) (omega arith)) (all_pass rest (λ i. bytes (suc i))))

abbrev all_below : (ℕ → Bool) → ℕ → Bool
all_below p zero = true
all_below p (suc n) = p (slice_index upper_digits n) && all_below p n

uri_digits : (d : ℕ) → d < 16 → is_uri_octet (slice_index upper_digits d) ≡ true
uri_digits = (Decides-below_and (λ n. is_uri_octet (slice_index upper_digits n)) (λ n. is_uri_octet (slice_index upper_digits n) ≡ true) (all_below is_uri_octet) (λ n. (λ e. e, λ e. e)) refl (λ n. refl) 16).0 refl

no_slash_digits : (d : ℕ) → d < 16 → is_no_slash (slice_index upper_digits d) ≡ true
no_slash_digits = (Decides-below_and (λ n. is_no_slash (slice_index upper_digits n)) (λ n. is_no_slash (slice_index upper_digits n) ≡ true) (all_below is_no_slash) (λ n. (λ e. e, λ e. e)) refl (λ n. refl) 16).0 refl

pub key_named : (key : List ℕ) → length key ≡ 20 → IsBytes key → IsName (encode_upper key ++ codes ".cer")
key_named key twenty bytes =
    let name = encode_upper key ++ codes ".cer" in
    let plain = all_pass is_no_slash no_slash_digits refl key bytes in
    let size : length name ≡ 44 = omega (arith, length-append (encode_upper key) (codes ".cer"), length-encode_with upper_digits key, twenty) in
    record {
      octets = all_pass is_uri_octet uri_digits refl key bytes;
      one = one_part name plain;
      dots = long_is_no_dot name (omega (arith, size));
      slash = first_stays name plain;
      short = omega (arith, size);
    }
