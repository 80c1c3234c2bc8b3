-- What is printed of a digest is read again.
use Rattle.std.proofs.Common.{◌≡◌, ℕ, ◌*◌, Bool, true, ◌==◌, nat_lt, ◌&&◌, if◌then◌else◌, List, [], ◌∷◌, length, Some, None, refl, ap, ◌∙◌}
use Rattle.std.specs.Str.{IsAscii}
use Rattle.std.specs.Result.{result_ok}
use Rattle.std.proofs.lemmas.Str.Ascii.{IsAscii-cons, IsAscii-nil}
use Rattle.std.proofs.lemmas.Bool.Decides.{Decides-and, Decides-ltb}
use Rattle.hex.specs.Hex.{decode_of, encode_lower, lower_digits, IsBytes}
use Rattle.hex.proofs.HexLemmas.{length-encode_with, decode_of-encode_lower}
use Rattle.rpki_text.specs.Hash.{digest_of_text}

-- the text of 32 octets is that of these octets
pub digest_of_text-again : (octets : List ℕ) → length octets ≡ 32 → IsBytes octets → digest_of_text (encode_lower octets) ≡ Some octets
digest_of_text-again octets size fits =
    let long : length (encode_lower octets) ≡ 64 = length-encode_with lower_digits octets ∙ ap (λ n. 2 * n) size in
    ap (λ n. if n == 64 then result_ok (decode_of (encode_lower octets)) else None) long
    ∙ ap (λ r. result_ok r) (decode_of-encode_lower octets fits)

-- a list whose numbers all pass a test
abbrev is_low : List ℕ → Bool
is_low [] = true
is_low (b ∷ bs) = nat_lt b 128 && is_low bs

IsAscii-from_test : (bs : List ℕ) → is_low bs ≡ true → IsAscii bs
IsAscii-from_test [] h = IsAscii-nil
IsAscii-from_test (b ∷ bs) h =
    let parts = (Decides-and (nat_lt b 128) (is_low bs) (Decides-ltb b 128) (λ e. e, λ e. e)).0 h in
    IsAscii-cons b bs parts.0 (IsAscii-from_test bs parts.1)

-- the digits are ASCII
pub lower_is_ascii : IsAscii lower_digits
lower_is_ascii = IsAscii-from_test lower_digits refl
