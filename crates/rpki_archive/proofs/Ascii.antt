-- The words of the command `receive` are text.
use Rattle.std.proofs.Common.{◌≡◌, ◌<◌, ◌≤◌, ℕ, ℤ, pos, negsuc, true, nat_lt, None, Some, Result, Ok, Err, List, [], ◌∷◌, codes, refl, sym, subst, arith}
use Rattle.std.specs.List.{list_all}
use Rattle.std.specs.Result.{result_ok}
use Rattle.std.specs.Str.{IsAscii, IsUtf8}
use Rattle.std.proofs.lemmas.Bool.Decides.{Decides-ltb, nat_tests}
use Rattle.std.proofs.lemmas.Fmt.{IsAscii-decimal}
use Rattle.std.proofs.lemmas.Str.{IsUtf8-from_ascii}
use Rattle.std.proofs.lemmas.Str.Ascii.{IsAscii-nil, IsAscii-cons, IsAscii-from_all}
use Rattle.std.proofs.lemmas.List.Elements.{All-weaker}
use Rattle.hex.specs.Hex.{decode_of, is_hex_digit}
use Rattle.hex.proofs.HexLemmas.{decode_of-ok}
use Rattle.rpki_common.specs.Chaining.{◌>>=◌}
use Rattle.rpki_common.proofs.Truths.{both}
use Rattle.rpki_der.specs.Whole.{whole_of}
use Rattle.rpki_der.specs.declared.mode.Mode.TheVariants.{Der}
use Rattle.hex.specs.declared.error.FromHexError.{FromHexError}
use Rattle.rpki_base.specs.PublicKey.{KeyFields, public_key}
use Rattle.rpki_ca.specs.declared.receiving.Kind.{Kind}
use Rattle.rpki_ca.specs.declared.receiving.Kind.TheVariants.{Publication, Provisioning}
use Rattle.rpki_ca.specs.Command.{kind_word}
use Rattle.rpki_ca.specs.Words.{SpellsMoment, key_of_word}

ascii_from : (octets : List ℕ) → list_all (λ octet. nat_lt octet 128) octets ≡ true → IsAscii octets
ascii_from [] e = IsAscii-nil
ascii_from (x ∷ xs) e =
    let parts = both (nat_lt x 128) (list_all (λ octet. nat_lt octet 128) xs) e in
    IsAscii-cons x xs ((Decides-ltb x 128).0 parts.0) (ascii_from xs parts.1)

pub kind_is_text : (kind : Kind) → IsUtf8 (kind_word kind)
kind_is_text Publication = IsUtf8-from_ascii (codes "publication") (ascii_from (codes "publication") refl)
kind_is_text Provisioning = IsUtf8-from_ascii (codes "provisioning") (ascii_from (codes "provisioning") refl)

pub moment_is_text : (word : List ℕ) (when : ℤ) → SpellsMoment word when → IsUtf8 word
moment_is_text word (pos n) m =
    let most : n ≤ 253402300799 = m.1 in
    subst IsUtf8 (sym m.0) (IsUtf8-from_ascii _ (IsAscii-decimal n (omega (arith, most))))
moment_is_text word (negsuc n) m = absurd m

digit_small : (c : ℕ) → is_hex_digit c ≡ true → c < 128
digit_small c e = grind (arith, nat_tests)

digits_are_text : (word octets : List ℕ) → decode_of word ≡ Ok octets → IsUtf8 word
digits_are_text word octets e =
    IsUtf8-from_ascii word (IsAscii-from_all word (All-weaker (λ c. is_hex_digit c ≡ true) (λ c. c < 128) digit_small word (decode_of-ok word octets e).1))

decoded : (word : List ℕ) (r : Result (List ℕ) FromHexError) (key : KeyFields) → decode_of word ≡ r → (result_ok r >>= whole_of public_key Der) ≡ Some key → IsUtf8 word
unfolding ◌>>=◌
decoded word (Ok octets) key e k = digits_are_text word octets e
decoded word (Err f) key e k = absurd (no_key key k)
  where
    no_key : (key : KeyFields) → None ≡ Some key → ⊥
    no_key key e = cc

pub key_is_text : (word : List ℕ) (key : KeyFields) → key_of_word word ≡ Some key → IsUtf8 word
key_is_text word key e = decoded word (decode_of word) key refl e
