-- What single words say.
use Rattle.std.proofs.Common.{◌≡◌, ◌≤◌, ◌<◌, ◌^◌, ℕ, ℤ, pos, negsuc, Option, Some, None, Result, Ok, Err, List, [], ◌∷◌, refl, sym, ap, ◌∙◌, arith, w64, to_z, of_z, Bool, true, false}
use Rattle.std.specs.Result.{result_ok}
use Rattle.std.specs.Fmt.{decimal, signed_decimal}
use Rattle.std.specs.Int.Signed.{lt_z, le_z_yes}
use Rattle.std.proofs.Math.Facts.{to_z-of_z}
use Rattle.std.specs.Prelude.{bytes_eq, not, IsNone, IsSome}
use Rattle.std.proofs.lemmas.Float.{T_from_true}
use Rattle.std.proofs.lemmas.Bool.{le-leb}
use Rattle.std.proofs.lemmas.Bool.Decides.{Decides-ltb}
use Rattle.std.proofs.lemmas.Slice.Eq.{bytes_eq-Decides}
use Rattle.rpki_base.specs.Civil as civil
use Rattle.std.specs.Str.Parse.{ParsesSigned, ParsesUnsigned}
use Rattle.std.proofs.lemmas.Fmt.{parse-decimal, parse-signed_decimal}
use Rattle.std.proofs.lemmas.Int.{fits_signed_from_abs}
use Rattle.rpki_common.specs.Chaining.{◌>>=◌}
use Rattle.rpki_der.specs.declared.mode.Mode.{Mode}
use Rattle.rpki_der.specs.declared.error.DecodeError.TheVariants.{Malformed}
use Rattle.rpki_der.specs.Reader.{value_at}
use Rattle.rpki_der.specs.Value.{Value}
use Rattle.rpki_der.specs.Whole.{IsWhole, RefusesWhole, whole_alone, alone, whole_of}
use Rattle.rpki_der.proofs.Decoding.{value_at-begins, value_at-sound}
use Rattle.hex.specs.Hex.{decode_of}
use Rattle.rpki_der.specs.declared.error.DecodeError.{DecodeError}
use Rattle.rpki_der.specs.declared.mode.Mode.TheVariants.{Der}
use Rattle.rpki_base.specs.PublicKey.{KeyFields, public_key}
use Rattle.rpki_ca.specs.Words.{SpellsMoment, IsNumber, key_of_word}

-- ---- moments

pub parsed : {E : Type 0} (word : List ℕ) (when : ℤ) (r : Result ℤ E) → SpellsMoment word when → ParsesSigned w64 10 word r → r ≡ Ok when
parsed word (pos n) r m p =
    let most : n ≤ 253402300799 = m.1 in
    parse-signed_decimal w64 (pos n) word r (fits_signed_from_abs w64 (pos n) (omega (arith, most))) (omega (arith, most)) m.0 p
parsed word (negsuc n) r m p = absurd m

pub not_refused : {E : Type 0} (word : List ℕ) (e : E) → ParsesSigned w64 10 word (Err e) → (when : ℤ) → SpellsMoment word when → ⊥
not_refused word e p when m = let same : Err e ≡ Ok when = parsed word when (Err e) m p in cc

ok_ℤ : {E : Type 0} → ℤ → Result ℤ E
ok_ℤ z = Ok z

pub is_parsed : {E : Type 0} (word : List ℕ) (z when : ℤ) (r : Result ℤ E) → r ≡ Ok z → ParsesSigned w64 10 word r → SpellsMoment word when → z ≡ when
is_parsed word z when r e p m = let same : Ok z ≡ Ok when = sym e ∙ parsed word when r m p in cc

-- ---- one value

pub whole_is : {X : Type 0} (grammar : Value → Option X) (mode : Mode) (octets : List ℕ) (x : X) → IsWhole grammar mode octets x → whole_of grammar mode octets ≡ Some x
unfolding whole_of alone ◌>>=◌
whole_is grammar mode octets x w = rw (value_at-begins mode octets w.value [] w.begins) w.reads

whole_cases : {X : Type 0} (grammar : Value → Option X) (mode : Mode) (octets : List ℕ) (o : Option (Value × List ℕ)) → value_at mode octets ≡ o → RefusesWhole grammar mode octets Malformed → ((o >>= whole_alone) >>= grammar) ≡ None
unfolding RefusesWhole ◌>>=◌
whole_cases grammar mode octets None e r = refl
whole_cases grammar mode octets (Some (v, [])) e r = r v (value_at-sound mode octets v [] e)
whole_cases grammar mode octets (Some (v, a ∷ more)) e r = refl

pub whole_none : {X : Type 0} (grammar : Value → Option X) (mode : Mode) (octets : List ℕ) → RefusesWhole grammar mode octets Malformed → whole_of grammar mode octets ≡ None
unfolding whole_of alone
whole_none grammar mode octets r = whole_cases grammar mode octets (value_at mode octets) refl r

-- ---- words that are no spelling of a number

-- a number as the machine keeps it is read back
kept : (word : List ℕ) (when : ℤ) → SpellsMoment word when → to_z w64 (of_z w64 when) ≡ when
kept word (pos n) m = let most : n ≤ 253402300799 = m.1 in to_z-of_z (fits_signed_from_abs w64 (pos n) (omega (arith, most)))
kept word (negsuc n) m = absurd m

pub read_back : {E : Type 0} (word : List ℕ) (z when : ℤ) (r : Result ℤ E) → r ≡ Ok z → ParsesSigned w64 10 word r → SpellsMoment word when → to_z w64 (of_z w64 z) ≡ when
read_back word z when r e p m = ap (λ (k : ℤ). to_z w64 (of_z w64 k)) (is_parsed word z when r e p m) ∙ kept word when m

pub not_negative : (word : List ℕ) (z when : ℤ) → z ≡ when → lt_z z (pos 0) ≡ true → SpellsMoment word when → ⊥
not_negative word z (pos n) e l m = let less : n < 0 = (Decides-ltb n 0).0 (ap (λ (x : ℤ). lt_z x (pos 0)) (sym e) ∙ l) in omega (arith, less)
not_negative word z (negsuc n) e l m = m

pub written_alike : (word text : List ℕ) (z when : ℤ) → z ≡ when → text ≡ signed_decimal z → not (bytes_eq text word) ≡ true → SpellsMoment word when → ⊥
written_alike word text z (pos n) e t d m =
    let same : text ≡ word = t ∙ ap signed_decimal e ∙ sym m.0 in
    let both : bytes_eq text word ≡ true = (bytes_eq-Decides text word).1 same in
    not_both (bytes_eq text word) both d
  where
    not_both : (b : Bool) → b ≡ true → not b ≡ true → ⊥
    not_both true e d = cc
    not_both false e d = cc
written_alike word text z (negsuc n) e t d m = m

pub in_years : (word : List ℕ) (z when : ℤ) → z ≡ when → SpellsMoment word when → civil.IsMoment z
in_years word z (pos n) e m = let most : n ≤ 253402300799 = m.1 in rw e (le_z_yes tt, le_z_yes (T_from_true _ (le-leb n 253402300799 most)))
in_years word z (negsuc n) e m = absurd m

pub nothing_there : {X : Type 0} (o : Option X) → IsNone o → IsSome o → ⊥
nothing_there None n s = not_so s
  where
    not_so : false ≡ true → ⊥
    not_so k = cc
nothing_there (Some x) n s = not_so n
  where
    not_so : true ≡ false → ⊥
    not_so k = cc

-- ---- numbers

is_number : {E : Type 0} (word : List ℕ) (most n : ℕ) (r : Result ℕ E) → most < 2 ^ 32 → IsNumber word most n → ParsesUnsigned 32 10 word r → r ≡ Ok n
is_number word most n r fits m p =
    let within : n ≤ most = m.1 in
    parse-decimal 32 n word r (omega (arith, within, fits)) (omega (arith, within, fits)) m.0 p

pub no_number : {E : Type 0} (word : List ℕ) (most n : ℕ) (e : E) → most < 2 ^ 32 → IsNumber word most n → ParsesUnsigned 32 10 word (Err e) → ⊥
no_number word most n e fits m p = let same : Err e ≡ Ok n = is_number word most n (Err e) fits m p in cc

one_number : {E : Type 0} (word : List ℕ) (most k n : ℕ) (r : Result ℕ E) → most < 2 ^ 32 → IsNumber word most n → r ≡ Ok k → ParsesUnsigned 32 10 word r → k ≡ n
one_number word most k n r fits m is p = let same : Ok k ≡ Ok n = sym is ∙ is_number word most n r fits m p in cc

pub number_alike : {E : Type 0} (word text : List ℕ) (most k n : ℕ) (r : Result ℕ E) → most < 2 ^ 32 → IsNumber word most n → r ≡ Ok k → ParsesUnsigned 32 10 word r → text ≡ decimal k → not (bytes_eq text word) ≡ true → ⊥
number_alike word text most k n r fits m is p t d =
    let same : text ≡ word = t ∙ ap decimal (one_number word most k n r fits m is p) ∙ sym m.0 in
    not_both (bytes_eq text word) ((bytes_eq-Decides text word).1 same) d
  where
    not_both : (b : Bool) → b ≡ true → not b ≡ true → ⊥
    not_both true e d = cc
    not_both false e d = cc

pub number_within : {E : Type 0} (word : List ℕ) (most k n : ℕ) (r : Result ℕ E) → most < 2 ^ 32 → IsNumber word most n → r ≡ Ok k → ParsesUnsigned 32 10 word r → most < k → ⊥
number_within word most k n r fits m is p over =
    let within : n ≤ most = m.1 in
    let same = one_number word most k n r fits m is p in
    omega (arith, within, over, same)

-- ---- keys

pub no_octets : (word text : List ℕ) (o : Option (List ℕ)) → o ≡ result_ok (decode_of text) → o ≡ None → text ≡ word → None ≡ key_of_word word
unfolding ◌>>=◌
no_octets word text o is none same = rw (← same, ← is, none) refl

pub key_there : (word text octets held : List ℕ) (key : KeyFields) → result_ok (decode_of text) ≡ Some octets → text ≡ word → held ≡ octets → IsWhole public_key Der held key → Some key ≡ key_of_word word
unfolding ◌>>=◌
key_there word text octets held key is same d w = rw (← same, is, ← d) (sym (whole_is public_key Der held key w))

pub key_missing : (word text octets held : List ℕ) (e : DecodeError) → e ≡ Malformed → result_ok (decode_of text) ≡ Some octets → text ≡ word → held ≡ octets → RefusesWhole public_key Der held e → None ≡ key_of_word word
unfolding ◌>>=◌
key_missing word text octets held e m is same d r = rw (← same, is, ← d) (sym (whole_none public_key Der held (rw m at r)))
