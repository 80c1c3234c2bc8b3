-- Key identifiers and their texts.
use Rattle.std.proofs.Common.{◌≡◌, ◌≢◌, ℕ, ◌-◌, ◌%◌, ◌<◌, ◌≤◌, Bool, true, false, ◌==◌, if◌then◌else◌, inl, inr, List, [], length, Option, Some, None, IfSome, IfNone, Result, Ok, replicate, refl, sym, ap, ◌∙◌, arith, length-append}
use Rattle.std.specs.Option.{option_or}
use Rattle.std.specs.Result.{result_ok, is_ok}
use Rattle.std.proofs.lemmas.Bool.{true≢false}
use Rattle.std.proofs.lemmas.Bool.Decides.{nat_tests, Decides-eqb}
use Rattle.std.proofs.lemmas.List.{length-replicate}
use Rattle.std.proofs.lemmas.Option.{none-some, same_Some}
use Rattle.base64.specs.Engines.{url_safe, url_safe_no_pad}
use Rattle.base64.specs.GeneralPurpose.{encode_of, decoded_of, decoded_bytes_of, decode_slice_of, engine_symbols, IsBytes, IsStrict}
use Rattle.base64.specs.Decode.{decode_outcome, decoded_estimate, or_error}
use Rattle.base64.specs.Rfc4648.{encode_symbols}
use Rattle.base64.specs.declared.decode.DecodeError.{DecodeError}
use Rattle.base64.specs.declared.decode.DecodeSliceError.{DecodeSliceError}
use Rattle.base64.specs.declared.engine.general_purpose.GeneralPurpose.{GeneralPurpose}
use Rattle.base64.proofs.Decoding.{slice_result_room, or_error_ok}
use Rattle.base64.proofs.EngineFacts.{decode_of-encode_of, decode_of_strict}
use Rattle.base64.proofs.RoundTrip.{length-encode_symbols}
use Rattle.base64.proofs.Streams.{decoded_of-ok}
use Rattle.rpki_text.specs.KeyIdentifier.{IsKeyIdentifierText, twenty, key_identifier_of_text}
use Rattle.rpki_text.proofs.Base64Laws.{decode_of-told}

-- ---- decoding into room for 21 octets

at_ok : (x : Option DecodeError) (bytes : List ℕ) (n : ℕ) → or_error x (Ok (length bytes)) ≡ Ok n → (result_ok (decode_outcome x bytes) ≡ Some bytes) × (length bytes ≡ n)
at_ok x bytes n e = let p = or_error_ok x (length bytes) n e in (ap (λ y. result_ok (decode_outcome y bytes)) p.0, p.1)

at_err : (x : Option DecodeError) (bytes : List ℕ) → is_ok (or_error x (Ok (length bytes))) ≡ false → result_ok (decode_outcome x bytes) ≡ None
at_err None bytes e = absurd (true≢false e)
at_err (Some x) bytes e = refl

room : (n : ℕ) → n ≤ 28 → decoded_estimate n ≤ 21
room n h = omega (arith, h)

-- what was decoded fits
pub sliced_ok : (e : GeneralPurpose) (s : List ℕ) (r : Result ℕ DecodeSliceError) (n : ℕ) → length s ≤ 28 → r ≡ decode_slice_of e s 21 → r ≡ Ok n
    → (decoded_of e s ≡ Some (decoded_bytes_of e s)) × (length (decoded_bytes_of e s) ≡ n)
unfolding decoded_of
sliced_ok e s r n short value ok =
    let whole = slice_result_room e.decode_table s e.padding.value e.config.decode_allow_trailing_bits e.config.decode_padding_mode 21 (room (length s) short) in
    at_ok _ (decoded_bytes_of e s) n (sym whole ∙ sym value ∙ ok)

-- nothing was decoded
pub sliced_err : (e : GeneralPurpose) (s : List ℕ) (r : Result ℕ DecodeSliceError) → length s ≤ 28 → r ≡ decode_slice_of e s 21 → is_ok r ≡ false → decoded_of e s ≡ None
unfolding decoded_of
sliced_err e s r short value err =
    let whole = slice_result_room e.decode_table s e.padding.value e.config.decode_allow_trailing_bits e.config.decode_padding_mode 21 (room (length s) short) in
    at_err _ (decoded_bytes_of e s) (ap is_ok (sym whole ∙ sym value) ∙ err)

-- ---- twenty octets

-- twenty octets are kept
pub twenty-some : (o : Option (List ℕ)) (octets : List ℕ) → o ≡ Some octets → length octets ≡ 20 → twenty o ≡ Some octets
twenty-some o octets e n = ap twenty e ∙ ap (λ k. if k == 20 then Some octets else None) n

-- nothing else is
pub twenty-none : (o : Option (List ℕ)) → o ≡ None → twenty o ≡ None
twenty-none o e = ap twenty e

pub twenty-other : (o : Option (List ℕ)) (octets : List ℕ) → o ≡ Some octets → length octets ≢ 20 → twenty o ≡ None
twenty-other o octets e n = let t : (length octets == 20) ≡ false = grind (arith, nat_tests) in ap twenty e ∙ ap (λ (b : Bool). if b then Some octets else None) t

kept : (t : Bool) (octets k : List ℕ) → (length octets == 20) ≡ t → (if t then Some octets else None) ≡ Some k → (octets ≡ k) × (length octets ≡ 20)
kept true octets k e h = (same_Some octets k h, (Decides-eqb (length octets) 20).0 e)
kept false octets k e h = absurd (none-some k h)

-- what was kept is twenty octets
pub twenty-told : (o : Option (List ℕ)) (k : List ℕ) → twenty o ≡ Some k → (o ≡ Some k) × (length k ≡ 20)
twenty-told None k h = absurd (none-some k h)
twenty-told (Some octets) k h = let p = kept (length octets == 20) octets k refl h in (ap Some p.0, rw (← p.0) p.1)

-- ---- texts

length-plain : (octets : List ℕ) → length octets ≡ 20 → length (encode_of url_safe_no_pad octets) ≡ 27
length-plain octets n =
    let front = length-encode_symbols (engine_symbols url_safe_no_pad) octets in
    let whole = length-append (encode_symbols (engine_symbols url_safe_no_pad) octets) [] in
    omega (arith, n, front, whole)

length-padded : (octets : List ℕ) → length octets ≡ 20 → length (encode_of url_safe octets) ≡ 28
length-padded octets n =
    let front = length-encode_symbols (engine_symbols url_safe) octets in
    let back = length-replicate {A = ℕ} ((3 - length octets % 3) % 3) 61 in
    let whole = length-append (encode_symbols (engine_symbols url_safe) octets) (replicate ((3 - length octets % 3) % 3) 61) in
    omega (arith, n, front, back, whole)

-- a text that was decoded is the text of its octets
spelled : (e : GeneralPurpose) (text k : List ℕ) → IsStrict e → IsBytes text → twenty (decoded_of e text) ≡ Some k → (text ≡ encode_of e k) × (length k ≡ 20)
spelled e text k strict fits h =
    let p = twenty-told (decoded_of e text) k h in
    (decode_of_strict e text k strict fits (decode_of-told e text k p.0), p.1)

pub plain-told : (text k : List ℕ) → IsBytes text → IsBytes k → twenty (decoded_of url_safe_no_pad text) ≡ Some k → IsKeyIdentifierText text k
plain-told text k bytes fits h = let p = spelled url_safe_no_pad text k (refl, refl) bytes h in (fits, p.1, inl p.0)

pub padded-told : (text k : List ℕ) → IsBytes text → IsBytes k → twenty (decoded_of url_safe text) ≡ Some k → IsKeyIdentifierText text k
padded-told text k bytes fits h = let p = spelled url_safe text k (refl, refl) bytes h in (fits, p.1, inr p.0)

pub padded-if : (text : List ℕ) (o : Option (List ℕ)) → IsBytes text → IfSome o (λ k. IsBytes k) → o ≡ twenty (decoded_of url_safe text) → IfSome o (λ k. IsKeyIdentifierText text k)
padded-if text None bytes fits h = tt
padded-if text (Some k) bytes fits h = padded-told text k bytes fits (sym h)

never : (o r : Option (List ℕ)) → o ≡ r → ((k : List ℕ) → o ≡ Some k → ⊥) → o ≡ None
never o None e h = e
never o (Some k) e h = absurd (h k e)

-- a text of other lengths spells none
no_plain : (text : List ℕ) → IsBytes text → length text ≢ 27 → twenty (decoded_of url_safe_no_pad text) ≡ None
no_plain text fits other = never (twenty (decoded_of url_safe_no_pad text)) _ refl (λ k h.
    let p = spelled url_safe_no_pad text k (refl, refl) fits h in
    other (ap (λ (l : List ℕ). length l) p.0 ∙ length-plain k p.1))

no_padded : (text : List ℕ) → IsBytes text → length text ≢ 28 → twenty (decoded_of url_safe text) ≡ None
no_padded text fits other = never (twenty (decoded_of url_safe text)) _ refl (λ k h.
    let p = spelled url_safe text k (refl, refl) fits h in
    other (ap (λ (l : List ℕ). length l) p.0 ∙ length-padded k p.1))

either : (a b : Option (List ℕ)) → a ≡ None → option_or a b ≡ b
either a b e = ap (λ o. option_or o b) e

pub too_long : (text : List ℕ) → IsBytes text → 28 < length text → key_identifier_of_text text ≡ None
too_long text fits long =
    either (twenty (decoded_of url_safe_no_pad text)) (twenty (decoded_of url_safe text)) (no_plain text fits (λ e. omega (arith, e, long)))
    ∙ no_padded text fits (λ e. omega (arith, e, long))

-- the first of two that is there
pub first : (a b : Option (List ℕ)) (k : List ℕ) → Some k ≡ a → Some k ≡ option_or a b
first a b k e = ap (λ o. option_or o b) e

pub second : (a b r : Option (List ℕ)) → None ≡ a → r ≡ b → r ≡ option_or a b
second a b r e f = f ∙ ap (λ o. option_or o b) e

-- the text of twenty octets is read as these octets
pub key_identifier-plain : (octets : List ℕ) → IsBytes octets → length octets ≡ 20 → key_identifier_of_text (encode_of url_safe_no_pad octets) ≡ Some octets
key_identifier-plain octets fits n =
    let text = encode_of url_safe_no_pad octets in
    let read = decoded_of-ok url_safe_no_pad text octets (decode_of-encode_of url_safe_no_pad octets refl fits) in
    sym (first (twenty (decoded_of url_safe_no_pad text)) (twenty (decoded_of url_safe text)) octets (sym (twenty-some (decoded_of url_safe_no_pad text) octets read n)))

pub key_identifier-padded : (octets : List ℕ) → IsBytes octets → IsBytes (encode_of url_safe octets) → length octets ≡ 20 → key_identifier_of_text (encode_of url_safe octets) ≡ Some octets
key_identifier-padded octets fits bytes n =
    let text = encode_of url_safe octets in
    let read = decoded_of-ok url_safe text octets (decode_of-encode_of url_safe octets refl fits) in
    let size = length-padded octets n in
    either (twenty (decoded_of url_safe_no_pad text)) (twenty (decoded_of url_safe text)) (no_plain text bytes (λ e. omega (arith, e, size)))
    ∙ twenty-some (decoded_of url_safe text) octets read n

-- a text spells the twenty octets whose text it is, with its padding or without
pub key_identifier-is : (text octets : List ℕ) → IsBytes text → IsKeyIdentifierText text octets → key_identifier_of_text text ≡ Some octets
key_identifier-is text octets bytes h = elim h.2 [
  | inl e ↦ ap (λ (l : List ℕ). key_identifier_of_text l) e ∙ key_identifier-plain octets h.0 h.1
  | inr e ↦ ap (λ (l : List ℕ). key_identifier_of_text l) e ∙ key_identifier-padded octets h.0 (rw (← e) bytes) h.1
]

-- a text that spells none is the text of none
pub none-told : (text : List ℕ) → IsBytes text → key_identifier_of_text text ≡ None → (octets : List ℕ) → IsKeyIdentifierText text octets → ⊥
none-told text bytes none octets h = none-some octets (sym none ∙ key_identifier-is text octets bytes h)

pub none-if : (text : List ℕ) (o : Option (List ℕ)) → IsBytes text → o ≡ key_identifier_of_text text
    → IfNone o ((octets : List ℕ) → IsKeyIdentifierText text octets → ⊥)
none-if text None bytes e = none-told text bytes (sym e)
none-if text (Some k) bytes e = tt
