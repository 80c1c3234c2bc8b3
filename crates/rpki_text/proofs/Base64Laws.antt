-- Octets and their base64 text.
use Rattle.std.proofs.Common.{◌≡◌, ℕ, zero, suc, ◌+◌, ◌*◌, ◌/◌, ◌%◌, ◌≤◌, Bool, true, false, not, ◌&&◌, ◌||◌, eqb, List, [], ◌∷◌, length, Option, Some, None, Result, Ok, Err, replicate, filter, unwrap_or, option_and_then, refl, sym, ap, subst, ◌∙◌, arith, length-append}
use Rattle.std.specs.List.{list_all, list_any, slice_index}
use Rattle.std.specs.Result.{result_ok}
use Rattle.std.proofs.lemmas.Option.{none-some, same_Some}
use Rattle.std.proofs.lemmas.List.Folds.{list_all-append}
use Rattle.base64.specs.Engines.{standard}
use Rattle.base64.specs.GeneralPurpose.{encode_of, decode_of, decoded_of, engine_symbols, IsBytes}
use Rattle.base64.specs.declared.engine.general_purpose.GeneralPurpose.{GeneralPurpose}
use Rattle.base64.specs.Rfc4648.{encode_symbols, padding_len}
use Rattle.base64.specs.declared.decode.DecodeError.{DecodeError}
use Rattle.std.proofs.lemmas.List.{length-replicate}
use Rattle.base64.proofs.EngineFacts.{decode_of-encode_of}
use Rattle.base64.proofs.RoundTrip.{length-encode_symbols}
use Rattle.base64.proofs.Streams.{decoded_of-ok}
use Rattle.rpki_text.specs.Json.{string_of_json}
use Rattle.rpki_text.specs.Base64.{is_not_space, IsBase64Text, base64_content, base64_content_of_json, octets_of_json, held_content, IsHeld}
use Rattle.rpki_common.proofs.Truths.{both, are_true}

-- the text of octets is read as these octets
pub decoded_of-encode : (content : List ℕ) → IsBytes content → decoded_of standard (encode_of standard content) ≡ Some content
decoded_of-encode content fits = decoded_of-ok standard (encode_of standard content) content (decode_of-encode_of standard content refl fits)

-- what fails to decode has no octets
pub decoded_of-err : (text : List ℕ) (e : DecodeError) → decode_of standard text ≡ Err e → decoded_of standard text ≡ None
unfolding decoded_of
decoded_of-err text e is = ap result_ok is

-- the text of octets holds them
pub held_content-encode : (content text : List ℕ) → IsBytes content → text ≡ encode_of standard content → held_content text ≡ content
held_content-encode content text fits e = ap held_content e ∙ ap (λ (o : Option (List ℕ)). unwrap_or o []) (decoded_of-encode content fits)

-- the text of octets may be held
pub IsHeld-encode : (content text : List ℕ) → IsBytes content → text ≡ encode_of standard content → IsHeld text
IsHeld-encode content text fits e =
    let held = sym (held_content-encode content text fits e) in
    (e ∙ ap (λ (l : List ℕ). encode_of standard l) held, subst (λ (l : List ℕ). IsBytes l) held fits)

-- an octet is no white space where it is none of the four
each_space : (a b d e p q r s : Bool) → (not (a || b || d || e) && not (((p || q) || r) || s)) ≡ not ((((a || p) || (b || q)) || (d || r)) || (e || s))
each_space true b d e p q r s = refl
each_space false true d e true q r s = refl
each_space false false d e true q r s = go d e
  where
    go : (d e : Bool) → (not (false || false || d || e) && false) ≡ false
    go true e = refl
    go false true = refl
    go false false = refl
each_space false true d e false q r s = refl
each_space false false true e false true r s = refl
each_space false false false true false true r s = refl
each_space false false false false false true r s = refl
each_space false false true e false false r s = refl
each_space false false false true false false true s = refl
each_space false false false true false false false s = refl
each_space false false false false false false true s = refl
each_space false false false false false false false true = refl
each_space false false false false false false false false = refl

-- whether an octet occurs
abbrev pub has : ℕ → List ℕ → Bool
has octet text = list_any (λ c. eqb c octet) text

-- a text is without white space where it has none of the four
without_spaces : (text : List ℕ) → not (((has 9 text || has 10 text) || has 13 text) || has 32 text) ≡ list_all is_not_space text
without_spaces [] = refl
without_spaces (c ∷ text) =
    sym (ap (λ (b : Bool). is_not_space c && b) (sym (without_spaces text)) ∙ each_space (eqb c 9) (eqb c 10) (eqb c 13) (eqb c 32) (has 9 text) (has 10 text) (has 13 text) (has 32 text))

pub without_any : (text : List ℕ) (tab feed back space : Bool) → tab ≡ has 9 text → feed ≡ has 10 text → back ≡ has 13 text → space ≡ has 32 text
    → not (((tab || feed) || back) || space) ≡ list_all is_not_space text
without_any text tab feed back space a b d e = rw (a, b, d, e) (without_spaces text)

-- a text with no white space is kept as it is
pub filter_none : (xs : List ℕ) → list_all is_not_space xs ≡ true → filter is_not_space xs ≡ xs
filter_none [] h = refl
filter_none (x ∷ xs) h = let p = both (is_not_space x) (list_all is_not_space xs) h in rw (p.0, filter_none xs p.1)

symbol : (t : List ℕ) (k : ℕ) → list_all is_not_space t ≡ true → is_not_space (slice_index t k) ≡ true
symbol [] k h = refl
symbol (x ∷ t) zero h = (both (is_not_space x) (list_all is_not_space t) h).0
symbol (x ∷ t) (suc k) h = symbol t k (both (is_not_space x) (list_all is_not_space t) h).1

with_symbol : (t xs : List ℕ) (k : ℕ) → list_all is_not_space t ≡ true → list_all is_not_space xs ≡ true → list_all is_not_space (slice_index t k ∷ xs) ≡ true
with_symbol t xs k h q = are_true (is_not_space (slice_index t k)) (list_all is_not_space xs) (symbol t k h) q

symbols : (t m : List ℕ) → list_all is_not_space t ≡ true → list_all is_not_space (encode_symbols t m) ≡ true
unfolding encode_symbols
symbols t [] h = refl
symbols t (a ∷ []) h =
    let last = with_symbol t [] (a % 4 * 16) h refl in
    with_symbol t (slice_index t (a % 4 * 16) ∷ []) (a / 4) h last
symbols t (a ∷ b ∷ []) h =
    let last = with_symbol t [] (b % 16 * 4) h refl in
    let second = with_symbol t (slice_index t (b % 16 * 4) ∷ []) (a % 4 * 16 + b / 16) h last in
    with_symbol t (slice_index t (a % 4 * 16 + b / 16) ∷ slice_index t (b % 16 * 4) ∷ []) (a / 4) h second
symbols t (a ∷ b ∷ c ∷ rest) h =
    let more = encode_symbols t rest in
    let last = with_symbol t more (c % 64) h (symbols t rest h) in
    let third = with_symbol t (slice_index t (c % 64) ∷ more) (b % 16 * 4 + c / 64) h last in
    let second = with_symbol t (slice_index t (b % 16 * 4 + c / 64) ∷ slice_index t (c % 64) ∷ more) (a % 4 * 16 + b / 16) h third in
    with_symbol t (slice_index t (a % 4 * 16 + b / 16) ∷ slice_index t (b % 16 * 4 + c / 64) ∷ slice_index t (c % 64) ∷ more) (a / 4) h second

padding : (n : ℕ) → list_all is_not_space (replicate n 61) ≡ true
padding zero = refl
padding (suc n) = padding n

-- base64 text has no white space
pub encode_of-spaceless : (content : List ℕ) → list_all is_not_space (encode_of standard content) ≡ true
encode_of-spaceless content =
    list_all-append is_not_space (encode_symbols (engine_symbols standard) content) (replicate (padding_len (length content)) 61)
    ∙ are_true (list_all is_not_space (encode_symbols (engine_symbols standard) content)) (list_all is_not_space (replicate (padding_len (length content)) 61))
    (symbols (engine_symbols standard) content refl) (padding (padding_len (length content)))

-- the text of octets is read as these octets, white space or not
pub base64_content-encode : (content : List ℕ) → IsBytes content → base64_content (encode_of standard content) ≡ Some content
base64_content-encode content fits =
    ap (λ (l : List ℕ). decoded_of standard l) (filter_none (encode_of standard content) (encode_of-spaceless content)) ∙ decoded_of-encode content fits

told_by : (e : GeneralPurpose) (s c : List ℕ) (r : Result (List ℕ) DecodeError) → decode_of e s ≡ r → result_ok r ≡ Some c → decode_of e s ≡ Ok c
told_by e s c (Ok x) f g = f ∙ ap Ok (same_Some x c g)
told_by e s c (Err x) f g = absurd (none-some c g)

-- what an engine decodes to
pub decode_of-told : (e : GeneralPurpose) (s c : List ℕ) → decoded_of e s ≡ Some c → decode_of e s ≡ Ok c
unfolding decoded_of
decode_of-told e s c h = told_by e s c (decode_of e s) refl h

-- what was decoded under the standard engine is the text of what is held
pub is_spelled : (text spelled content value : List ℕ) → value ≡ content → spelled ≡ filter is_not_space text
    → IsBytes content → spelled ≡ encode_of standard content → IsBase64Text text value
is_spelled text spelled content value held e fits is =
    (subst (λ (l : List ℕ). IsBytes l) (sym held) fits, sym e ∙ is ∙ ap (λ (l : List ℕ). encode_of standard l) (sym held))

-- a base64 text spells its octets
pub base64_content-is : (text octets : List ℕ) → IsBase64Text text octets → base64_content text ≡ Some octets
base64_content-is text octets h = ap (λ (l : List ℕ). decoded_of standard l) h.1 ∙ decoded_of-encode octets h.0

-- a text that spells none is the text of none
pub no_base64 : (text : List ℕ) → base64_content text ≡ None → (octets : List ℕ) → IsBase64Text text octets → ⊥
no_base64 text e octets h = none-some octets (sym e ∙ base64_content-is text octets h)

-- the text that is held, and what it spells
pub held_is : (text value : List ℕ) → IsHeld text → held_content text ≡ value → text ≡ encode_of standard value
held_is text value held v = held.0 ∙ ap (λ (l : List ℕ). encode_of standard l) v

pub held_again : (text shown value : List ℕ) → IsHeld text → held_content text ≡ value → shown ≡ text → base64_content shown ≡ Some value
held_again text shown value held v e =
    ap (λ (l : List ℕ). base64_content l) (e ∙ held.0) ∙ base64_content-encode (held_content text) held.1 ∙ ap Some v

pub held_decodes : (text shown value : List ℕ) → IsHeld text → held_content text ≡ value → shown ≡ text → decode_of standard shown ≡ Ok value
held_decodes text shown value held v e =
    ap (λ (l : List ℕ). decode_of standard l) (e ∙ held.0) ∙ decode_of-encode_of standard (held_content text) refl held.1 ∙ ap Ok v

-- how long the text of octets is
pub length-encode : (content : List ℕ) → length (encode_of standard content) ≡ (4 * length content + 2) / 3 + padding_len (length content)
length-encode content =
    let whole = length-append (encode_symbols (engine_symbols standard) content) (replicate (padding_len (length content)) 61) in
    let front = length-encode_symbols (engine_symbols standard) content in
    let back = length-replicate {A = ℕ} (padding_len (length content)) 61 in
    omega (arith, whole, front, back)

-- three quarters of it are the octets, or up to two more
pub size_low : (n len : ℕ) → len ≡ (4 * n + 2) / 3 + padding_len n → n ≤ len / 4 * 3
size_low n len e = omega (arith, e)

pub size_high : (n len : ℕ) → len ≡ (4 * n + 2) / 3 + padding_len n → len / 4 * 3 ≤ n + 2
size_high n len e = omega (arith, e)

-- the string of a JSON text
pub base64_content_of_json-is : (text spelling : List ℕ) → string_of_json text ≡ Some spelling → base64_content_of_json text ≡ base64_content spelling
base64_content_of_json-is text spelling e = ap (λ (o : Option (List ℕ)). option_and_then base64_content o) e

-- the octets of a JSON text whose base64 has no white space
pub octets_of_json-is : (text spelling given : List ℕ) (o : Option (List ℕ)) → string_of_json text ≡ Some spelling → given ≡ spelling → decoded_of standard given ≡ o → octets_of_json text ≡ o
octets_of_json-is text spelling given o e p f = rw (e, ← p) f
