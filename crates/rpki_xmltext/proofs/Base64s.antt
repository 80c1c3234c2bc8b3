-- Octets and the text that they are written as: which octets that text has, and that what a text spells are octets.
use Rattle.std.proofs.Common.{◌≡◌, ℕ, zero, suc, ◌+◌, ◌*◌, ◌/◌, ◌%◌, ◌<◌, Bool, true, false, ◌&&◌, not, List, [], ◌∷◌, length, reverse, replicate, refl, ap, ◌∙◌, arith}
use Rattle.std.specs.Prelude.{nat_eq}
use Rattle.std.specs.List.{list_all, slice_index, flat_map}
use Rattle.std.proofs.lemmas.List.{reverse-append, reverse-reverse}
use Rattle.std.proofs.lemmas.List.Folds.{list_all-append}
use Rattle.base64.specs.Engines.{standard}
use Rattle.base64.specs.GeneralPurpose.{encode_of, engine_symbols, IsBytes}
use Rattle.base64.specs.Rfc4648.{encode_symbols, padding_len}
use Rattle.rpki_common.proofs.Truths.{both, are_true}
use Rattle.rpki_xml.specs.Content.{is_white, without_white, trimmed}
use Rattle.rpki_xml.specs.Lettered.{AreOctets}
use Rattle.rpki_xml.specs.Lexing.{is_octet}
use Rattle.rpki_xml.specs.Spelling.{text_character, spelled_text}

-- ---- what holds of each symbol, of the padding and of 0 holds of each octet of the text

pub symbol : (test : ℕ → Bool) (t : List ℕ) (k : ℕ) → test 0 ≡ true → list_all test t ≡ true → test (slice_index t k) ≡ true
symbol test [] k z h = z
symbol test (x ∷ t) zero z h = (both (test x) (list_all test t) h).0
symbol test (x ∷ t) (suc k) z h = symbol test t k z (both (test x) (list_all test t) h).1

symbols : (test : ℕ → Bool) (t m : List ℕ) → test 0 ≡ true → list_all test t ≡ true → list_all test (encode_symbols t m) ≡ true
unfolding encode_symbols
symbols test t [] z h = refl
symbols test t (a ∷ []) z h = rw (symbol test t (a / 4) z h, symbol test t (a % 4 * 16) z h) refl
symbols test t (a ∷ b ∷ []) z h = rw (symbol test t (a / 4) z h, symbol test t (a % 4 * 16 + b / 16) z h, symbol test t (b % 16 * 4) z h) refl
symbols test t (a ∷ b ∷ c ∷ rest) z h =
    rw (symbol test t (a / 4) z h, symbol test t (a % 4 * 16 + b / 16) z h, symbol test t (b % 16 * 4 + c / 64) z h, symbol test t (c % 64) z h) (symbols test t rest z h)

padding : (test : ℕ → Bool) (n : ℕ) → test 61 ≡ true → list_all test (replicate n 61) ≡ true
padding test zero p = refl
padding test (suc n) p = rw p (padding test n p)

encoded : (test : ℕ → Bool) (content : List ℕ) → test 0 ≡ true → test 61 ≡ true → list_all test (engine_symbols standard) ≡ true → list_all test (encode_of standard content) ≡ true
encoded test content z p h =
    list_all-append test (encode_symbols (engine_symbols standard) content) (replicate (padding_len (length content)) 61)
    ∙ are_true _ _ (symbols test (engine_symbols standard) content z h) (padding test (padding_len (length content)) p)

-- ---- no octet of it is an entity in a text

abbrev stands : ℕ → Bool
stands c = not (nat_eq c 38) && (not (nat_eq c 60) && not (nat_eq c 62))

not_false : (b : Bool) → not b ≡ true → b ≡ false
not_false true h = absurd cc
not_false false h = refl

standing : (text : List ℕ) → list_all stands text ≡ true → flat_map text_character text ≡ text
standing [] h = refl
standing (c ∷ text) h =
    let p = both (stands c) (list_all stands text) h in
    let a = both (not (nat_eq c 38)) (not (nat_eq c 60) && not (nat_eq c 62)) p.0 in
    let b = both (not (nat_eq c 60)) (not (nat_eq c 62)) a.1 in
    rw (not_false (nat_eq c 38) a.0, not_false (nat_eq c 60) b.0, not_false (nat_eq c 62) b.1, standing text p.1) refl

pub spelled_text-encode : (content : List ℕ) → spelled_text (encode_of standard content) ≡ encode_of standard content
unfolding spelled_text
spelled_text-encode content = standing (encode_of standard content) (encoded stands content refl refl refl)

-- ---- it has no white space

abbrev pub is_black : ℕ → Bool
is_black c = not (is_white c)

begins_black : (text : List ℕ) → list_all is_black text ≡ true → without_white text ≡ text
begins_black [] h = refl
begins_black (c ∷ text) h = rw (not_false (is_white c) (both (is_black c) (list_all is_black text) h).0) refl

reversed : (test : ℕ → Bool) (text : List ℕ) → list_all test text ≡ true → list_all test (reverse text) ≡ true
reversed test [] h = refl
reversed test (c ∷ text) h =
    let p = both (test c) (list_all test text) h in
    ap (list_all test) (reverse-append (c ∷ []) text) ∙ list_all-append test (reverse text) (c ∷ []) ∙ are_true _ _ (reversed test text p.1) (are_true _ _ p.0 refl)

pub black_trimmed : (text : List ℕ) → list_all is_black text ≡ true → trimmed text ≡ text
unfolding trimmed
black_trimmed text h =
    ap (λ (t : List ℕ). reverse (without_white (reverse t))) (begins_black text h) ∙ ap reverse (begins_black (reverse text) (reversed is_black text h)) ∙ reverse-reverse text

pub encode-trimmed : (content : List ℕ) → trimmed (encode_of standard content) ≡ encode_of standard content
encode-trimmed content = black_trimmed (encode_of standard content) (encoded is_black content refl refl refl)

-- ---- of octets, it consists of octets that a document may have

pub member : (test : ℕ → Bool) (t : List ℕ) (k : ℕ) → list_all test t ≡ true → k < length t → test (slice_index t k) ≡ true
member test [] k h lt = absurd (omega arith)
member test (x ∷ t) zero h lt = (both (test x) (list_all test t) h).0
member test (x ∷ t) (suc k) h lt = member test t k (both (test x) (list_all test t) h).1 (omega arith)

index : (t : List ℕ) (k : ℕ) → AreOctets t → length t ≡ 64 → k < 64 → is_octet (slice_index t k) ≡ true
index t k o n lt = member is_octet t k o (omega arith)

rest_bytes : (x : ℕ) (m : List ℕ) → IsBytes (x ∷ m) → IsBytes m
rest_bytes x m h i = h (suc i)

-- symbols of any alphabet of octets that a document may have are such octets
pub symbols-octets : (t m : List ℕ) → AreOctets t → length t ≡ 64 → IsBytes m → AreOctets (encode_symbols t m)
unfolding encode_symbols
symbols-octets t [] o n h = refl
symbols-octets t (a ∷ []) o n h =
    let p : a < 256 = h 0 in
    rw (index t (a / 4) o n (omega arith), index t (a % 4 * 16) o n (omega arith)) refl
symbols-octets t (a ∷ b ∷ []) o n h =
    let p : a < 256 = h 0 in
    let q : b < 256 = h 1 in
    rw (index t (a / 4) o n (omega arith), index t (a % 4 * 16 + b / 16) o n (omega arith), index t (b % 16 * 4) o n (omega arith)) refl
symbols-octets t (a ∷ b ∷ c ∷ rest) o n h =
    let p : a < 256 = h 0 in
    let q : b < 256 = h 1 in
    let r : c < 256 = h 2 in
    rw (index t (a / 4) o n (omega arith), index t (a % 4 * 16 + b / 16) o n (omega arith), index t (b % 16 * 4 + c / 64) o n (omega arith), index t (c % 64) o n (omega arith))
    (symbols-octets t rest o n (rest_bytes c rest (rest_bytes b (c ∷ rest) (rest_bytes a (b ∷ c ∷ rest) h))))

pub encode-octets : (content : List ℕ) → IsBytes content → AreOctets (encode_of standard content)
encode-octets content h =
    list_all-append is_octet (encode_symbols (engine_symbols standard) content) (replicate (padding_len (length content)) 61)
    ∙ are_true _ _ (symbols-octets (engine_symbols standard) content refl refl h) (padding is_octet (padding_len (length content)) refl)
