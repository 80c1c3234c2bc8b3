-- The characters of a value or a text, and what they are spelled as.
use Rattle.std.proofs.Common.{◌≡◌, ◌≢◌, ℕ, ◌+◌, ◌/◌, ◌%◌, ◌<◌, ◌≤◌, Bool, true, false, cond, List, [], ◌∷◌, ◌++◌, refl, sym, ap, ◌∙◌, arith}
use Rattle.std.specs.Prelude.{◌||◌, not, nat_eq, nat_le, nat_lt}
use Rattle.std.specs.List.{list_all, flat_map}
use Rattle.std.proofs.Math.Utf8.{encode}
use Rattle.std.proofs.lemmas.Str.{encode_ascii}
use Rattle.std.proofs.lemmas.Bool.Decides.{nat_tests}
use Rattle.std.proofs.lemmas.Grind.{flat_map-append}
use Rattle.rpki_common.proofs.Truths.{both}
use Rattle.rpki_text.proofs.Base64Laws.{has}
use Rattle.rpki_xml.specs.Spelling.{text_character, spelled_text, value_character, spelled_value}

-- a value or a text in two parts
pub spelled_value-append : (a b : List ℕ) → spelled_value (a ++ b) ≡ spelled_value a ++ spelled_value b
unfolding spelled_value
spelled_value-append a b = flat_map-append value_character a b

pub spelled_text-append : (a b : List ℕ) → spelled_text (a ++ b) ≡ spelled_text a ++ spelled_text b
unfolding spelled_text
spelled_text-append a b = flat_map-append text_character a b

-- ---- octets from 128 on stand for themselves

abbrev is_high : ℕ → Bool
is_high b = nat_le 128 b

-- an octet that stands for itself
abbrev Stands : (ℕ → List ℕ) → ℕ → Type 0
Stands spell b = spell b ≡ b ∷ []

value_stands : (b : ℕ) → 128 ≤ b → Stands value_character b
value_stands b low =
    let a : nat_eq b 34 ≡ false = grind (arith, nat_tests) in
    let c : nat_eq b 39 ≡ false = grind (arith, nat_tests) in
    let d : nat_eq b 38 ≡ false = grind (arith, nat_tests) in
    let e : nat_eq b 60 ≡ false = grind (arith, nat_tests) in
    let f : nat_eq b 62 ≡ false = grind (arith, nat_tests) in
    rw (a, c, d, e, f) refl

text_stands : (b : ℕ) → 128 ≤ b → Stands text_character b
text_stands b low =
    let d : nat_eq b 38 ≡ false = grind (arith, nat_tests) in
    let e : nat_eq b 60 ≡ false = grind (arith, nat_tests) in
    let f : nat_eq b 62 ≡ false = grind (arith, nat_tests) in
    rw (d, e, f) refl

low_of : (b : ℕ) → is_high b ≡ true → 128 ≤ b
low_of b h = grind (arith, nat_tests)

high_text : (spell : ℕ → List ℕ) → ((b : ℕ) → 128 ≤ b → Stands spell b) → (bs : List ℕ) → list_all is_high bs ≡ true → flat_map spell bs ≡ bs
high_text spell stands [] h = refl
high_text spell stands (b ∷ bs) h = let p = both (is_high b) (list_all is_high bs) h in rw (stands b (low_of b p.0), high_text spell stands bs p.1) refl

is_high-add : (n m : ℕ) → 128 ≤ n → is_high (n + m) ≡ true
is_high-add n m h = grind (arith, nat_tests)

-- a character past ASCII has such octets alone
encode_high : (c : ℕ) → 128 ≤ c → list_all is_high (encode c) ≡ true
unfolding encode
encode_high c h =
    let past : nat_lt c 128 ≡ false = grind (arith, nat_tests) in
    rw past (by_two (nat_lt c 2048) (nat_lt c 65536))
  where
    two : list_all is_high ((192 + c / 64) ∷ (128 + c % 64) ∷ []) ≡ true
    two = rw (is_high-add 192 (c / 64) (omega arith), is_high-add 128 (c % 64) (omega arith)) refl

    three : list_all is_high ((224 + c / 4096) ∷ (128 + c / 64 % 64) ∷ (128 + c % 64) ∷ []) ≡ true
    three = rw (is_high-add 224 (c / 4096) (omega arith), is_high-add 128 (c / 64 % 64) (omega arith), is_high-add 128 (c % 64) (omega arith)) refl

    four : list_all is_high ((240 + c / 262144) ∷ (128 + c / 4096 % 64) ∷ (128 + c / 64 % 64) ∷ (128 + c % 64) ∷ []) ≡ true
    four = rw (is_high-add 240 (c / 262144) (omega arith), is_high-add 128 (c / 4096 % 64) (omega arith), is_high-add 128 (c / 64 % 64) (omega arith), is_high-add 128 (c % 64) (omega arith)) refl

    by_two : (x y : Bool)
        → list_all is_high (cond x ((192 + c / 64) ∷ (128 + c % 64) ∷ []) (cond y ((224 + c / 4096) ∷ (128 + c / 64 % 64) ∷ (128 + c % 64) ∷ []) ((240 + c / 262144) ∷ (128 + c / 4096 % 64) ∷ (128 + c / 64 % 64) ∷ (128 + c % 64) ∷ []))) ≡ true
    by_two true y = two
    by_two false true = three
    by_two false false = four

-- ---- a character that is no entity

unequal : (c n : ℕ) → c ≢ n → nat_eq c n ≡ false
unequal c n h = grind (arith, nat_tests)

-- one that stands for itself where it is ASCII
alone : (spell : ℕ → List ℕ) → ((b : ℕ) → 128 ≤ b → Stands spell b) → (c : ℕ) → (c < 128 → flat_map spell (c ∷ []) ≡ c ∷ []) → encode c ≡ flat_map spell (encode c)
alone spell stands c low = go (nat_lt c 128) refl
  where
    go : (x : Bool) → nat_lt c 128 ≡ x → encode c ≡ flat_map spell (encode c)
    go true t =
        let below : c < 128 = grind (arith, nat_tests) in
        let is = encode_ascii c below in
        is ∙ sym (low below) ∙ sym (ap (flat_map spell) is)
    go false t =
        let high : 128 ≤ c = grind (arith, nat_tests) in
        sym (high_text spell stands (encode c) (encode_high c high))

value_low : (c : ℕ) → nat_eq c 34 ≡ false → nat_eq c 39 ≡ false → nat_eq c 38 ≡ false → nat_eq c 60 ≡ false → nat_eq c 62 ≡ false → flat_map value_character (c ∷ []) ≡ c ∷ []
value_low c a d e f g = rw (a, d, e, f, g) refl

pub other_in_value : (c : ℕ) → c ≢ 34 → c ≢ 39 → c ≢ 38 → c ≢ 60 → c ≢ 62 → encode c ≡ spelled_value (encode c)
unfolding spelled_value
other_in_value c a b d e f = alone value_character value_stands c (λ low. value_low c (unequal c 34 a) (unequal c 39 b) (unequal c 38 d) (unequal c 60 e) (unequal c 62 f))

text_low : (c : ℕ) → nat_eq c 38 ≡ false → nat_eq c 60 ≡ false → nat_eq c 62 ≡ false → flat_map text_character (c ∷ []) ≡ c ∷ []
text_low c d e f = rw (d, e, f) refl

pub other_in_text : (c : ℕ) → c ≢ 38 → c ≢ 60 → c ≢ 62 → encode c ≡ spelled_text (encode c)
unfolding spelled_text
other_in_text c d e f = alone text_character text_stands c (λ low. text_low c (unequal c 38 d) (unequal c 60 e) (unequal c 62 f))

-- ---- a value without characters that become entities is spelled as it is

neither : (a b : Bool) → (a || b) ≡ false → (a ≡ false) × (b ≡ false)
neither true b h = absurd cc
neither false b h = (refl, h)

bare_value : (value : List ℕ) → has 34 value ≡ false → has 39 value ≡ false → has 38 value ≡ false → has 60 value ≡ false → has 62 value ≡ false → spelled_value value ≡ value
unfolding spelled_value
bare_value [] a b d e f = refl
bare_value (c ∷ value) a b d e f =
    let p = neither (nat_eq c 34) (has 34 value) a in
    let q = neither (nat_eq c 39) (has 39 value) b in
    let r = neither (nat_eq c 38) (has 38 value) d in
    let s = neither (nat_eq c 60) (has 60 value) e in
    let t = neither (nat_eq c 62) (has 62 value) f in
    rw (p.0, q.0, r.0, s.0, t.0) (ap (λ (l : List ℕ). c ∷ l) (bare_value value p.1 q.1 r.1 s.1 t.1))

none_of : (a b d e f : Bool) → not ((((a || b) || d) || e) || f) ≡ true → (a ≡ false) × (b ≡ false) × (d ≡ false) × (e ≡ false) × (f ≡ false)
none_of true b d e f h = absurd cc
none_of false true d e f h = absurd cc
none_of false false true e f h = absurd cc
none_of false false false true f h = absurd cc
none_of false false false false true h = absurd cc
none_of false false false false false h = (refl, refl, refl, refl, refl)

pub bare_spelled : (value : List ℕ) (quote apostrophe ampersand less greater : Bool) → quote ≡ has 34 value → apostrophe ≡ has 39 value → ampersand ≡ has 38 value → less ≡ has 60 value → greater ≡ has 62 value
    → not ((((quote || apostrophe) || ampersand) || less) || greater) ≡ true → spelled_value value ≡ value
bare_spelled value quote apostrophe ampersand less greater a b d e f h =
    let n = none_of quote apostrophe ampersand less greater h in
    bare_value value (sym a ∙ n.0) (sym b ∙ n.1) (sym d ∙ n.2) (sym e ∙ n.3) (sym f ∙ n.4)
