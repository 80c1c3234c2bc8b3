-- The header that the code finds is the one that stands there.
use Rattle.std.proofs.Common.{◌≡◌, ◌≢◌, ℕ, zero, suc, ◌+◌, ◌-◌, ◌%◌, ◌<◌, ◌≤◌, ◌⊎◌, Bool, true, false, cond, eqb, ltb, ◌||◌, Option, None, Some, List, [], ◌∷◌, ◌++◌, length, take, drop, refl, sym, ap, subst, ◌∙◌, arith, inl, inr, length-append}
use Rattle.std.specs.Prelude.{IfNone}
use Rattle.std.specs.Option.{option_map}
use Rattle.std.proofs.lemmas.List.{take_at, take-append-drop, length-take}
use Rattle.std.proofs.lemmas.Bool.{eqb-true, eqb-false, eq-eqb, ne_eqb, ltb-true, ltb-false, lt-ltb, le-ltb, or_parts, or_from}
use Rattle.std.proofs.lemmas.Option.{some_pair_parts}
use Rattle.rpki_der.specs.declared.header.Length.{Length}
use Rattle.rpki_der.specs.declared.header.Length.TheVariants as length_is
use Rattle.rpki_der.specs.declared.mode.Mode.{Mode}
use Rattle.rpki_der.specs.declared.mode.Mode.TheVariants.{Ber, Der}
use Rattle.rpki_der.specs.Identifier.{IsFurther, IsIdentifier}
use Rattle.rpki_der.specs.HeaderAt.{further_size, identifier_size}
use Rattle.rpki_der.specs.Lengths.{number, IsShortest, IsLength}
use Rattle.rpki_der.specs.HeaderAt.{is_overlong, long_length, indefinite_length, length_at}
use Rattle.rpki_der.specs.Header.{SaysLength, IdentifierFirst, NoIdentifier, HeaderFirst, NoHeader}
use Rattle.rpki_der.proofs.Uniqueness.{same_identifier}

pub chosen : {A : Type 0} (b : Bool) (x y z : A) → cond b x y ≡ z → ((b ≡ true) × (x ≡ z)) ⊎ ((b ≡ false) × (y ≡ z))
chosen true x y z e = inl (refl, e)
chosen false x y z e = inr (refl, e)

mapped : (o : Option ℕ) (k : ℕ) → option_map suc o ≡ Some k → (m : ℕ) × (o ≡ Some m) × (k ≡ suc m)
mapped None k e = absurd cc
mapped (Some m) k e = (m, refl, cc)

further_more : (a : ℕ) (w : List ℕ) → 128 ≤ a → IsFurther w → IsFurther (a ∷ w)
further_more a [] h p = absurd p
further_more a (b ∷ w) h p = (h, p)

further_found : (j : ℕ) (octets : List ℕ) (k : ℕ) → further_size j octets ≡ Some k → IsFurther (take k octets) × (length (take k octets) ≤ j)
further_found zero octets k e = absurd cc
further_found (suc j) [] k e = absurd cc
further_found (suc j) (a ∷ more) k e =
    elim (chosen (ltb a 128) (Some 1) (option_map suc (further_size j more)) (Some k) e) [
      | inl h ↦ let k-is : 1 ≡ k = cc in subst (λ n. IsFurther (take n (a ∷ more)) × (length (take n (a ∷ more)) ≤ suc j)) k-is (ltb-true a 128 h.0, omega arith)
      | inr h ↦
          let m = mapped (further_size j more) k h.1 in
          let r = further_found j more m.0 m.1 in
          subst (λ n. IsFurther (take n (a ∷ more)) × (length (take n (a ∷ more)) ≤ suc j)) (sym m.2) (further_more a (take m.0 more) (ltb-false a 128 h.0) r.0, omega (arith, r.1))
    ]

further_spelled : (j : ℕ) (w rest : List ℕ) → IsFurther w → length w ≤ j → further_size j (w ++ rest) ≡ Some (length w)
further_spelled j [] rest p h = absurd p
further_spelled zero (a ∷ w) rest p h = absurd (omega arith)
further_spelled (suc j) (a ∷ []) rest p h = rw (lt-ltb a 128 p) refl
further_spelled (suc j) (a ∷ b ∷ w) rest p h = rw (le-ltb a 128 p.0, further_spelled j (b ∷ w) rest p.1 (omega arith)) refl

long_identifier : (a : ℕ) (w : List ℕ) → a % 32 ≡ 31 → length w ≤ 3 → IsFurther w → IsIdentifier (a ∷ w)
long_identifier a [] e h p = absurd p
long_identifier a (b ∷ w) e h p = (e, omega arith, p)

pub identifier_found : (octets : List ℕ) (k : ℕ) → identifier_size octets ≡ Some k → IsIdentifier (take k octets)
identifier_found [] k e = absurd cc
identifier_found (a ∷ more) k e =
    elim (chosen (eqb (a % 32) 31) (option_map suc (further_size 3 more)) (cond (eqb a 0 || eqb a 32) None (Some 1)) (Some k) e) [
      | inl h ↦
          let m = mapped (further_size 3 more) k h.1 in
          let r = further_found 3 more m.0 m.1 in
          subst (λ n. IsIdentifier (take n (a ∷ more))) (sym m.2) (long_identifier a (take m.0 more) (eqb-true (a % 32) 31 h.0) r.1 r.0)
      | inr h ↦
          elim (chosen (eqb a 0 || eqb a 32) None (Some 1) (Some k) h.1) [
            | inl g ↦ let no = g.1 in absurd cc
            | inr g ↦
                let k-is : 1 ≡ k = cc in
                let both = or_parts (eqb a 0) (eqb a 32) g.0 in
                subst (λ n. IsIdentifier (take n (a ∷ more))) k-is (eqb-false (a % 32) 31 h.0, eqb-false a 0 both.0, eqb-false a 32 both.1)
          ]
    ]

pub identifier_spelled : (i rest : List ℕ) → IsIdentifier i → identifier_size (i ++ rest) ≡ Some (length i)
identifier_spelled [] rest p = absurd p
identifier_spelled (a ∷ []) rest p = rw (ne_eqb (a % 32) 31 p.0, ne_eqb a 0 p.1, ne_eqb a 32 p.2) refl
identifier_spelled (a ∷ b ∷ w) rest p = rw (eq-eqb (a % 32) 31 p.0, further_spelled 3 (b ∷ w) rest p.2 (omega (arith, p.1))) refl

shortest : (mode : Mode) (w : List ℕ) → is_overlong mode w ≡ false → IsShortest mode w
shortest Ber w e = tt
shortest Der [] e = absurd cc
shortest Der (a ∷ w) e = let both = or_parts (eqb a 0) (ltb (number (a ∷ w)) 128) e in (eqb-false a 0 both.0, ltb-false _ _ both.1)

not_overlong : (mode : Mode) (w : List ℕ) → IsShortest mode w → is_overlong mode w ≡ false
not_overlong Ber w p = refl
not_overlong Der [] p = absurd p
not_overlong Der (a ∷ w) p = or_from (eqb a 0) (ltb (number (a ∷ w)) 128) (ne_eqb a 0 p.0) (le-ltb _ _ p.1)

long_is : (mode : Mode) (a : ℕ) (w : List ℕ) → a ≡ 128 + length w → 0 < length w → length w ≤ 4 → is_overlong mode w ≡ false → IsLength mode (a ∷ w) (number w)
long_is mode a [] e z h o = absurd (omega arith)
long_is mode a (b ∷ w) e z h o = (omega arith, omega arith, refl, shortest mode (b ∷ w) o)

same_pair : (x y : Length) (k m : ℕ) → ◌≡◌ {A = Option (Length × ℕ)} (Some (x, k)) (Some (y, m)) → (x ≡ y) × (k ≡ m)
same_pair x y k m e = some_pair_parts x y k m e

long_found : (mode : Mode) (a : ℕ) (more : List ℕ) (length' : Length) (k : ℕ) → 128 < a → a ≤ 132 → long_length mode (a - 128) more ≡ Some (length', k) → SaysLength mode (take k (a ∷ more)) length'
long_found mode a more length' k low high e =
    elim (chosen (ltb (length more) (a - 128)) None (cond (is_overlong mode (take (a - 128) more)) None (Some (length_is.Definite (number (take (a - 128) more)), a - 128 + 1))) (Some (length', k)) e) [
      | inl h ↦ let no = h.1 in absurd cc
      | inr h ↦
          elim (chosen (is_overlong mode (take (a - 128) more)) None (Some (length_is.Definite (number (take (a - 128) more)), a - 128 + 1)) (Some (length', k)) h.1) [
            | inl g ↦ let no = g.1 in absurd cc
            | inr g ↦
                let s = same_pair (length_is.Definite (number (take (a - 128) more))) length' (a - 128 + 1) k g.1 in
                let enough : a - 128 ≤ length more = ltb-false _ _ h.0 in
                let len : length (take (a - 128) more) ≡ a - 128 = omega (arith, length-take (a - 128) more) in
                let k-is : suc (a - 128) ≡ k = omega (arith, s.1) in
                subst (λ n. SaysLength mode (take n (a ∷ more)) length') k-is (subst (SaysLength mode (a ∷ take (a - 128) more)) s.0 (long_is mode a (take (a - 128) more) (omega arith) (omega arith) (omega arith) g.0))
          ]
    ]

indefinite_found : (mode : Mode) (more : List ℕ) (length' : Length) (k : ℕ) → indefinite_length mode ≡ Some (length', k) → SaysLength mode (take k (128 ∷ more)) length'
indefinite_found Ber more length' k e =
    let s = same_pair length_is.Indefinite length' 1 k e in
    subst (λ n. SaysLength Ber (take n (128 ∷ more)) length') s.1 (subst (SaysLength Ber (128 ∷ [])) s.0 (refl, refl))
indefinite_found Der more length' k e = absurd cc

pub length_found : (mode : Mode) (octets : List ℕ) (length' : Length) (k : ℕ) → length_at mode octets ≡ Some (length', k) → SaysLength mode (take k octets) length'
length_found mode [] length' k e = absurd cc
length_found mode (a ∷ more) length' k e =
    elim (chosen (ltb a 128) (Some (length_is.Definite a, 1)) (cond (eqb a 128) (indefinite_length mode) (cond (ltb 132 a) None (long_length mode (a - 128) more))) (Some (length', k)) e) [
      | inl h ↦
          let s = same_pair (length_is.Definite a) length' 1 k h.1 in
          subst (λ n. SaysLength mode (take n (a ∷ more)) length') s.1 (subst (SaysLength mode (a ∷ [])) s.0 (ltb-true a 128 h.0, refl))
      | inr h ↦
          elim (chosen (eqb a 128) (indefinite_length mode) (cond (ltb 132 a) None (long_length mode (a - 128) more)) (Some (length', k)) h.1) [
            | inl g ↦ subst (λ n. SaysLength mode (take k (n ∷ more)) length') (sym (eqb-true a 128 g.0)) (indefinite_found mode more length' k g.1)
            | inr g ↦
                elim (chosen (ltb 132 a) None (long_length mode (a - 128) more) (Some (length', k)) g.1) [
                  | inl f ↦ let no = f.1 in absurd cc
                  | inr f ↦
                      let low : 128 ≤ a = ltb-false a 128 h.0 in
                      let other : a ≢ 128 = eqb-false a 128 g.0 in
                      long_found mode a more length' k (omega arith) (ltb-false 132 a f.0) f.1
                ]
          ]
    ]

definite_spelled : (mode : Mode) (l rest : List ℕ) (n : ℕ) → IsLength mode l n → length_at mode (l ++ rest) ≡ Some (length_is.Definite n, length l)
definite_spelled mode [] rest n p = absurd p
definite_spelled mode (a ∷ []) rest n p = rw (lt-ltb a 128 p.0, p.1) refl
definite_spelled mode (a ∷ b ∷ w) rest n p =
    let is = p.0 in
    let le = p.1 in
    let count : a - 128 ≡ suc (length w) = omega arith in
    let whole : take (suc (length w)) ((b ∷ w) ++ rest) ≡ b ∷ w = take_at (b ∷ w) rest (suc (length w)) refl in
    let enough : ltb (length ((b ∷ w) ++ rest)) (suc (length w)) ≡ false = le-ltb _ _ (omega (arith, length-append (b ∷ w) rest)) in
    let size : suc (length w) + 1 ≡ suc (suc (length w)) = omega arith in
    rw (le-ltb a 128 (omega arith), ne_eqb a 128 (λ (e : a ≡ 128). omega arith), le-ltb 132 a (omega arith), count, enough, whole, not_overlong mode (b ∷ w) p.3, size, p.2) refl

pub length_spelled : (mode : Mode) (l rest : List ℕ) (length' : Length) → SaysLength mode l length' → length_at mode (l ++ rest) ≡ Some (length', length l)
length_spelled mode l rest (length_is.Definite n) p = definite_spelled mode l rest n p
length_spelled mode l rest length_is.Indefinite p = rw (p.0, p.1) refl

pub first_found : (octets identifier rest : List ℕ) (size : ℕ) → Some size ≡ identifier_size octets → identifier ≡ take size octets → rest ≡ drop size octets → IdentifierFirst octets identifier rest
first_found octets identifier rest size e i r = record { is_identifier = rw i (identifier_found octets size (sym e)); parts = rw (i, r, take-append-drop size octets) refl }

pub no_identifier : (octets : List ℕ) → None ≡ identifier_size octets → NoIdentifier octets
no_identifier octets e i rest h =
    let t = e ∙ ap identifier_size h.parts ∙ identifier_spelled i rest h.is_identifier in absurd cc

pub header_found : (mode : Mode) (identifier behind rest : List ℕ) (count : ℕ) (length' : Length) → IsIdentifier identifier → Some (length', count) ≡ length_at mode behind → rest ≡ drop count behind → HeaderFirst mode (identifier ++ behind) identifier length' rest
header_found mode identifier behind rest count length' i l r = record {
  lengths = take count behind;
  is_identifier = i;
  says = length_found mode behind length' count (sym l);
  parts = rw (r, take-append-drop count behind) refl;
}

pub no_length : (mode : Mode) (identifier behind : List ℕ) → IsIdentifier identifier → None ≡ length_at mode behind → NoHeader mode (identifier ++ behind)
no_length mode identifier behind p l i length' rest h =
    let s = same_identifier identifier i behind (h.lengths ++ rest) p h.is_identifier h.parts in
    let u = l ∙ ap (length_at mode) s.rest ∙ length_spelled mode h.lengths rest length' h.says in absurd cc

pub if_none : {X : Type 0} (r : Option X) (P : Type 0) → P → IfNone r P
if_none None P p = p
if_none (Some x) P p = tt
