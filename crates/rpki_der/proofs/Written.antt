-- What is written is read again as what was written.
use Rattle.std.proofs.Common.{◌≡◌, ◌≢◌, ℕ, ◌+◌, ◌/◌, ◌%◌, ◌<◌, ◌≤◌, Bool, true, false, List, [], ◌∷◌, ◌++◌, length, refl, sym, ap, subst, ◌∙◌, append_assoc, arith}
use Rattle.std.specs.Prelude.{nat_lt, if◌then◌else◌}
use Rattle.std.proofs.lemmas.Bool.{eqb-false, eq-eqb, ltb-true, ltb-false}
use Rattle.std.proofs.lemmas.List.{append-nil}
use Rattle.rpki_der.specs.declared.mode.Mode.{Mode}
use Rattle.rpki_der.specs.declared.mode.Mode.TheVariants.{Ber, Der}
use Rattle.rpki_der.specs.Identifier.{IsIdentifier, IsTag, is_constructed, without_bit_6, tag_of}
use Rattle.rpki_der.specs.Lengths.{number, IsLength}
use Rattle.rpki_der.specs.Value.{Value, Values, End, ◌▸◌, spelling, spellings, IsValue, AreValues, Begins}
use Rattle.rpki_der.specs.Item.{ItemFields, item}
use Rattle.rpki_der.specs.Writing.{octets_of_number, der_length, with_bit_6, primitive_value, der_primitive, constructed_value, der_constructed, Spells, followed}
use Rattle.rpki_der.proofs.Strict.{loose_length}

-- ---- length octets

two_octets : (n : ℕ) → n < 65536 → n ≡ number (octets_of_number 2 n)
two_octets n h = omega arith

three_octets : (n : ℕ) → n < 16777216 → n ≡ number (octets_of_number 3 n)
three_octets n h = omega arith

four_octets : (n : ℕ) → n < 4294967296 → n ≡ number (octets_of_number 4 n)
four_octets n h = omega arith

by_size : (b : Bool) (x y : List ℕ) (n : ℕ) → (b ≡ true → IsLength Der x n) → (b ≡ false → IsLength Der y n) → IsLength Der (if b then x else y) n
by_size true x y n f g = f refl
by_size false x y n f g = g refl

not_zero : (a : ℕ) → 0 < a → a ≢ 0
not_zero a h e = omega (arith, e)

one_is : (n : ℕ) → 128 ≤ n → n < 256 → IsLength Der (129 ∷ octets_of_number 1 n) n
one_is n l h = let e : n % 256 ≡ n = omega arith in (refl, omega arith, omega (arith, e), (not_zero (n % 256) (omega (arith, e)), omega (arith, e)))

two_is : (n : ℕ) → 256 ≤ n → n < 65536 → IsLength Der (130 ∷ octets_of_number 2 n) n
two_is n l h = let e = two_octets n h in (refl, omega arith, e, (not_zero (n / 256 % 256) (omega arith), omega (arith, e)))

three_is : (n : ℕ) → 65536 ≤ n → n < 16777216 → IsLength Der (131 ∷ octets_of_number 3 n) n
three_is n l h = let e = three_octets n h in (refl, omega arith, e, (not_zero (n / 256 / 256 % 256) (omega arith), omega (arith, e)))

four_is : (n : ℕ) → 16777216 ≤ n → n < 4294967296 → IsLength Der (132 ∷ octets_of_number 4 n) n
four_is n l h = let e = four_octets n h in (refl, omega arith, e, (not_zero (n / 256 / 256 / 256 % 256) (omega arith), omega (arith, e)))

pub length_is : (n : ℕ) → n < 4294967296 → IsLength Der (der_length n) n
length_is n h =
    by_size (nat_lt n 128) _ _ n (λ t. (ltb-true n 128 t, refl)) (λ a.
    by_size (nat_lt n 256) _ _ n (λ t. one_is n (ltb-false n 128 a) (ltb-true n 256 t)) (λ b.
    by_size (nat_lt n 65536) _ _ n (λ t. two_is n (ltb-false n 256 b) (ltb-true n 65536 t)) (λ d.
    by_size (nat_lt n 16777216) _ _ n (λ t. three_is n (ltb-false n 65536 d) (ltb-true n 16777216 t)) (λ e. four_is n (ltb-false n 16777216 e) h))))

pub length_in : (mode : Mode) (n : ℕ) → n < 4294967296 → IsLength mode (der_length n) n
length_in Der n h = length_is n h
length_in Ber n h = loose_length (der_length n) n (length_is n h)

-- ---- identifiers

even : (a : ℕ) → a / 32 % 2 ≢ 1 → a / 32 % 2 ≡ 0
even a n = omega (arith, n)

even_tag : (a : ℕ) (more : List ℕ) → is_constructed (a ∷ more) ≡ false → a / 32 % 2 ≡ 0
even_tag a more p = even a (eqb-false (a / 32 % 2) 1 p)

low_bits : (a : ℕ) → (a + 32) % 32 ≡ a % 32
low_bits a = omega arith

odd : (a : ℕ) → a / 32 % 2 ≡ 0 → (a + 32) / 32 % 2 ≡ 1
odd a e = omega (arith, e)

cleared : (a : ℕ) → a / 32 % 2 ≡ 0 → without_bit_6 (a + 32) ≡ a
cleared a e = omega (arith, odd a e)

kept : (a : ℕ) → a / 32 % 2 ≡ 0 → without_bit_6 a ≡ a
kept a e = omega (arith, e)

pub record Tagged (tag : List ℕ) : Type 0 where
  pub is_identifier : IsIdentifier (with_bit_6 tag)
  pub constructed' : is_constructed (with_bit_6 tag) ≡ true
  pub tag' : tag_of (with_bit_6 tag) ≡ tag
  pub own : tag_of tag ≡ tag

pub tagged : (tag : List ℕ) → IsTag tag → Tagged tag
tagged [] p = absurd p.0
tagged (a ∷ []) p =
    let e = even_tag a [] p.1 in
    record {
      is_identifier = (λ h. p.0.0 (sym (low_bits a) ∙ h), λ h. omega (arith, h), λ h. p.0.1 (omega (arith, h)));
      constructed' = eq-eqb ((a + 32) / 32 % 2) 1 (odd a e);
      tag' = ap (λ b. b ∷ []) (cleared a e);
      own = ap (λ b. b ∷ []) (kept a e);
    }
tagged (a ∷ b ∷ more) p =
    let e = even_tag a (b ∷ more) p.1 in
    record {
      is_identifier = (low_bits a ∙ p.0.0, p.0.1, p.0.2);
      constructed' = eq-eqb ((a + 32) / 32 % 2) 1 (odd a e);
      tag' = ap (λ x. x ∷ b ∷ more) (cleared a e);
      own = ap (λ x. x ∷ b ∷ more) (kept a e);
    }

-- ---- values

pub lawful_primitive : (mode : Mode) (tag content : List ℕ) → IsTag tag → length content < 4294967296 → IsValue mode (primitive_value tag content)
lawful_primitive mode tag content p h = (p.0, p.1, length_in mode (length content) h)

pub lawful_constructed : (mode : Mode) (tag : List ℕ) (vs : Values) → IsTag tag → length (spellings vs) < 4294967296 → AreValues mode vs → IsValue mode (constructed_value tag vs)
lawful_constructed mode tag vs p h a = let t = tagged tag p in (t.is_identifier, t.constructed', length_in mode (length (spellings vs)) h, a)

spelled_constructed : (tag content : List ℕ) (vs : Values) → content ≡ spellings vs → der_constructed tag content ≡ spelling (constructed_value tag vs)
spelled_constructed tag content vs e = rw (e, append-nil (spellings vs)) refl

pub begins_primitive : (mode : Mode) (tag content rest : List ℕ) → IsTag tag → length content < 4294967296 → Begins mode (der_primitive tag content ++ rest) (primitive_value tag content) rest
begins_primitive mode tag content rest p h = record { lawful = lawful_primitive mode tag content p h; parts = refl }

pub begins_constructed : (mode : Mode) (tag content rest : List ℕ) (vs : Values) → IsTag tag → length content < 4294967296 → Spells mode content vs → Begins mode (der_constructed tag content ++ rest) (constructed_value tag vs) rest
begins_constructed mode tag content rest vs p h s = record {
  lawful = lawful_constructed mode tag vs p (subst (λ o. length o < 4294967296) s.parts h) s.lawful;
  parts = ap (λ o. o ++ rest) (spelled_constructed tag content vs s.parts);
}

pub shows_primitive : (tag content : List ℕ) → IsTag tag → item (primitive_value tag content) ≡ record { tag = tag; constructed = false; content = content; slice = der_primitive tag content }
shows_primitive tag content p = ap (λ t. record { tag = t; constructed = false; content = content; slice = der_primitive tag content }) (tagged tag p).own

shown_as : (t s t' s' c : List ℕ) → t ≡ t' → s ≡ s' → ◌≡◌ {A = ItemFields} (record { tag = t; constructed = true; content = c; slice = s }) (record { tag = t'; constructed = true; content = c; slice = s' })
shown_as t s t' s' c e f = cc

pub shows_constructed : (tag : List ℕ) (vs : Values) → IsTag tag → item (constructed_value tag vs) ≡ record { tag = tag; constructed = true; content = spellings vs; slice = der_constructed tag (spellings vs) }
shows_constructed tag vs p = shown_as _ _ _ _ _ (tagged tag p).tag' (sym (spelled_constructed tag (spellings vs) vs refl))

-- ---- values in turn

pub spells_none : (mode : Mode) → Spells mode [] End
spells_none mode = record { lawful = tt; parts = refl }

followed_lawful : (mode : Mode) (vs ws : Values) → AreValues mode vs → AreValues mode ws → AreValues mode (followed vs ws)
followed_lawful mode End ws p q = q
followed_lawful mode (v ▸ vs) ws p q = (p.0, followed_lawful mode vs ws p.1 q)

followed_spelled : (vs ws : Values) → spellings vs ++ spellings ws ≡ spellings (followed vs ws)
followed_spelled End ws = refl
followed_spelled (v ▸ vs) ws = append_assoc (spelling v) (spellings vs) (spellings ws) ∙ ap (λ o. spelling v ++ o) (followed_spelled vs ws)

pub spells_followed : (mode : Mode) (a b : List ℕ) (vs ws : Values) → Spells mode a vs → Spells mode b ws → Spells mode (a ++ b) (followed vs ws)
spells_followed mode a b vs ws p q = record { lawful = followed_lawful mode vs ws p.lawful q.lawful; parts = rw (p.parts, q.parts) (followed_spelled vs ws) }

pub spells_one : (mode : Mode) (v : Value) → IsValue mode v → Spells mode (spelling v) (v ▸ End)
spells_one mode v p = record { lawful = (p, tt); parts = sym (append-nil (spelling v)) }

pub spells_primitive : (mode : Mode) (tag content : List ℕ) → IsTag tag → length content < 4294967296 → Spells mode (der_primitive tag content) (primitive_value tag content ▸ End)
spells_primitive mode tag content p h = spells_one mode (primitive_value tag content) (lawful_primitive mode tag content p h)

pub spells_constructed : (mode : Mode) (tag content : List ℕ) (vs : Values) → IsTag tag → length content < 4294967296 → Spells mode content vs → Spells mode (der_constructed tag content) (constructed_value tag vs ▸ End)
spells_constructed mode tag content vs p h s =
    let l = lawful_constructed mode tag vs p (subst (λ o. length o < 4294967296) s.parts h) s.lawful in
    subst (λ o. Spells mode o (constructed_value tag vs ▸ End)) (sym (spelled_constructed tag content vs s.parts)) (spells_one mode (constructed_value tag vs) l)

pub spells_begins : (mode : Mode) (octets : List ℕ) (v : Value) (vs : Values) (rest : List ℕ) → Spells mode octets (v ▸ vs) → Begins mode (octets ++ rest) v (spellings vs ++ rest)
spells_begins mode octets v vs rest s = record { lawful = s.lawful.0; parts = ap (λ o. o ++ rest) s.parts ∙ append_assoc (spelling v) (spellings vs) rest }
