-- Facts on what is written and on whole values, which the laws of traits need; no clause cites
-- them.
use Rattle.std.specs.Prelude.{nat_lt, if◌then◌else◌}
use Rattle.std.proofs.Common.{◌≡◌, ℕ, ◌≤◌, Bool, true, false, Option, None, Some, List, [], ◌++◌, length, refl, subst, arith}
use Rattle.std.proofs.lemmas.List.{append-nil}
use Rattle.rpki_common.specs.Chaining.{◌>>=◌}
use Rattle.rpki_der.specs.declared.mode.Mode.{Mode}
use Rattle.rpki_der.specs.Identifier.{IsTag}
use Rattle.rpki_der.specs.Tags.{sequence, null_tag, oid_tag, bit_string_tag}
use Rattle.rpki_der.specs.Value.{Value, Begins}
use Rattle.rpki_der.specs.Grammar.{so}
use Rattle.rpki_der.specs.Whole.{alone, whole_of}
use Rattle.rpki_der.specs.Writing.{der_length}
use Rattle.rpki_der.proofs.Flats.{alone_begins}

-- ---- how long length octets are at most

-- where each of two lists has at most five octets, so has the one that a condition picks
either_short : (b : Bool) (x y : List ℕ) → length x ≤ 5 → length y ≤ 5
    → length (if b then x else y) ≤ 5
either_short true x y p q = p
either_short false x y p q = q

-- the length octets in DER are at most five
pub length-der_length : (n : ℕ) → length (der_length n) ≤ 5
length-der_length n =
    either_short (nat_lt n 128) _ _ (omega arith)
    (either_short (nat_lt n 256) _ _ (omega arith)
    (either_short (nat_lt n 65536) _ _ (omega arith)
    (either_short (nat_lt n 16777216) _ _ (omega arith) (omega arith))))

-- ---- tags

-- the octet of SEQUENCE is a tag: an identifier with bit 6 clear
pub is_sequence : IsTag sequence
is_sequence = ((λ e. omega (arith, e), λ e. omega (arith, e), λ e. omega (arith, e)), refl)

-- the octet of OBJECT IDENTIFIER is a tag: an identifier with bit 6 clear
pub is_oid : IsTag oid_tag
is_oid = ((λ e. omega (arith, e), λ e. omega (arith, e), λ e. omega (arith, e)), refl)

-- the octet of NULL is a tag: an identifier with bit 6 clear
pub is_null : IsTag null_tag
is_null = ((λ e. omega (arith, e), λ e. omega (arith, e), λ e. omega (arith, e)), refl)

-- the octet of BIT STRING is a tag: an identifier with bit 6 clear
pub is_bits : IsTag bit_string_tag
is_bits = ((λ e. omega (arith, e), λ e. omega (arith, e), λ e. omega (arith, e)), refl)

-- ---- whole values

-- where h reads every value as f and then g do, h reads an optional value as f and then g do
pub bound_by : {X Y : Type 0} (o : Option Value) (f : Value → Option X) (g : X → Option Y)
    (h : Value → Option Y) → ((v : Value) → h v ≡ (f v >>= g)) → (o >>= h) ≡ ((o >>= f) >>= g)
unfolding ◌>>=◌
bound_by None f g h e = refl
bound_by (Some v) f g h e = e v

-- a grammar with a conversion reads a whole value as the grammar reads that value and the
-- conversion takes what comes
pub whole_so : {X Y : Type 0} (grammar : Value → Option X) (convert : X → Option Y) (mode : Mode)
    (octets : List ℕ) → whole_of (so grammar convert) mode octets
    ≡ (whole_of grammar mode octets >>= convert)
unfolding whole_of so
whole_so grammar convert mode octets =
    bound_by (alone mode octets) grammar convert (λ v. grammar v >>= convert) (λ v. refl)

-- where a value begins octets and nothing is behind it, a grammar reads the whole octets as it
-- reads that value
pub whole_begins : {X : Type 0} (grammar : Value → Option X) (mode : Mode) (octets : List ℕ)
    (v : Value) → Begins mode (octets ++ []) v [] → whole_of grammar mode octets ≡ grammar v
unfolding whole_of ◌>>=◌
whole_begins grammar mode octets v b =
    rw (alone_begins mode octets v (subst (λ o. Begins mode o v []) (append-nil octets) b)) refl
