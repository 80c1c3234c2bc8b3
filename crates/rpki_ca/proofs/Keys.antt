-- When two keys are the same.
use Rattle.std.proofs.Common.{◌≡◌, Bool, true, false, bytes_eq, refl, sym, ap, ◌∙◌}
use Rattle.std.proofs.lemmas.Slice.Eq.{bytes_eq-Decides}
use Rattle.rpki_base.specs.declared.algorithm.PublicKeyFormat.{PublicKeyFormat}
use Rattle.rpki_base.specs.declared.algorithm.PublicKeyFormat.TheVariants.{Rsa, EcdsaP256}
use Rattle.rpki_base.specs.PublicKey.{KeyFields}
use Rattle.rpki_ca.specs.Keys.{same_format, same_key}
use Rattle.rpki_common.proofs.Truths.{both}

format_same : (a b : PublicKeyFormat) → same_format a b ≡ true → a ≡ b
format_same Rsa Rsa e = refl
format_same Rsa EcdsaP256 e = cc
format_same EcdsaP256 Rsa e = cc
format_same EcdsaP256 EcdsaP256 e = refl

format_itself : (a : PublicKeyFormat) → same_format a a ≡ true
format_itself Rsa = refl
format_itself EcdsaP256 = refl

-- keys that the test finds the same are one key
pub key_is : (a b : KeyFields) → same_key a b ≡ true → a ≡ b
key_is a b e =
    let parts = both (same_format a.format b.format) (bytes_eq a.bits b.bits) e in
    let format = format_same a.format b.format parts.0 in
    let bits = (bytes_eq-Decides a.bits b.bits).0 parts.1 in
    λ i. record { format = format i; bits = bits i }

-- a key is the same as itself
pub key_itself : (a : KeyFields) → same_key a a ≡ true
key_itself a =
    let format = format_itself a.format in
    let bits = (bytes_eq-Decides a.bits a.bits).1 refl in
    rw (format, bits) refl

same_swapped : (a b : KeyFields) (t : Bool) → same_key a b ≡ t → same_key b a ≡ t
same_swapped a b true e = let is = key_is a b e in ap (λ (k : KeyFields). same_key b k) is ∙ key_itself b
same_swapped a b false e = not_same (same_key b a) refl
  where
    not_same : (t : Bool) → same_key b a ≡ t → same_key b a ≡ false
    not_same false o = o
    not_same true o = let is = key_is b a o in let other = ap (λ (k : KeyFields). same_key a k) is ∙ key_itself a in cc

-- the test is symmetric
pub same_key-sym : (a b : KeyFields) → same_key a b ≡ same_key b a
same_key-sym a b = sym (same_swapped a b (same_key a b) refl)
