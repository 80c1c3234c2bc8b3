-- What is told of a message has no float.
use Rattle.std.proofs.Common.{◌≡◌, ℕ, ℤ, pos, negsuc, Bool, true, false, ◌||◌, Option, None, Some, List, [], ◌∷◌, map, refl}
use Rattle.serde_json.specs.Data.{Data, boolean}
use Rattle.serde_json.specs.View.{items_of}
use Rattle.serde_json.specs.Written.{has_float, items_have_float}
use Rattle.rpki_idcert.specs.IdCert.{CertificateFields}
use Rattle.rpki_sigmsg.specs.Crl.{CrlFields}
use Rattle.rpki_sigmsg.specs.Message.{MessageFields}
use Rattle.rpki_external.specs.Inspection.{json_octets, json_count, json_moment, json_serial, json_or_null, modulus_length, algorithm_inspection, certificate_inspection, crl_inspection, inspection}

both_plain : (a b : Bool) → a ≡ false → b ≡ false → (a || b) ≡ false
both_plain true b e h = e
both_plain false b e h = h

moment_plain : (when : ℤ) → has_float (json_moment when) ≡ false
moment_plain (pos n) = refl
moment_plain (negsuc n) = refl

null_plain : {X : Type 0} (form : X → Data) → ((x : X) → has_float (form x) ≡ false) → (o : Option X) → has_float (json_or_null form o) ≡ false
null_plain form plain None = refl
null_plain form plain (Some x) = plain x

algorithm_plain : (name : List ℕ) (parameters : Bool) → has_float (algorithm_inspection name parameters) ≡ false
unfolding algorithm_inspection
algorithm_plain name parameters = refl

certificate_plain : (c : CertificateFields) → has_float (certificate_inspection c) ≡ false
unfolding certificate_inspection
certificate_plain c =
    both_plain _ _ (null_plain json_octets (λ _. refl) c.tbs.authority_key_id)
    (both_plain _ _ (null_plain boolean (λ _. refl) c.tbs.basic_ca)
    (both_plain _ _ (null_plain json_count (λ _. refl) (modulus_length c.tbs.key.bits))
    (both_plain _ _ (moment_plain c.tbs.validity.not_after)
    (both_plain _ _ (moment_plain c.tbs.validity.not_before) refl))))

crl_plain : (c : CrlFields) → has_float (crl_inspection c) ≡ false
unfolding crl_inspection
crl_plain c =
    both_plain _ _ (null_plain json_octets (λ _. refl) c.tbs.authority_key_id)
    (both_plain _ _ (null_plain json_serial (λ _. refl) c.tbs.crl_number)
    (both_plain _ _ (moment_plain c.tbs.next_update)
    (both_plain _ _ (algorithm_plain _ _)
    (both_plain _ _ (algorithm_plain _ _)
    (both_plain _ _ (moment_plain c.tbs.this_update) refl)))))

crls_plain : (crls : List CrlFields) → items_have_float (items_of (map crl_inspection crls)) ≡ false
crls_plain [] = refl
crls_plain (c ∷ crls) = both_plain _ _ (crl_plain c) (crls_plain crls)

pub message_plain : (m : MessageFields) → has_float (inspection m) ≡ false
unfolding inspection
message_plain m =
    both_plain _ _ (certificate_plain m.certificate)
    (both_plain _ _ (crls_plain m.crls)
    (both_plain _ _ (algorithm_plain _ _)
    (both_plain _ _ (null_plain json_moment moment_plain m.signing_time) refl)))
