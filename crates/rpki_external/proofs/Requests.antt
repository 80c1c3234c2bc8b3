-- A finished request is verified, and is what is made with a signer.
use Rattle.std.proofs.Common.{◌≡◌, ℕ, List, refl, sym, ap, subst, ◌∙◌}
use Rattle.rpki_base.specs.PublicKey.{KeyFields}
use Rattle.rpki_base.specs.RpkiSignatureAlgorithm.{RpkiAlgorithm, spelled_x509}
use Rattle.rpki_base.specs.Scheme.{Relation}
use Rattle.rpki_base.specs.SignedData.{SignedParts, spelled_data}
use Rattle.rpki_base.specs.declared.algorithm.SigningAlgorithm.TheVariants.{RsaSha256}
use Rattle.rpki_base.specs.Signature.{SignatureParts}
use Rattle.rpki_cert.specs.Making.{IsRequestMade, UnsignedRequest, signed_request_of, spelled_info}
use Rattle.rpki_signer.specs.Limits.{default_algorithm}
use Rattle.rpki_signer.specs.Signer.{SignerState}
use Rattle.rpki_external.specs.Making.{finished_request, request_to_sign, signature_of, unsigned_request}
use Rattle.rpki_external.specs.Verifying.{IsRequestSigned}
use Rattle.rpki_external.specs.declared.preparing_requests.RequestPlan.{RequestPlan}

pub request_verified : (scheme : Relation) (plan : RequestPlan) (signature : List ℕ) → scheme RsaSha256 plan.key (request_to_sign plan) signature
    → IsRequestSigned scheme (finished_request plan signature)
request_verified scheme plan signature signed = signed

-- the request with the same parts
pub same_request : (plan : RequestPlan) (signature : List ℕ) (u : UnsignedRequest) (s : SignatureParts RpkiAlgorithm) → u ≡ unsigned_request plan → s ≡ signature_of signature
    → signed_request_of u s ≡ finished_request plan signature
same_request plan signature u s e f = ap (λ (x : UnsignedRequest). signed_request_of x s) e ∙ ap (signed_request_of (unsigned_request plan)) f

-- signed parts of these octets, with a signature of this algorithm
same_parts : (d : SignedParts RpkiAlgorithm) (slice : List ℕ) (a : RpkiAlgorithm) → d.slice ≡ slice → d.signature.algorithm ≡ a
    → d ≡ record { slice = slice; signature = record { algorithm = a; value = d.signature.value } }
same_parts d slice a octets algorithm = λ i. record { slice = octets i; signature = record { algorithm = algorithm i; value = d.signature.value } }

pub request_finished : {Id : Type 0} (scheme : Relation) (id : Id) (before after : SignerState Id) (octets : List ℕ) (plan : RequestPlan)
    → (m : IsRequestMade scheme id (unsigned_request plan).places before after octets) → m.key ≡ plan.key
    → (signature : List ℕ) × scheme RsaSha256 plan.key (request_to_sign plan) signature
    × (octets ≡ spelled_data spelled_x509 (finished_request plan signature).signed)
request_finished scheme id before after octets plan m key =
    let slice : m.request.signed.slice ≡ request_to_sign plan = m.slice ∙ ap (λ (k : KeyFields). spelled_info k (unsigned_request plan).places) key in
    let value : List ℕ = m.request.signed.signature.value in
    let held : scheme RsaSha256 plan.key m.request.signed.slice value = subst (λ (k : KeyFields). scheme RsaSha256 k m.request.signed.slice value) key m.signed in (
      value,
      subst (λ (o : List ℕ). scheme RsaSha256 plan.key o value) slice held,
      m.octets_are ∙ ap (spelled_data spelled_x509) (same_parts m.request.signed (request_to_sign plan) default_algorithm slice m.algorithm),
    )
