use Rattle.std.proofs.Common.{◌++◌, ◌∙◌, ap, inr, subst, sym, false, true, ◌≡◌}
use Rattle.rpki_base.specs.RpkiSignatureAlgorithm.{RpkiAlgorithm, spelled_x509}
use Rattle.rpki_base.specs.Signature.{SignatureParts}
use Rattle.rpki_base.specs.SignedData.{spelled_data}
use Rattle.rpki_cert.specs.Making.{CaRequest}
use Rattle.rpki_signer.specs.Limits.{IsShort}
use Rattle.rpki_external.specs.Verifying.{BeginsRequest}
use Rattle.rpki_external.proofs.Requests.{same_request}
use Rattle.rpki_external.proofs.preparing_requests.finish_request.Goals as goal

pub returns-then-not-is_within_limit-clause-err : goal.returns-then-not-is_within_limit-clause-err
returns-then-not-is_within_limit-clause-err c =
    inr (c.in_ok-unsigned.ensures.can, λ short. let both : false ≡ true = sym c.if-not-is_within_limit.true ∙ c.is_within_limit.ensures.within.1 (subst IsShort (sym c.as_slice.ensures) short) in cc)

pub returns-clause-finished : goal.returns-clause-finished
returns-clause-finished c =
    c.in_ok-octets.ensures.octets
    ∙ ap (λ (r : CaRequest). spelled_data spelled_x509 r.signed) (same_request c.args.plan.now c.args.signature _ _ c.in_ok-unsigned.ensures.prepared c.signature_of-signature.ensures)

pub returns-clause-again : goal.returns-clause-again
returns-clause-again c = λ rest.
    subst (λ (r : CaRequest). BeginsRequest (c.in_ok-octets.octets ++ rest) r) (same_request c.args.plan.now c.args.signature _ _ c.in_ok-unsigned.ensures.prepared c.signature_of-signature.ensures)
    (c.in_ok-octets.ensures.again (ap (λ (s : SignatureParts RpkiAlgorithm). s.algorithm.identifier) c.signature_of-signature.ensures) rest)
