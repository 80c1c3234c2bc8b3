use Rattle.std.proofs.Common.{[], ◌∷◌, ◌∙◌, ap}
use Rattle.std.proofs.lemmas.Result.{on_ok_weaker}
use Rattle.rpki_updown.specs.Entitlements.{issued_with, issuance_with}
use Rattle.rpki_base.specs.Civil.{civil_at}
use Rattle.rpki_base.specs.TimeText.{rfc3339_text}
use Rattle.rpki_provisioning.specs.Class.{class_of_issuance}
use Rattle.rpki_provisioning.specs.Shape.{certificate_octets}
use Rattle.rpki_provisioning.proofs.Writings.{class_written}
use Rattle.rpki_provisioning.proofs.writing.write_issuance.Goals as goal

pub returns : goal.returns
returns c =
    on_ok_weaker c.close.result
    (class_written (class_of_issuance (issuance_with certificate_octets c.args.response.now)) _ _ _
    (certificate_octets c.cert.result.now) _ (issued_with certificate_octets c.issued_cert.result.now ∷ []) _ _ _ _ _ _ _ _ _
    (c.as_str.ensures ∙ c.class_name.ensures) (c.as_str-2.ensures.text ∙ c.url.ensures ∙ ap (λ s. s.url) c.signing_cert.ensures) c.resource_set.ensures
    (c.as_str-3.ensures.value ∙ c.in_ok-until.ensures ∙ ap (λ t. rfc3339_text (civil_at t)) c.not_after.ensures) (ap (λ i. issued_with certificate_octets i ∷ []) c.issued_cert.ensures)
    (ap certificate_octets c.cert.ensures ∙ ap (λ s. certificate_octets s.cert) c.signing_cert-2.ensures) c.in_ok-element.ensures.ok c.in_ok-attr.ensures.ok c.in_ok-attr-2.ensures.ok
    c.in_ok-write_set.ensures c.in_ok-attr-3.ensures.ok c.in_ok-write_certificate.ensures c.in_ok-write_issuer.ensures)
    c.close.ensures.ok
