use Rattle.std.proofs.Common.{refl, map, ◌∙◌, ap}
use Rattle.std.proofs.lemmas.Result.{on_ok_weaker}
use Rattle.rpki_updown.specs.Entitlements.{issued_with, class_with}
use Rattle.rpki_provisioning.specs.Shape.{certificate_octets}
use Rattle.rpki_provisioning.proofs.Writings.{class_written}
use Rattle.rpki_provisioning.proofs.writing.write_parts.Goals as goal

pub returns : goal.returns
returns c =
    on_ok_weaker c.close.result
    (class_written
    (class_with certificate_octets (record {
      class_name = c.args.class_name.now;
      resource_set = c.args.resource_set.now;
      not_after = c.args.not_after;
      issued_certs = c.args.issued_certs.now;
      signing_cert = c.args.signing_cert.now;
    })) _ _ _ (certificate_octets c.cert.result.now) _ (map (issued_with certificate_octets) c.args.issued_certs.now) _ _ _ _ _ _ _ _ _
    c.as_str.ensures (c.as_str-2.ensures.text ∙ c.url.ensures) refl (c.as_str-3.ensures.value ∙ c.in_ok-until.ensures) refl (ap certificate_octets c.cert.ensures) c.in_ok-element.ensures.ok
    c.in_ok-attr.ensures.ok c.in_ok-attr-2.ensures.ok
    c.in_ok-write_set.ensures c.in_ok-attr-3.ensures.ok c.in_ok-write_certificates.ensures c.in_ok-write_issuer.ensures)
    c.close.ensures.ok
