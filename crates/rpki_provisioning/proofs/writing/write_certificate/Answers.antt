use Rattle.std.proofs.Common.{◌∙◌, ap}
use Rattle.std.proofs.lemmas.Result.{on_ok_weaker}
use Rattle.base64.specs.Engines.{standard}
use Rattle.base64.specs.GeneralPurpose.{encode_of}
use Rattle.rpki_updown.specs.Entitlements.{issued_with}
use Rattle.rpki_provisioning.specs.Shape.{certificate_octets}
use Rattle.rpki_provisioning.proofs.Writings.{certificate_written}
use Rattle.rpki_provisioning.proofs.writing.write_certificate.Goals as goal

pub returns : goal.returns
returns c =
    on_ok_weaker c.close.result
    (certificate_written (issued_with certificate_octets c.args.issued.now) _ _ _ _ _ _ _ _ _ (c.as_str.ensures.text ∙ c.uri.ensures) c.req_limit.ensures
    (c.as_str-2.ensures.text ∙ ap (encode_of standard) (c.in_ok-octets.ensures ∙ ap certificate_octets c.cert.ensures)) c.in_ok-element.ensures.ok c.in_ok-attr.ensures.ok c.in_ok-write_limit.ensures
    c.in_ok-text.ensures.ok)
    c.close.ensures.ok
