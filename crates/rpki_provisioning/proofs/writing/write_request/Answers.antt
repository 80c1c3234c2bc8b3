use Rattle.std.proofs.Common.{◌∙◌, ap}
use Rattle.std.proofs.lemmas.Result.{on_ok_weaker}
use Rattle.base64.specs.Engines.{standard}
use Rattle.base64.specs.GeneralPurpose.{encode_of}
use Rattle.rpki_updown.specs.Entitlements.{asked_with}
use Rattle.rpki_provisioning.specs.Shape.{request_octets}
use Rattle.rpki_provisioning.proofs.Writings.{request_written}
use Rattle.rpki_provisioning.proofs.writing.write_request.Goals as goal

pub returns : goal.returns
returns c =
    on_ok_weaker c.close.result
    (request_written (asked_with request_octets c.args.request.now) _ _ _ _ _ _ _ _ _ (c.as_str.ensures ∙ c.class_name.ensures) c.limit.ensures
    (c.as_str-2.ensures.text ∙ ap (encode_of standard) (c.in_ok-octets.ensures ∙ c.as_slice.ensures ∙ c.in_ok-captured.ensures.octets ∙ ap request_octets c.csr.ensures)) c.in_ok-element.ensures.ok
    c.in_ok-attr.ensures.ok c.in_ok-write_limit.ensures
    c.in_ok-text.ensures.ok)
    c.close.ensures.ok
