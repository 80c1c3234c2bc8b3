use Rattle.std.proofs.Common.{◌∙◌, ap}
use Rattle.std.proofs.lemmas.Result.{on_ok_weaker}
use Rattle.base64.specs.Engines.{standard}
use Rattle.base64.specs.GeneralPurpose.{encode_of}
use Rattle.rpki_provisioning.specs.Shape.{certificate_octets}
use Rattle.rpki_provisioning.proofs.Writings.{issuer_written}
use Rattle.rpki_provisioning.proofs.writing.write_issuer.Goals as goal

pub returns : goal.returns
returns c =
    on_ok_weaker c.close.result
    (issuer_written (certificate_octets c.args.cert.now) _ _ _ _ _ (c.as_str.ensures.text ∙ ap (encode_of standard) c.in_ok-octets.ensures) c.in_ok-element.ensures.ok c.in_ok-text.ensures.ok)
    c.close.ensures.ok
