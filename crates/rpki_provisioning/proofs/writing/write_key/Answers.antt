use Rattle.std.proofs.Common.{◌∙◌, ap}
use Rattle.std.proofs.lemmas.Result.{on_ok_weaker}
use Rattle.base64.specs.Engines.{url_safe_no_pad}
use Rattle.base64.specs.GeneralPurpose.{encode_of}
use Rattle.rpki_provisioning.proofs.Writings.{key_written}
use Rattle.rpki_provisioning.proofs.writing.write_key.Goals as goal

pub returns : goal.returns
returns c =
    on_ok_weaker c.close.result
    (key_written c.args.key.now _ _ _ _ _ _ _ (c.as_str.ensures ∙ c.class_name.ensures) (c.as_str-2.ensures.value ∙ c.in_ok-ski.ensures ∙ ap (encode_of url_safe_no_pad) c.key.ensures)
    c.in_ok-element.ensures.ok c.in_ok-attr.ensures.ok c.in_ok-attr-2.ensures.ok)
    c.close.ensures.ok
