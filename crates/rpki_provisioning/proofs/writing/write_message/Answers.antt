use Rattle.std.proofs.Common.{◌∙◌, ap}
use Rattle.std.proofs.lemmas.Result.{on_ok_weaker}
use Rattle.rpki_updown.specs.PayloadType.{payload_type_text}
use Rattle.rpki_provisioning.specs.Shape.{payload_type_of}
use Rattle.rpki_provisioning.proofs.Writings.{message_written}
use Rattle.rpki_provisioning.proofs.writing.write_message.Goals as goal

pub returns : goal.returns
returns c =
    on_ok_weaker c.close.result
    (message_written c.args.message.now _ _ _ _ _ _ _ _ _ _ _ _ _ (c.as_str.ensures ∙ c.sender.ensures) (c.as_str-2.ensures ∙ c.recipient.ensures)
    (c.as_str-3.ensures ∙ ap payload_type_text (c.payload_type.ensures ∙ ap payload_type_of c.payload.ensures)) c.payload-2.ensures c.in_ok-element.ensures.ok c.in_ok-attr.ensures.ok
    c.in_ok-attr-2.ensures.ok c.in_ok-attr-3.ensures.ok
    c.in_ok-attr-4.ensures.ok c.in_ok-attr-5.ensures.ok c.in_ok-write_payload.ensures)
    c.close.ensures.ok
