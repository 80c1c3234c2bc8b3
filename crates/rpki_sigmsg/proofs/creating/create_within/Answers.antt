use Rattle.std.proofs.Common.{◌≡◌, ◌∙◌, ap, subst}
use Rattle.std.proofs.lemmas.Bool.Decides.{not_from_Decides}
use Rattle.rpki_sigmsg.specs.Making.{ContentFields, assembled}
use Rattle.rpki_sigmsg.specs.FirstRefusals.{HasKeys}
use Rattle.rpki_signer.proofs.States.{handed_on}
use Rattle.rpki_sigmsg.proofs.Created.{made_message, no_keys, reused, uncreated, first_keys, first_same, first_behind, first_memory, last_memory, created, created_kept}
use Rattle.rpki_sigmsg.proofs.creating.create_within.Goals as goal

pub returns-in_err-content-clause-first_refusal : goal.returns-in_err-content-clause-first_refusal
returns-in_err-content-clause-first_refusal g c = handed_on _ _ _ _ c.from_residual.ensures (first_memory _ _ _ _ _)

pub returns-in_err-signature-clause-created : goal.returns-in_err-signature-clause-created
returns-in_err-signature-clause-created g c = handed_on _ _ _ _ c.from_residual-in_err-signature.ensures (no_keys _ _ _ _ _ _ _ c.in_err-signature.field-0.0 c.requires.has_window c.requires.short c.in_err-signature.ensures.keys)

pub returns-in_err-signature-clause-first_refusal : goal.returns-in_err-signature-clause-first_refusal
returns-in_err-signature-clause-first_refusal g c = handed_on _ _ _ _ c.from_residual-in_err-signature.ensures (first_keys _ _ _ _ _ _ _ c.in_err-signature.field-0.0 (made_message _ _ _ _ _ c.in_ok-content.ensures c.moment.ensures.moment c.as_slice.ensures) c.in_err-signature.ensures.keys)

pub returns-then-is_same-clause-created : goal.returns-then-is_same-clause-created
returns-then-is_same-clause-created g c = (c.requires.has_window, reused _ _ _ _ _ _ _ _ (c.is_same.ensures.0 c.if-is_same.true) c.in_ok-signature.ensures.keys c.sign_once_and_get_key.ensures.distinct)

pub returns-then-is_same-clause-first_refusal : goal.returns-then-is_same-clause-first_refusal
returns-then-is_same-clause-first_refusal g c = first_same _ _ _ _ _ _ _ _ _ _ (made_message _ _ _ _ _ c.in_ok-content.ensures c.moment.ensures.moment c.as_slice.ensures) (c.is_same.ensures.0 c.if-is_same.true) c.in_ok-signature.ensures.keys

pub returns-in_err-crl-clause-created : goal.returns-in_err-crl-clause-created
returns-in_err-crl-clause-created g c = handed_on _ _ _ _ c.from_residual-in_err-crl.ensures (uncreated _ _ _ _ _ _ _ _ _ _ _ c.in_err-crl.field-0.0 c.requires.has_window c.requires.short c.in_ok-signature.ensures.keys c.in_err-crl.ensures)

pub returns-in_err-crl-clause-first_refusal : goal.returns-in_err-crl-clause-first_refusal
returns-in_err-crl-clause-first_refusal g c = handed_on _ _ _ _ c.from_residual-in_err-crl.ensures (first_behind _ _ _ _ _ _ _ _ _ _ _ c.in_err-crl.field-0.0 (made_message _ _ _ _ _ c.in_ok-content.ensures c.moment.ensures.moment c.as_slice.ensures) (not_from_Decides c.is_same.result c.is_same.ensures c.if-is_same.false) c.in_ok-signature.ensures.keys c.in_err-crl.ensures)

pub returns-in_err-into_message-clause-first_refusal : goal.returns-in_err-into_message-clause-first_refusal
returns-in_err-into_message-clause-first_refusal g c = handed_on _ _ _ _ c.from_residual-in_err-into_message.ensures (last_memory _ _ _ _ _ _ _ _ _ _ _ c.in_ok-crl.crl c.in_ok-crl.certificate (made_message _ _ _ _ _ c.in_ok-content.ensures c.moment.ensures.moment c.as_slice.ensures) (not_from_Decides c.is_same.result c.is_same.ensures c.if-is_same.false) c.in_ok-signature.ensures.keys c.in_ok-crl.ensures)

pub returns-clause-created : goal.returns-clause-created
returns-clause-created g c =
    let content : c.in_ok-content.content ≡ record { content = c.args.content; moment = c.args.window } = c.in_ok-content.ensures ∙ ap (λ m. record { content = c.args.content; moment = m }) c.moment.ensures.moment in
    let message = made_message _ _ _ _ _ c.in_ok-content.ensures c.moment.ensures.moment c.as_slice.ensures in
    let keys = subst (λ t. HasKeys g.P.Scheme.checks t c.args.issuing_key_id.now (g.S.Signer.state c.args.signer.now) (g.S.Signer.state c.sign_once_and_get_key.new.signer) c.in_ok-signature.signature.value c.in_ok-signature.key c.in_ok-signature.issuing_key) message c.in_ok-signature.ensures.keys in
    let is = c.in_ok-into_message.ensures ∙ ap (λ (f : ContentFields). assembled f c.in_ok-signature.signature c.in_ok-crl.certificate c.in_ok-crl.crl) content in
    created _ _ _ _ _ _ _ c.in_ok-signature.signature c.in_ok-signature.key c.in_ok-signature.issuing_key c.in_ok-crl.crl c.in_ok-crl.certificate c.in_ok-into_message.field-0 c.requires.has_window c.in_ok-signature.ensures.algorithm keys (not_from_Decides c.is_same.result c.is_same.ensures c.if-is_same.false) c.sign_once_and_get_key.ensures.distinct c.in_ok-crl.ensures is

pub returns-clause-kept : goal.returns-clause-kept
returns-clause-kept g c = created_kept _ _ _ _ _ _ _ _ _ _ c.in_ok-crl.crl c.in_ok-crl.certificate c.in_ok-signature.ensures.keys c.in_ok-crl.ensures
