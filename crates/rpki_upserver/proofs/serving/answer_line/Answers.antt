use Rattle.std.proofs.Common.{◌∙◌, subst, sym}
use Rattle.hex.specs.Hex.{encode_lower}
use Rattle.rpki_sigmsg.specs.Spelling.{rewritten}
use Rattle.rpki_ca.specs.Seen.{seen_signer}
use Rattle.rpki_ca.specs.declared.refusals.Refusal.{Refusal}
use Rattle.rpki_upserver.specs.Answering.{with_issuer}
use Rattle.rpki_upserver.specs.Serving.{FailsLine}
use Rattle.rpki_upserver.proofs.Answering.{cant_send, replied_so}
use Rattle.rpki_upserver.proofs.serving.answer_line.Goals as goal

pub returns-in_ok-message_line-in-Ok-clause-ok : goal.returns-in_ok-message_line-in-Ok-clause-ok
returns-in_ok-message_line-in-Ok-clause-ok g c =
    let signer = seen_signer c.args.key.now (g.S.Signer.state c.args.signer.now) (g.S.Signer.state c.answer.new.signer) in (
      encode_lower (rewritten c.in-Ok.cms.signed),
      replied_so g.P.Scheme.checks c.args.when signer (with_issuer c.args.parent.now (g.N.Issuer.state c.args.issuer.now)) c.args.octets.now c.in-Ok.cms (with_issuer c.answer.new.self (g.N.Issuer.state c.answer.new.issuer)) c.in-Ok.ensures.answered c.in_ok-message_line-in-Ok.ensures.spelled c.answer.ensures.keeps,
      c.in_ok-message_line-in-Ok.ensures.line,
    )

pub returns-in-Err-Unsent-clause-err : goal.returns-in-Err-Unsent-clause-err
returns-in-Err-Unsent-clause-err g c = λ other.
    let signer = seen_signer c.args.key.now (g.S.Signer.state c.args.signer.now) (g.S.Signer.state c.answer.new.signer) in
    let before = with_issuer c.args.parent.now (g.N.Issuer.state c.args.issuer.now) in
    let after = with_issuer c.answer.new.self (g.N.Issuer.state c.answer.new.issuer) in
    let e = c.in-Err-Unsent.error in
    subst (λ (r : Refusal). FailsLine g.P.Scheme.checks c.args.when signer before c.args.octets.now after r) (sym c.from.ensures)
    (cant_send g.P.Scheme.checks c.args.when signer before c.args.octets.now after e (rw c.in-Err-Unsent.field-0-is at c.in-Err-Unsent.ensures.unanswered) (λ is. other (c.from.ensures ∙ is)))
