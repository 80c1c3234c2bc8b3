use Rattle.std.proofs.Common.{◌≡◌, ◌++◌, rules, sym, subst}
use Rattle.rpki_der.specs.Takes.{BeginsAs}
use Rattle.rpki_sigmsg.specs.Message.{MessageFields, signed_message}
use Rattle.rpki_sigmsg.specs.Spelling.{CanSpellMessage, rewritten}
use Rattle.rpki_external.specs.Making.{finished}
use Rattle.rpki_external.proofs.Finishing.{finished_again}
use Rattle.rpki_external.proofs.preparing.finish.Goals as goal

pub returns-clause-again : goal.returns-clause-again
returns-clause-again c = λ mode rest.
    let is : c.in_ok-into_message.field-0 ≡ finished c.args.content c.args.plan.now c.args.signatures = search rules in
    subst (λ (m : MessageFields). CanSpellMessage m → BeginsAs (signed_message mode) mode (rewritten m ++ rest) m) (sym is)
    (finished_again c.args.content c.args.plan.now c.args.signatures c.in_ok-unsigned.ensures.can (c.is_short.ensures.0 c.if-not-is_short.false) mode rest)
