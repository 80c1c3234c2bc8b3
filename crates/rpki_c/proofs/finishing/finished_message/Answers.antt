use Rattle.std.proofs.Common.{refl, rules}
use Rattle.rpki_external.proofs.Saying.{finished_so}
use Rattle.rpki_c.proofs.finishing.finished_message.Goals as goal

pub returns-clause-ok : goal.returns-clause-ok
returns-clause-ok c =
    finished_so c.args.kind c.args.text.now c.args.plan.now c.in_ok-message.message _ c.in_ok-message.ensures.ok (search rules) c.args.signatures c.in_ok-signed.signed c.in_ok-copied.field-0.items _
    c.in_ok-signed.ensures.can c.in_ok-signed.ensures.short c.in_ok-signed.ensures.finished c.in_ok-to_captured.ensures.spelled (search rules) refl
