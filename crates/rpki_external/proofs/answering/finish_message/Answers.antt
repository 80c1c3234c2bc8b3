use Rattle.std.proofs.Common.{◌∙◌}
use Rattle.rpki_external.proofs.Saying.{finished_so}
use Rattle.rpki_external.proofs.answering.finish_message.Goals as goal

pub returns-clause-ok : goal.returns-clause-ok
returns-clause-ok c =
    let t = c.in_ok-text.ensures.ok in
    finished_so c.args.kind c.args.input.now c.args.plan.now t.0 c.in_ok-text.text t.1 t.3 c.args.signatures c.in_ok-message.message c.as_slice.result.now c.in_ok-hexadecimal_line.field-0.items
    c.in_ok-message.ensures.can c.in_ok-message.ensures.short c.in_ok-message.ensures.finished c.in_ok-octets.ensures.spelled (c.as_slice.ensures ∙ c.in_ok-octets.ensures.octets) c.in_ok-hexadecimal_line.ensures
