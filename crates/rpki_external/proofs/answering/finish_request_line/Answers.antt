use Rattle.std.proofs.Common.{◌∙◌}
use Rattle.rpki_external.proofs.Saying.{request_line}
use Rattle.rpki_external.proofs.answering.finish_request_line.Goals as goal

pub returns-clause-ok : goal.returns-clause-ok
returns-clause-ok c =
    request_line c.args.plan.now c.args.signature c.as_slice.result.now c.in_ok-hexadecimal_line.field-0.items (c.as_slice.ensures ∙ c.in_ok-octets.ensures.finished)
    c.in_ok-octets.ensures.can c.in_ok-octets.ensures.short c.in_ok-octets.ensures.spelled c.in_ok-hexadecimal_line.ensures
