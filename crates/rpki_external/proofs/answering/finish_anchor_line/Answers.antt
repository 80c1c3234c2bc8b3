use Rattle.std.proofs.Common.{◌∙◌}
use Rattle.rpki_external.proofs.Saying.{anchor_line}
use Rattle.rpki_external.proofs.answering.finish_anchor_line.Goals as goal

pub returns-clause-ok : goal.returns-clause-ok
returns-clause-ok c =
    anchor_line c.args.validity c.args.key.now c.args.signature c.in_ok-certificate.certificate c.as_slice.result.now c.in_ok-hexadecimal_line.field-0.items c.in_ok-certificate.ensures.finished
    c.in_ok-certificate.ensures.can c.in_ok-certificate.ensures.short c.in_ok-octets.ensures.spelled (c.as_slice.ensures ∙ c.in_ok-octets.ensures.octets) c.in_ok-hexadecimal_line.ensures
