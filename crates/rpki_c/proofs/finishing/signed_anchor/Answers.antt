use Rattle.std.proofs.Common.{refl, rules}
use Rattle.rpki_external.proofs.Saying.{anchor_line}
use Rattle.rpki_c.proofs.finishing.signed_anchor.Goals as goal

pub returns-clause-ok : goal.returns-clause-ok
returns-clause-ok c =
    let finished = rw c.in_ok-shared.ensures at c.in_ok-certificate.ensures.finished in
    let short = rw c.in_ok-shared.ensures at c.in_ok-certificate.ensures.short in
    anchor_line c.args.validity c.args.key.now c.args.signature.now c.in_ok-certificate.certificate c.in_ok-copied.field-0.items _ finished
    c.in_ok-certificate.ensures.can short c.in_ok-to_captured.ensures.spelled (search rules) refl
