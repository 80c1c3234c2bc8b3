use Rattle.std.proofs.Common.{refl, ◌∙◌}
use Rattle.rpki_external.proofs.Saying.{request_line}
use Rattle.rpki_c.proofs.finishing.signed_request.Goals as goal

pub returns-clause-ok : goal.returns-clause-ok
returns-clause-ok c =
    let finished = rw c.in_ok-shared.ensures at c.in_ok-octets.ensures.finished in
    let spelled = rw c.in_ok-shared.ensures at c.in_ok-octets.ensures.spelled in
    let short = rw c.in_ok-shared.ensures at c.in_ok-octets.ensures.short in
    request_line c.args.plan.now c.args.signature.now c.in_ok-copied.field-0.items _ (c.in_ok-copied.ensures ∙ (c.as_slice.ensures ∙ finished)) c.in_ok-octets.ensures.can short spelled refl
