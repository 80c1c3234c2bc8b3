use Rattle.std.proofs.Common.{ap, refl, ◌∙◌}
use Rattle.std.proofs.lemmas.Result.{err_from_is_err_and}
use Rattle.rpki_external.specs.Running.{lines_of}
use Rattle.rpki_external.proofs.Saying.{prepared_so}
use Rattle.rpki_external.proofs.answering.prepare_message.Goals as goal

pub returns-in_err-lines_to_sign-clause-err : goal.returns-in_err-lines_to_sign-clause-err
returns-in_err-lines_to_sign-clause-err c =
    let p = err_from_is_err_and c.from_residual-in_err-lines_to_sign.result c.from_residual-in_err-lines_to_sign.ensures.1 in
    rw (p.1, p.2) (λ other. absurd (other refl))

pub returns-clause-ok : goal.returns-clause-ok
returns-clause-ok c =
    let t = c.in_ok-text.ensures.ok in
    prepared_so c.args.kind c.args.input.now c.args.plan.now t.0 c.in_ok-text.text t.1 t.3 c.in_ok-lines_to_sign.field-0.items c.in_ok-unsigned.ensures.can
    (c.in_ok-lines_to_sign.ensures ∙ ap lines_of c.in_ok-unsigned.ensures.prepared)
