use Rattle.std.proofs.Common.{◌≢◌, inl, inr, ap, Err}
use Rattle.std.proofs.lemmas.Int.{to_z-of_z}
use Rattle.std.proofs.lemmas.Result.{err_from_is_err_and, IfErr-weaker}
use Rattle.rpki_external.specs.Running.{IsFinishAnswer}
use Rattle.rpki_c.specs.Calls.{SpelledSo, signatures_of}
use Rattle.rpki_c.specs.HandingOver.{out_of_memory}
use Rattle.rpki_c.proofs.finishing.finish_message.Goals as goal

pub returns-in_err-kind-clause-err : goal.returns-in_err-kind-clause-err
returns-in_err-kind-clause-err c =
    let kind = c.ranges.kind in
    let when = c.ranges.when in
    let p = err_from_is_err_and c.from_residual.result c.from_residual.ensures.1 in
    rw (p.1, p.2) (λ other.
    let why = simp to_z-of_z at c.in_err-kind.ensures.err in
    inr (ap (λ x. Err x) why.0, why.1))

pub returns-in_err-plan-clause-err : goal.returns-in_err-plan-clause-err
returns-in_err-plan-clause-err c =
    let kind = c.ranges.kind in
    let when = c.ranges.when in
    let kind_read = simp to_z-of_z at c.in_ok-kind.ensures.ok in
    let p = err_from_is_err_and c.from_residual-in_err-plan.result c.from_residual-in_err-plan.ensures.1 in
    rw (p.1, p.2) (λ other.
    let why = (simp to_z-of_z at c.in_err-plan.ensures.err) other in
    inl (_, kind_read, inr (ap (λ x. Err x) why.0, why.1)))

pub returns-clause-err : goal.returns-clause-err
returns-clause-err c =
    let kind = c.ranges.kind in
    let when = c.ranges.when in
    let kind_read = simp to_z-of_z at c.in_ok-kind.ensures.ok in
    let plan_read = simp to_z-of_z at c.in_ok-plan.ensures.ok in
    IfErr-weaker c.finished_message.result
    (λ e. e ≢ out_of_memory → SpelledSo (IsFinishAnswer c.in_ok-kind.kind c.args.text.now c.in_ok-plan.plan (signatures_of c.args.attributes.now c.args.crl.now c.args.certificate.now)) (Err e))
    _ (λ e so other. inl (c.in_ok-kind.kind, kind_read, inl (c.in_ok-plan.plan, plan_read, so other))) (rw c.in_ok-signatures.ensures at c.finished_message.ensures.err)
