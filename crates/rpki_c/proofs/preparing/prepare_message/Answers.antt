use Rattle.std.proofs.Common.{◌≢◌, inl, inr, ap, Err, Ok}
use Rattle.std.proofs.lemmas.Int.{to_z-of_z}
use Rattle.std.proofs.lemmas.Result.{err_from_is_err_and, IfOk-weaker, IfErr-weaker}
use Rattle.rpki_c.specs.Calls.{Prepares}
use Rattle.rpki_c.specs.HandingOver.{out_of_memory}
use Rattle.rpki_c.proofs.preparing.prepare_message.Goals as goal

pub returns-in_err-kind-clause-err : goal.returns-in_err-kind-clause-err
returns-in_err-kind-clause-err c =
    let kind = c.ranges.kind in
    let when = c.ranges.when in
    let p = err_from_is_err_and c.from_residual.result c.from_residual.ensures.1 in
    rw (p.1, p.2) (λ other.
    let why = simp to_z-of_z at c.in_err-kind.ensures.err in
    inr (ap (λ x. Err x) why.0, why.1))

pub returns-in_err-plan-clause-err : goal.returns-in_err-plan-clause-err
returns-in_err-plan-clause-err c =
    let kind = c.ranges.kind in
    let when = c.ranges.when in
    let kind_read = simp to_z-of_z at c.in_ok-kind.ensures.ok in
    let p = err_from_is_err_and c.from_residual-in_err-plan.result c.from_residual-in_err-plan.ensures.1 in
    rw (p.1, p.2) (λ other.
    let why = (simp to_z-of_z at c.in_err-plan.ensures.err) other in
    inl (_, kind_read, inr (ap (λ x. Err x) why.0, why.1)))

pub returns-clause-ok : goal.returns-clause-ok
returns-clause-ok c =
    let kind = c.ranges.kind in
    let when = c.ranges.when in
    let kind_read = simp to_z-of_z at c.in_ok-kind.ensures.ok in
    let plan_read = simp to_z-of_z at c.in_ok-plan.ensures.ok in
    IfOk-weaker c.message_to_sign.result (λ text. Prepares c.in_ok-kind.kind c.args.text.now c.in_ok-plan.plan (Ok text.items)) _
    (λ text so. inl (c.in_ok-kind.kind, kind_read, inl (c.in_ok-plan.plan, plan_read, so))) c.message_to_sign.ensures.ok

pub returns-clause-err : goal.returns-clause-err
returns-clause-err c =
    let kind = c.ranges.kind in
    let when = c.ranges.when in
    let kind_read = simp to_z-of_z at c.in_ok-kind.ensures.ok in
    let plan_read = simp to_z-of_z at c.in_ok-plan.ensures.ok in
    IfErr-weaker c.message_to_sign.result (λ e. e ≢ out_of_memory → Prepares c.in_ok-kind.kind c.args.text.now c.in_ok-plan.plan (Err e)) _
    (λ e so other. inl (c.in_ok-kind.kind, kind_read, inl (c.in_ok-plan.plan, plan_read, so other))) c.message_to_sign.ensures.err
