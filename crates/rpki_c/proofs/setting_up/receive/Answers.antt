use Rattle.std.proofs.Common.{inl, inr, ap, Err}
use Rattle.std.proofs.lemmas.Int.{to_z-of_z}
use Rattle.std.proofs.lemmas.Result.{err_from_is_err_and, IfOk-weaker, IfErr-weaker}
use Rattle.rpki_c.proofs.setting_up.receive.Goals as goal

pub returns-in_err-kind-clause-err : goal.returns-in_err-kind-clause-err
returns-in_err-kind-clause-err c =
    let kind = c.ranges.kind in
    let when = c.ranges.when in
    let p = err_from_is_err_and c.from_residual.result c.from_residual.ensures.1 in
    rw (p.1, p.2) (λ other.
    let why = simp to_z-of_z at c.in_err-kind.ensures.err in
    inr (ap (λ x. Err x) why.0, why.1))

pub returns-in_err-when-clause-err : goal.returns-in_err-when-clause-err
returns-in_err-when-clause-err c =
    let kind = c.ranges.kind in
    let when = c.ranges.when in
    let kind_read = simp to_z-of_z at c.in_ok-kind.ensures.ok in
    let p = err_from_is_err_and c.from_residual-in_err-when.result c.from_residual-in_err-when.ensures.1 in
    rw (p.1, p.2) (λ other.
    let why = simp to_z-of_z at c.in_err-when.ensures.err in
    inl (_, kind_read, inr (ap (λ x. Err x) why.0, why.1)))

pub returns-in_err-answers-clause-err : goal.returns-in_err-answers-clause-err
returns-in_err-answers-clause-err c =
    let kind = c.ranges.kind in
    let when = c.ranges.when in
    let kind_read = simp to_z-of_z at c.in_ok-kind.ensures.ok in
    let when_read = simp to_z-of_z at c.in_ok-when.ensures.ok in
    let p = err_from_is_err_and c.from_residual-in_err-answers.result c.from_residual-in_err-answers.ensures.1 in
    rw (p.1, p.2) (λ other.
    let why = c.in_err-answers.ensures.err other in
    inl (_, kind_read, inl (_, when_read, inr (ap (λ x. Err x) why.0, why.1))))

pub returns-clause-ok : goal.returns-clause-ok
returns-clause-ok c =
    let kind = c.ranges.kind in
    let when = c.ranges.when in
    let kind_read = simp to_z-of_z at c.in_ok-kind.ensures.ok in
    let when_read = simp to_z-of_z at c.in_ok-when.ensures.ok in
    IfOk-weaker c.received.result _ _ (λ text so. inl (_, kind_read, inl (_, when_read, inl (_, c.in_ok-answers.ensures.ok, so)))) c.received.ensures.ok

pub returns-clause-err : goal.returns-clause-err
returns-clause-err c =
    let kind = c.ranges.kind in
    let when = c.ranges.when in
    let kind_read = simp to_z-of_z at c.in_ok-kind.ensures.ok in
    let when_read = simp to_z-of_z at c.in_ok-when.ensures.ok in
    IfErr-weaker c.received.result _ _ (λ e so other. inl (_, kind_read, inl (_, when_read, inl (_, c.in_ok-answers.ensures.ok, so other)))) c.received.ensures.err
