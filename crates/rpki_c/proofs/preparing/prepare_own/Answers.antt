use Rattle.std.proofs.Common.{inl, inr, ap, Err}
use Rattle.std.proofs.lemmas.Int.{to_z-of_z}
use Rattle.std.proofs.lemmas.Result.{err_from_is_err_and, IfOk-weaker, IfErr-weaker}
use Rattle.rpki_c.proofs.preparing.prepare_own.Goals as goal

pub returns-in_err-validity-clause-err : goal.returns-in_err-validity-clause-err
returns-in_err-validity-clause-err c =
    let not_before = c.ranges.not_before in
    let not_after = c.ranges.not_after in
    let p = err_from_is_err_and c.from_residual.result c.from_residual.ensures.1 in
    rw (p.1, p.2) (λ other.
    let why = simp to_z-of_z at c.in_err-validity.ensures.err in
    inr (ap (λ x. Err x) why.0, why.1))

pub returns-in_err-key-clause-err : goal.returns-in_err-key-clause-err
returns-in_err-key-clause-err c =
    let not_before = c.ranges.not_before in
    let not_after = c.ranges.not_after in
    let validity_read = simp to_z-of_z at c.in_ok-validity.ensures.ok in
    let p = err_from_is_err_and c.from_residual-in_err-key.result c.from_residual-in_err-key.ensures.1 in
    rw (p.1, p.2) (λ other.
    let why = c.in_err-key.ensures.err other in
    inl (_, validity_read, inr (ap (λ x. Err x) why.0, why.1)))

pub returns-clause-ok : goal.returns-clause-ok
returns-clause-ok c =
    let not_before = c.ranges.not_before in
    let not_after = c.ranges.not_after in
    let validity_read = simp to_z-of_z at c.in_ok-validity.ensures.ok in
    IfOk-weaker c.anchor_to_sign.result _ _ (λ text so. inl (_, validity_read, inl (_, c.in_ok-key.ensures.ok, so))) c.anchor_to_sign.ensures.ok

pub returns-clause-err : goal.returns-clause-err
returns-clause-err c =
    let not_before = c.ranges.not_before in
    let not_after = c.ranges.not_after in
    let validity_read = simp to_z-of_z at c.in_ok-validity.ensures.ok in
    IfErr-weaker c.anchor_to_sign.result _ _ (λ e so other. inl (_, validity_read, inl (_, c.in_ok-key.ensures.ok, so other))) c.anchor_to_sign.ensures.err
