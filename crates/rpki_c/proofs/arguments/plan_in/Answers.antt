use Rattle.std.proofs.lemmas.Result.{err_from_is_err_and}
use Rattle.rpki_c.proofs.arguments.plan_in.Goals as goal

pub returns-in_err-issuing_key-clause-err : goal.returns-in_err-issuing_key-clause-err
returns-in_err-issuing_key-clause-err c =
    let p = err_from_is_err_and c.from_residual-in_err-issuing_key.result c.from_residual-in_err-issuing_key.ensures.1 in
    rw (p.1, p.2) (λ other.
    let why = c.in_err-issuing_key.ensures.err other in
    (why.0, λ plan is. why.1 plan.issuing_key is.issuing_key_is))

pub returns-in_err-key-clause-err : goal.returns-in_err-key-clause-err
returns-in_err-key-clause-err c =
    let p = err_from_is_err_and c.from_residual-in_err-key.result c.from_residual-in_err-key.ensures.1 in
    rw (p.1, p.2) (λ other.
    let why = c.in_err-key.ensures.err other in
    (why.0, λ plan is. why.1 plan.key is.key_is))
