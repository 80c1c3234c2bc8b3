use Rattle.std.proofs.lemmas.Result.{err_from_is_err_and}
use Rattle.rpki_c.proofs.arguments.request_plan_in.Goals as goal

pub returns-in_err-key-clause-err : goal.returns-in_err-key-clause-err
returns-in_err-key-clause-err c =
    let p = err_from_is_err_and c.from_residual.result c.from_residual.ensures.1 in
    rw (p.1, p.2) (λ other.
    let why = c.in_err-key.ensures.err other in
    (why.0, λ plan is. why.1 plan.key is.key_is))

pub returns-in_err-rpki_manifest-clause-err : goal.returns-in_err-rpki_manifest-clause-err
returns-in_err-rpki_manifest-clause-err c =
    let p = err_from_is_err_and c.from_residual-in_err-rpki_manifest.result c.from_residual-in_err-rpki_manifest.ensures.1 in
    rw (p.1, p.2) (λ other.
    let why = c.in_err-rpki_manifest.ensures.err other in
    (why.0, λ plan is. why.1 plan.rpki_manifest is.manifest_is))
