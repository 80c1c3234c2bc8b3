use Rattle.std.proofs.lemmas.Result.{err_from_is_err_and}
use Rattle.rpki_external.proofs.Answered.{checks_undecoded}
use Rattle.rpki_external.proofs.verifying.checks_answered.Goals as goal

pub returns-in_err-message-clause-err : goal.returns-in_err-message-clause-err
returns-in_err-message-clause-err c =
    let p = err_from_is_err_and c.from_residual.result c.from_residual.ensures.1 in
    rw (p.1, p.2) (checks_undecoded c.args.octets.now c.args.key.now c.args.answers.now c.in_err-message.field-0.0 c.in_err-message.ensures)
