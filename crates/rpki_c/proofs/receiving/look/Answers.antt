use Rattle.rpki_external.proofs.Saying.{none_inspected}
use Rattle.rpki_c.proofs.receiving.look.Goals as goal

pub returns-in-Err-clause-err : goal.returns-in-Err-clause-err
returns-in-Err-clause-err c = rw c.no_message.ensures (none_inspected c.args.message.now c.in-Err.error c.in-Err.ensures.err)
