use Rattle.rpki_external.proofs.Saying.{none_asked}
use Rattle.rpki_external.proofs.answering.ask_message.Goals as goal

pub returns-in-Err-clause-err : goal.returns-in-Err-clause-err
returns-in-Err-clause-err c = rw c.no_message.ensures (none_asked c.args.octets.now c.args.keys.now c.in-Err.error c.in-Err.ensures.err)
