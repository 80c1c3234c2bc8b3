use Rattle.rpki_c.proofs.Unread.{nothing_asked}
use Rattle.rpki_c.proofs.asking.asked.Goals as goal

pub returns-in-Err-clause-err : goal.returns-in-Err-clause-err
returns-in-Err-clause-err c = rw c.no_message.ensures (nothing_asked c.args.octets.now c.in-Err.error c.in-Err.ensures.err)
