use Rattle.rpki_c.proofs.Unread.{no_content}
use Rattle.rpki_c.proofs.receiving.content.Goals as goal

pub returns-in-Err-clause-err : goal.returns-in-Err-clause-err
returns-in-Err-clause-err c = rw c.no_message.ensures (no_content c.args.message.now c.in-Err.error c.in-Err.ensures)
