use Rattle.rpki_sigmsg.proofs.HeldMessages.{message_held}
use Rattle.rpki_sigmsg.proofs.Again.{begins_again, begins_loosely}
use Rattle.rpki_sigmsg.proofs.law.rewritten_messages_are_read.Goals as goal

pub returns-clause-again : goal.returns-clause-again
returns-clause-again c mode v m rest l e h = begins_again mode m rest (message_held mode v m l e) h

pub returns-clause-loosely : goal.returns-clause-loosely
returns-clause-loosely c mode v m rest l e h = begins_loosely mode m rest (message_held mode v m l e) h
