use Rattle.rpki_sigmsg.proofs.Loosening.{message_begins, view_begins}
use Rattle.rpki_sigmsg.proofs.law.strict_messages_are_loose.Goals as goal

pub returns-clause-message : goal.returns-clause-message
returns-clause-message c = message_begins

pub returns-clause-view : goal.returns-clause-view
returns-clause-view c = view_begins
