use Rattle.rpki_sigmsg.proofs.MadeMessages.{believed_within, again_result}
use Rattle.rpki_sigmsg.proofs.message.SignedMessage.create.Goals as goal

pub returns-clause-believed : goal.returns-clause-believed
returns-clause-believed g c = believed_within _ _ _ _ _ _ _ _ _ c.in-Some.ensures.value c.create_within.ensures.created

pub returns-clause-again : goal.returns-clause-again
returns-clause-again g c = again_result _ _ _ _ _ _ _ _ c.create_within.ensures.created
