use Rattle.rpki_c.proofs.Handing.{hands_over}
use Rattle.rpki_c.proofs.reading.calmizsed_key_identifier.Goals as goal

pub returns-clause-answer : goal.returns-clause-answer
returns-clause-answer c =
    hands_over _ c.identifier.result _ _ _ c.identifier.ensures.ok c.identifier.ensures.err c.hand_over.ensures.given c.hand_over.ensures.refused
