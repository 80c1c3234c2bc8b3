use Rattle.rpki_c.proofs.Handing.{hands_over}
use Rattle.rpki_c.proofs.preparing.calmizsed_request_prepare.Goals as goal

pub returns-clause-answer : goal.returns-clause-answer
returns-clause-answer c =
    hands_over _ c.prepare_for_key.result _ _ _ c.prepare_for_key.ensures.ok c.prepare_for_key.ensures.err c.hand_over.ensures.given c.hand_over.ensures.refused
