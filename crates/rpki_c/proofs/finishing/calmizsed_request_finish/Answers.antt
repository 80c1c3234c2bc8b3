use Rattle.rpki_c.proofs.Handing.{hands_over}
use Rattle.rpki_c.proofs.finishing.calmizsed_request_finish.Goals as goal

pub returns-clause-answer : goal.returns-clause-answer
returns-clause-answer c =
    hands_over _ c.finish_for_key.result _ _ _ c.finish_for_key.ensures.ok c.finish_for_key.ensures.err c.hand_over.ensures.given c.hand_over.ensures.refused
