use Rattle.rpki_c.proofs.Handing.{hands_over}
use Rattle.rpki_c.proofs.asking.calmizsed_request_questions.Goals as goal

pub returns-clause-answer : goal.returns-clause-answer
returns-clause-answer c =
    hands_over _ c.ask_request.result _ _ _ c.ask_request.ensures.ok c.ask_request.ensures.err c.hand_over.ensures.given c.hand_over.ensures.refused
