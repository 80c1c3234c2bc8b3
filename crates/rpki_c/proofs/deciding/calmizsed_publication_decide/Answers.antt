use Rattle.rpki_c.proofs.Handing.{hands_decision_over}
use Rattle.rpki_c.proofs.deciding.calmizsed_publication_decide.Goals as goal

pub returns-clause-answer : goal.returns-clause-answer
returns-clause-answer c =
    hands_decision_over _ c.decide_query.result _ _ _ c.decide_query.ensures.ok c.decide_query.ensures.err c.hand_decision_over.ensures.given c.hand_decision_over.ensures.refused
