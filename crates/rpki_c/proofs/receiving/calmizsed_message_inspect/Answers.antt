use Rattle.rpki_c.proofs.Handing.{hands_over}
use Rattle.rpki_c.proofs.receiving.calmizsed_message_inspect.Goals as goal

pub returns-clause-answer : goal.returns-clause-answer
returns-clause-answer c =
    hands_over _ c.look.result _ _ _ c.look.ensures.ok c.look.ensures.err c.hand_over.ensures.given c.hand_over.ensures.refused
