use Rattle.rpki_c.proofs.Handing.{hands_over}
use Rattle.rpki_c.proofs.setting_up.calmizsed_anchor_key.Goals as goal

pub returns-clause-answer : goal.returns-clause-answer
returns-clause-answer c =
    hands_over _ c.anchor_key.result _ _ _ c.anchor_key.ensures.ok c.anchor_key.ensures.err c.hand_over.ensures.given c.hand_over.ensures.refused
