use Rattle.std.proofs.lemmas.Int.{to_z-of_z}
use Rattle.rpki_c.proofs.Handing.{hands_over}
use Rattle.rpki_c.proofs.finishing.calmizsed_message_finish.Goals as goal

pub returns-clause-answer : goal.returns-clause-answer
returns-clause-answer c =
    let kind = c.ranges.kind in
    let when = c.ranges.when in
    hands_over _ c.finish_message.result _ _ _ (simp to_z-of_z at c.finish_message.ensures.ok) (simp to_z-of_z at c.finish_message.ensures.err) c.hand_over.ensures.given c.hand_over.ensures.refused
