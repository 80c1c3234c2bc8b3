use Rattle.std.proofs.lemmas.Int.{to_z-of_z}
use Rattle.rpki_c.proofs.Handing.{hands_over}
use Rattle.rpki_c.proofs.receiving.calmizsed_message_explain.Goals as goal

pub returns-clause-answer : goal.returns-clause-answer
returns-clause-answer c =
    let when = c.ranges.when in
    hands_over _ c.explain.result _ _ _ (simp to_z-of_z at c.explain.ensures.ok) (simp to_z-of_z at c.explain.ensures.err) c.hand_over.ensures.given c.hand_over.ensures.refused
