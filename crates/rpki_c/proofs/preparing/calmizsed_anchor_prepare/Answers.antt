use Rattle.std.proofs.lemmas.Int.{to_z-of_z}
use Rattle.rpki_c.proofs.Handing.{hands_over}
use Rattle.rpki_c.proofs.preparing.calmizsed_anchor_prepare.Goals as goal

pub returns-clause-answer : goal.returns-clause-answer
returns-clause-answer c =
    let not_before = c.ranges.not_before in
    let not_after = c.ranges.not_after in
    hands_over _ c.prepare_own.result _ _ _ (simp to_z-of_z at c.prepare_own.ensures.ok) (simp to_z-of_z at c.prepare_own.ensures.err) c.hand_over.ensures.given c.hand_over.ensures.refused
