use Rattle.std.proofs.lemmas.Int.{to_z-of_z}
use Rattle.rpki_c.proofs.Handing.{hands_over}
use Rattle.rpki_c.proofs.setting_up.calmizsed_setup_anchor.Goals as goal

pub returns-clause-answer : goal.returns-clause-answer
returns-clause-answer c =
    let kind = c.ranges.kind in
    hands_over _ c.anchor.result _ _ _ (simp to_z-of_z at c.anchor.ensures.ok) (simp to_z-of_z at c.anchor.ensures.err) c.hand_over.ensures.given c.hand_over.ensures.refused
