use Rattle.std.proofs.lemmas.Int.{to_z-of_z}
use Rattle.rpki_c.proofs.Handing.{hands_over}
use Rattle.rpki_c.proofs.asking.calmizsed_setup_questions.Goals as goal

pub returns-clause-answer : goal.returns-clause-answer
returns-clause-answer c =
    let kind = c.ranges.kind in
    hands_over _ c.ask_setup.result _ _ _ (simp to_z-of_z at c.ask_setup.ensures.ok) (simp to_z-of_z at c.ask_setup.ensures.err) c.hand_over.ensures.given c.hand_over.ensures.refused
