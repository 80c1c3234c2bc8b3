use Rattle.std.proofs.lemmas.Int.{to_z-of_z}
use Rattle.rpki_c.proofs.Handing.{hands_receipt_over}
use Rattle.rpki_c.proofs.receiving.calmizsed_message_receive.Goals as goal

pub returns-clause-answer : goal.returns-clause-answer
returns-clause-answer c =
    let kind = c.ranges.kind in
    let when = c.ranges.when in
    let has_last = c.ranges.has_last in
    let last = c.ranges.last in
    hands_receipt_over _ c.receive.result _ _ _ (simp to_z-of_z at c.receive.ensures.ok) (simp to_z-of_z at c.receive.ensures.err) c.hand_receipt_over.ensures.given c.hand_receipt_over.ensures.refused
