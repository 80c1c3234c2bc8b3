use Rattle.std.proofs.Common.{Ok, Err}
use Rattle.std.proofs.lemmas.Int.{to_z-of_z}
use Rattle.std.proofs.lemmas.Result.{IfOk-weaker, IfErr-weaker}
use Rattle.rpki_c.proofs.Handing.{hands_over}
use Rattle.rpki_c.proofs.Refusing.{refuses}
use Rattle.rpki_c.proofs.deciding.calmizsed_publication_refuse.Goals as goal

pub returns-clause-answer : goal.returns-clause-answer
returns-clause-answer c =
    let status = c.ranges.status in
    let ok = simp to_z-of_z at c.refuse.ensures.ok in
    let err = simp to_z-of_z at c.refuse.ensures.err in
    hands_over _ c.refuse.result _ _ _ (IfOk-weaker c.refuse.result _ _ (λ text so. refuses _ (Ok text.items) so) ok) (IfErr-weaker c.refuse.result _ _ (λ e so other. refuses _ (Err e) (so other)) err) c.hand_over.ensures.given c.hand_over.ensures.refused
