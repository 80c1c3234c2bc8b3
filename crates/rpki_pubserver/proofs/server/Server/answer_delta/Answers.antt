use Rattle.std.proofs.Common.{◌≡◌, true, List, ℕ, sym, subst}
use Rattle.rpki_publication.specs.declared.publish_delta_element.PublishDeltaElement.{PublishDeltaElement}
use Rattle.rpki_pubserver.specs.Places.{IsEmptyAt, IsSameElsewhere, has_change, live}
use Rattle.rpki_pubserver.specs.Store.{LieUnder}
use Rattle.rpki_pubserver.proofs.Emptying.{none_empty_behind}
use Rattle.rpki_pubserver.proofs.Replied.{lie_answered}
use Rattle.rpki_pubserver.proofs.server.Server.answer_delta.Goals as goal

pub invariant_of-self : goal.invariant_of-self
invariant_of-self g c =
    let before = c.self.inside.objects in
    let between = c.answer_changes-answer.new.objects in
    let after = c.drop_places.new.objects in
    let delta = c.args.delta.now in
    let answered = c.answer_changes-answer.ensures in
    let kept = subst (λ (l : List PublishDeltaElement). IsSameElsewhere l between after) c.elements.ensures c.drop_places.ensures.elsewhere in
    let dropped = subst (λ (l : List PublishDeltaElement). (uri : List ℕ) → has_change l uri ≡ true → IsEmptyAt after uri → ⊥) c.elements.ensures c.drop_places.ensures.dropped in (
      subst (LieUnder c.self.inside.base) (sym c.drop_places.ensures.live)
          (lie_answered c.self.inside.base (live before) (live between) delta c.answer_changes-answer.result answered.changed answered.unchanged c.self.invariant.0),
      none_empty_behind delta before between after c.self.invariant.1 answered.elsewhere kept dropped,
    )
