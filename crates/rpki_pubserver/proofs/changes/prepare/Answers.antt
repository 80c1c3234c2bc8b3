use Rattle.std.proofs.Common.{◌≡◌, ◌+◌, ◌++◌, ◌∷◌, [], ◌∙◌, ap, map, subst, sym, take, List, Option, ℕ}
use Rattle.std.proofs.lemmas.List.{map-append}
use Rattle.rpki_publication.specs.declared.publish_delta_element.PublishDeltaElement.{PublishDeltaElement}
use Rattle.rpki_pubserver.specs.Places.{HasPlace, HavePlaces, object_of}
use Rattle.rpki_ca.proofs.Stepping.{take_more}
use Rattle.rpki_pubserver.proofs.Emptying.{same_still}
use Rattle.rpki_pubserver.proofs.Keeping.{have_more, one_place_more}
use Rattle.rpki_pubserver.proofs.changes.prepare.Goals as goal

pub loop-change-preserved : goal.loop-change-preserved
loop-change-preserved c =
    let so_far = c.loop-change.invariant in
    let e = c.change-item.result in
    let uri = c.as_str.ensures.text ∙ c.uri_of.ensures in
    let more : take (c.loop-change.change-index + 1) c.args.changes.now ≡ take c.loop-change.change-index c.args.changes.now ++ e ∷ [] = take_more c.args.changes.now c.loop-change.change-index e c.loop-change-test.true c.change-item.is in
    record {
      next = c.in_ok-push.ensures.items
          ∙ ap (λ (l : List (Option (List ℕ))). l ++ c.in_ok-object_of.field-0 ∷ []) so_far.next
          ∙ ap (λ (o : Option (List ℕ)). map object_of (take c.loop-change.change-index c.args.changes.now) ++ o ∷ []) c.in_ok-object_of.ensures
          ∙ sym (map-append object_of (take c.loop-change.change-index c.args.changes.now) (e ∷ []))
          ∙ ap (λ (l : List PublishDeltaElement). map object_of l) (sym more);
      places = subst (λ (l : List PublishDeltaElement). HavePlaces c.make_place.new.self l) (sym more)
          (one_place_more c.make_place.new.self _ e (have_more c.loop-change.objects c.make_place.new.self _ c.make_place.ensures.others so_far.places)
          (subst (λ (u : List ℕ). HasPlace c.make_place.new.self u) uri c.in_ok-make_place.ensures.here));
      elsewhere = same_still c.args.changes.now c.loop-change.change-index e c.as_str.result.now c.loop-change.objects c.make_place.new.self c.loop-change-test.true c.change-item.is uri c.make_place.ensures.elsewhere c.args.objects.now so_far.elsewhere;
      same = c.make_place.ensures.live ∙ so_far.same;
    }

pub returns-in_err-make_place-clause-elsewhere : goal.returns-in_err-make_place-clause-elsewhere
returns-in_err-make_place-clause-elsewhere c =
    same_still c.args.changes.now c.loop-change.change-index c.change-item.result c.as_str.result.now c.loop-change.objects c.make_place.new.self c.loop-change-test.true c.change-item.is (c.as_str.ensures.text ∙ c.uri_of.ensures) c.make_place.ensures.elsewhere c.args.objects.now c.loop-change.invariant.elsewhere

pub returns-in_err-object_of-clause-elsewhere : goal.returns-in_err-object_of-clause-elsewhere
returns-in_err-object_of-clause-elsewhere c =
    same_still c.args.changes.now c.loop-change.change-index c.change-item.result c.as_str.result.now c.loop-change.objects c.make_place.new.self c.loop-change-test.true c.change-item.is (c.as_str.ensures.text ∙ c.uri_of.ensures) c.make_place.ensures.elsewhere c.args.objects.now c.loop-change.invariant.elsewhere

pub returns-in_err-push-clause-elsewhere : goal.returns-in_err-push-clause-elsewhere
returns-in_err-push-clause-elsewhere c =
    same_still c.args.changes.now c.loop-change.change-index c.change-item.result c.as_str.result.now c.loop-change.objects c.make_place.new.self c.loop-change-test.true c.change-item.is (c.as_str.ensures.text ∙ c.uri_of.ensures) c.make_place.ensures.elsewhere c.args.objects.now c.loop-change.invariant.elsewhere
