use Rattle.std.proofs.Common.{◌∙◌, subst, List}
use Rattle.std.proofs.lemmas.List.{take_all}
use Rattle.rpki_publication.specs.declared.publish_delta_element.PublishDeltaElement.{PublishDeltaElement}
use Rattle.rpki_pubserver.specs.Deciding.{AreKnown}
use Rattle.rpki_pubserver.specs.Places.{live}
use Rattle.rpki_pubserver.proofs.Live.{live_ordered}
use Rattle.rpki_pubserver.proofs.Placing.{placed_sorted}
use Rattle.rpki_pubserver.proofs.Telling.{all_agree, all_known_more, so_more, told_at}
use Rattle.rpki_pubserver.proofs.objects.Objects.told.Goals as goal

pub loop-change-preserved : goal.loop-change-preserved
loop-change-preserved c =
    let uri = c.as_str-uri.result.now in
    let told = told_at c.loop-change.told c.tell.new.self uri c.hash_at.result c.in_ok-tell.ensures.here c.in_ok-tell.ensures.first c.in_ok-tell.ensures.elsewhere in
    record {
      known = all_known_more c.loop-change.told c.tell.new.self uri c.hash_at.result told c.args.changes.now c.loop-change.change-index c.change-item.result c.loop-change-test.true c.change-item.is
          (c.as_str-uri.ensures.text ∙ c.uri_of.ensures) c.loop-change.invariant.known;
      so = so_more c.loop-change.told c.tell.new.self uri c.hash_at.result told (live c.args.self.now) c.hash_at.ensures c.loop-change.invariant.so;
    }

pub returns-clause-told : goal.returns-clause-told
returns-clause-told c =
    let whole = take_all c.loop-change.change-index c.args.changes.now c.loop-change-test.false in
    all_agree (live c.args.self.now) c.loop-change.told c.args.changes.now (subst (λ (l : List PublishDeltaElement). AreKnown c.loop-change.told l) whole c.loop-change.invariant.known) c.loop-change.invariant.so

pub returns-clause-ordered : goal.returns-clause-ordered
returns-clause-ordered c = live_ordered c.args.self.now (placed_sorted c.self.inside.places.entries c.args.self.now c.self.view_is c.self.invariant)

pub returns-in_err-tell-clause-ordered : goal.returns-in_err-tell-clause-ordered
returns-in_err-tell-clause-ordered c = live_ordered c.args.self.now (placed_sorted c.self.inside.places.entries c.args.self.now c.self.view_is c.self.invariant)
