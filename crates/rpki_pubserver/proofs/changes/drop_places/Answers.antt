use Rattle.std.proofs.Common.{◌∙◌, ℕ}
use Rattle.rpki_pubserver.proofs.Emptying.{one_dropped, same_still}
use Rattle.rpki_pubserver.proofs.changes.drop_places.Goals as goal

pub loop-change-preserved : goal.loop-change-preserved
loop-change-preserved c =
    let so_far = c.loop-change.invariant in
    let e = c.change-item.result in
    let i : ℕ = c.loop-change.change-index in
    let uri = c.as_str.ensures.text ∙ c.uri_of.ensures in
    record {
      dropped = one_dropped c.args.changes.now i e c.as_str.result.now c.loop-change.objects c.drop_place.new.self c.loop-change-test.true c.change-item.is uri c.drop_place.ensures.elsewhere so_far.dropped c.drop_place.ensures.dropped;
      elsewhere = same_still c.args.changes.now i e c.as_str.result.now c.loop-change.objects c.drop_place.new.self c.loop-change-test.true c.change-item.is uri c.drop_place.ensures.elsewhere c.args.objects.now so_far.elsewhere;
      same = c.drop_place.ensures.live ∙ so_far.same;
    }
