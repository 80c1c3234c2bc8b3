use Rattle.std.proofs.Common.{◌<◌, ◌≤◌, length, arith}
use Rattle.rpki_der.proofs.Reading.{not_ended}
use Rattle.rpki_der.proofs.Counting.{takes_err}
use Rattle.rpki_der.proofs.OnwardWalks.{below_first, below_leave, below_on, below_done}
use Rattle.rpki_der.proofs.Joining.{above_first, loop_first, above_leave, loop_leave, above_on, loop_on, loop_done, loop_refused}
use Rattle.rpki_der.proofs.octets.take_joined_counted.Goals as goal

pub segments-init : goal.segments-init
segments-init g c = record {
  above = above_first _ c.args.cursor.now c.segment.new.cursor c.new-octets.result.items c.segment.new.octets.items c.depth-base.result c.depth-base.ensures c.in_ok-segment.ensures.place;
  joins = loop_first _ _ _ _ _ _ c.depth-base.ensures c.new-octets.ensures.items c.in_ok-segment.ensures.place;
  later = c.in_ok-segment.ensures.later;
  below = below_first _ _ _ _ c.in_ok-segment.ensures.counted c.in_ok-segment.ensures.most;
}

pub segments-preserved-in-Continue-branch-2 : goal.segments-preserved-in-Continue-branch-2
segments-preserved-in-Continue-branch-2 g c =
    let lt : c.depth-base.result < length c.segments.cursor.levels = omega (arith, c.depth.ensures, c.segments-test.true) in
    record {
      above = above_leave c.segments.cursor c.leave_counted.new.self c.depth-base.result lt c.in_ok-leave_counted.ensures.place;
      joins = loop_leave _ _ _ _ _ _ lt c.segments.invariant.joins c.in_ok-leave_counted.ensures.place;
      later = omega (arith, c.in_ok-leave_counted.ensures.ticks, c.segments.invariant.later);
      below = below_leave _ _ _ _ _ _ c.segments.invariant.below (rw c.depth-base.ensures at lt) c.in_ok-leave_counted.ensures.place c.in_ok-leave_counted.ensures.ticks;
    }

pub segments-preserved : goal.segments-preserved
segments-preserved g c =
    let lt : c.depth-base.result < length c.segments.cursor.levels = omega (arith, c.depth.ensures, c.segments-test.true) in
    record {
      above = above_on _ c.segments.cursor c.segment-else-end.new.cursor c.segments.octets.items c.segment-else-end.new.octets.items c.depth-base.result c.segments.invariant.above c.in_ok-segment-2.ensures.place;
      joins = loop_on _ _ _ _ _ _ _ lt c.segments.invariant.joins (not_ended c.if-end.ensures) c.in_ok-segment-2.ensures.place;
      later = omega (arith, c.in_ok-segment-2.ensures.later, c.segments.invariant.later);
      below = below_on _ _ _ _ _ _ c.segments.invariant.below (rw c.depth-base.ensures at lt) c.in_ok-segment-2.ensures.counted c.in_ok-segment-2.ensures.most;
    }

pub returns-in_err-segment-2 : goal.returns-in_err-segment-2
returns-in_err-segment-2 g c =
    let lt : c.depth-base.result < length c.segments.cursor.levels = omega (arith, c.depth.ensures, c.segments-test.true) in
    let most = c.segments.invariant.below.most in
    takes_err _ _ _ _ _ _ _ _ _ c.from_residual-in_err-segment-2.ensures.1 (record { refuses = loop_refused _ _ _ _ _ _ lt c.segments.invariant.joins (not_ended c.if-end.ensures) c.in_err-segment-2.ensures.place; least = omega (arith, c.segments.invariant.later, c.in_err-segment-2.ensures.later); most = omega (arith, most, c.in_err-segment-2.ensures.refused) })

pub returns : goal.returns
returns g c =
    let le : length c.segments.cursor.levels ≤ c.depth-base.result = omega (arith, c.depth.ensures, c.segments-test.false) in
    below_done _ _ _ _ _ _ c.segments.invariant.below (rw c.depth-base.ensures at le) (loop_done _ _ _ _ _ le c.segments.invariant.joins)
