use Rattle.std.proofs.Common.{sym, ap, refl, ◌∙◌, Err, arith}
use Rattle.std.proofs.lemmas.Result.{err_from_is_err_and}
use Rattle.rpki_der.proofs.Walks.{ended_last, went_on_last, refused_last}
use Rattle.rpki_der.proofs.ExactWalks.{exact_ended_last, exact_on_last, passed_end_last, exact_finished}
use Rattle.rpki_der.proofs.Rooms.{room_out_last}
use Rattle.rpki_der.proofs.Stops.{passed_none, passed_one, passed_out}
use Rattle.rpki_der.proofs.walk.skip_levels.Goals as goal

pub levels-init : goal.levels-init
levels-init g c = record { onward = λ final p. p; counted = λ final n k. (n, k, refl); later = omega arith; most = omega arith; passed = passed_none _ _ _ _; room = c.requires.room }

pub levels-preserved-in-Some-level_end : goal.levels-preserved-in-Some-level_end
levels-preserved-in-Some-level_end g c =
    let last = c.in-Some.ensures.some in
    let passed = passed_end_last c.levels.opened _ _ _ last c.in-Some-level_end.ensures.found in
    rw (c.pop.ensures) (record {
      onward = ended_last _ _ _ c.levels.opened _ _ _ last c.levels.invariant.onward c.in-Some-level_end.ensures.found;
      counted = exact_ended_last _ _ _ c.levels.opened _ _ _ _ _ _ last c.levels.invariant.counted c.in-Some-level_end.ensures.found c.tick_mark.ensures;
      later = omega (arith, c.tick_mark.ensures, c.levels.invariant.later);
      most = omega (arith, c.tick_mark.ensures, passed, c.levels.invariant.most);
      room = room_out_last _ _ c.levels.opened _ last c.in-Some-level_end.ensures.found c.levels.invariant.room;
      passed = passed_out _ _ _ _ _ c.levels.opened _ _ _ _ last c.levels.invariant.passed c.in-Some-level_end.ensures.found c.tick_mark.ensures;
    })

pub returns-in_err-here-in-None-clause-malformed :
    goal.returns-in_err-here-in-None-clause-malformed
returns-in_err-here-in-None-clause-malformed g c =
    λ e. let last = c.in-Some.ensures.some in
    let p = err_from_is_err_and c.from_residual.result c.from_residual.ensures.1 in
    refused_last _ _ _ c.levels.opened _ _ last c.levels.invariant.onward c.in-None.ensures.none (c.in_err-here-in-None.ensures.malformed (ap Err (sym p.2) ∙ sym p.1 ∙ e))

pub levels-preserved : goal.levels-preserved
levels-preserved g c =
    let last = c.in-Some.ensures.some in
    record {
      onward = went_on_last _ _ _ c.levels.opened _ _ _ _ last c.levels.invariant.onward c.in-None.ensures.none c.in_ok-here-in-None.ensures.ok;
      counted = exact_on_last _ _ _ c.levels.opened _ _ _ _ _ _ _ last c.levels.invariant.counted c.in_ok-here-in-None.ensures.counted;
      later = omega (arith, c.in_ok-here-in-None.ensures.ticks, c.levels.invariant.later);
      most = omega (arith, c.in_ok-here-in-None.ensures.passed, c.in_ok-here-in-None.ensures.ticks, c.levels.invariant.most);
      room = c.in_ok-here-in-None.ensures.room;
      passed = passed_one _ _ _ _ _ _ _ _ _ _ c.levels.invariant.passed c.in_ok-here-in-None.ensures.header c.in_ok-here-in-None.ensures.ticks;
    }

pub returns-clause-ok : goal.returns-clause-ok
returns-clause-ok g c =
    exact_finished _ _ _ _ _ _ _ c.in_default.ensures.none c.levels.invariant.counted
