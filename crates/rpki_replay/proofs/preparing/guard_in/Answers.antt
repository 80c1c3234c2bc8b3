use Rattle.std.proofs.Common.{Err, ap}
use Rattle.rpki_replay.specs.declared.state_text.StateError.{StateError}
use Rattle.rpki_replay.specs.declared.state_text.StateError.TheVariants.{BadState}
use Rattle.rpki_replay.proofs.Lines.{handed_on, lines_more, no_dash_left, not_before_dash, state_more}
use Rattle.rpki_replay.proofs.preparing.guard_in.Goals as goal

pub loop-line-preserved : goal.loop-line-preserved
loop-line-preserved c =
    let read = c.in_ok-add_line.ensures.ok in
    record {
      can = tt;
      finite = tt;
      state = state_more c.loop-line.guard c.add_line.new.self read.0 c.loop-line.invariant.state read.1 read.3 read.4;
      lines = lines_more c.loop-line.guard c.add_line.new.self read.0 c.in-Some.line.now c.loop-line.lines c.next.new.self c.args.lines.now c.loop-line.invariant.lines c.in-Some.ensures.steps read.2 read.4;
    }

pub returns-in_err-add_line-clause-err : goal.returns-in_err-add_line-clause-err
returns-in_err-add_line-clause-err c = λ n peers behind state e.
    not_before_dash c.loop-line.guard c.in-Some.line.now c.as_slice.result.now c.loop-line.lines c.next.new.self c.args.lines.now peers behind c.loop-line.invariant.state c.loop-line.invariant.lines c.in-Some.ensures.steps
    c.if-eq.ensures c.as_slice.ensures (c.in_err-add_line.ensures.bad (ap (λ (e : StateError). Err e) (handed_on c.from_residual.result c.in_err-add_line.field-0.0 BadState n c.from_residual.ensures.1))) state e

pub returns-clause-err : goal.returns-clause-err
returns-clause-err c = λ n peers behind state e. no_dash_left c.loop-line.guard c.loop-line.lines c.args.lines.now peers behind c.loop-line.invariant.state c.loop-line.invariant.lines c.in_default.ensures.steps.0 e
