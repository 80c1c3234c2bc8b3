use Rattle.std.proofs.Common.{◌∙◌, inl, inr, map, refl}
use Rattle.rpki_ca.specs.Lines.{StopsForMemory, answer_lines, lines_of}
use Rattle.rpki_ca.specs.Seen.{seen}
use Rattle.rpki_ca.specs.declared.lines.Stop.TheVariants.{Refused, WriteFault}
use Rattle.rpki_ca.specs.declared.refusals.Refusal.TheVariants.{OutOfMemory}
use Rattle.rpki_ca.proofs.Outputs.{failed_later, one_more_written, part_behind, part_of_more, steady_both}
use Rattle.std.proofs.KnownBytes.{Appends-trans}
use Rattle.rpki_archive.specs.Checking.{AreAllVerdicts, AreFirstVerdicts}
use Rattle.rpki_archive.specs.Verdict.{verdict_text}
use Rattle.rpki_archive.proofs.SoFar.{all_judged, few_accepted, few_lines, line_is, more_judged, one_judged, so_far_judged}
use Rattle.rpki_archive.proofs.checking.judge_all.Goals as goal
use Rattle.rpki_ca.proofs.Stepping.{stopped_so}

pub judge_line-requires : goal.judge_line-requires
judge_line-requires g c =
    let so_far = c.loop-line.invariant.so_far in
    line_is c.args.input.now so_far.before c.in-Some.line.now c.loop-line.line-iterator c.next.new.self c.requires so_far.cut c.in-Some.ensures.steps

pub returns-in_err-judged : goal.returns-in_err-judged
returns-in_err-judged g c =
    let so_far = c.loop-line.invariant.so_far in
    stopped_so (AreAllVerdicts g.P.Scheme.checks (lines_of c.args.input.now)) (AreFirstVerdicts g.P.Scheme.checks (lines_of c.args.input.now)) (StopsForMemory (AreFirstVerdicts g.P.Scheme.checks (lines_of c.args.input.now))) c.from_residual.result (Refused OutOfMemory)
    (seen g.O.Sink.written g.O.Sink.faults c.args.output.now c.loop-line.output) c.from_residual.ensures.1
    (record { texts = map verdict_text so_far.answers; stopped = (so_far_judged g.P.Scheme.checks (lines_of c.args.input.now) c.loop-line.line-iterator c.loop-line.total.lines c.loop-line.total.accepted (g.O.Sink.written c.args.output.now) (g.O.Sink.written c.loop-line.output) so_far, refl); whole = so_far.whole; steady = c.loop-line.invariant.steady })

pub returns-in_err-write_all : goal.returns-in_err-write_all
returns-in_err-write_all g c =
    let so_far = c.loop-line.invariant.so_far in
    let said = c.in_ok-judged.ensures in
    let part = part_of_more g.O.Sink.written g.O.Sink.faults c.args.output.now c.loop-line.output c.write_all.new.sink (map verdict_text so_far.answers) (verdict_text said.0) c.as_bytes.result.now (c.as_bytes.ensures.value ∙ said.2) so_far.whole c.loop-line.invariant.steady
    c.in_err-write_all.ensures.err c.in_err-write_all.ensures.cause.failed in
    stopped_so (AreAllVerdicts g.P.Scheme.checks (lines_of c.args.input.now)) (AreFirstVerdicts g.P.Scheme.checks (lines_of c.args.input.now)) (StopsForMemory (AreFirstVerdicts g.P.Scheme.checks (lines_of c.args.input.now))) c.from_residual-in_err-write_all.result WriteFault
    (seen g.O.Sink.written g.O.Sink.faults c.args.output.now c.write_all.new.sink) c.from_residual-in_err-write_all.ensures.1
    (inl (record {
      texts = map verdict_text so_far.answers;
      last = verdict_text said.0;
      are = more_judged g.P.Scheme.checks (lines_of c.args.input.now) c.loop-line.line-iterator c.next.new.self c.loop-line.total.lines c.loop-line.total.accepted (g.O.Sink.written c.args.output.now) (g.O.Sink.written c.loop-line.output) c.in-Some.line.now said.0 so_far c.in-Some.ensures.steps said.1;
      part = part.0;
      failed = part.1;
    }))

pub one_more-total-requires-clause-lines : goal.one_more-total-requires-clause-lines
one_more-total-requires-clause-lines g c =
    few_lines g.P.Scheme.checks c.args.input.now c.in-Some.line.now c.loop-line.line-iterator c.next.new.self c.loop-line.total.lines c.loop-line.total.accepted (g.O.Sink.written c.args.output.now) (g.O.Sink.written c.loop-line.output) c.loop-line.invariant.so_far c.requires c.in-Some.ensures.steps

pub one_more-total-requires-clause-few : goal.one_more-total-requires-clause-few
one_more-total-requires-clause-few g c = few_accepted g.P.Scheme.checks (lines_of c.args.input.now) c.loop-line.line-iterator c.loop-line.total.lines c.loop-line.total.accepted (g.O.Sink.written c.args.output.now) (g.O.Sink.written c.loop-line.output) c.loop-line.invariant.so_far

pub loop-line-preserved : goal.loop-line-preserved
loop-line-preserved g c =
    let so_far = c.loop-line.invariant.so_far in
    let said = c.in_ok-judged.ensures in
    let written = one_more_written g.O.Sink.written g.O.Sink.faults c.args.output.now c.loop-line.output c.write_all.new.sink (map verdict_text so_far.answers) (verdict_text said.0) c.as_bytes.result.now (c.as_bytes.ensures.value ∙ said.2) so_far.whole c.loop-line.invariant.steady
    c.in_ok-write_all.ensures.ok c.in_ok-write_all.ensures.kept in
    record {
      steady = written.1;
      so_far = one_judged g.P.Scheme.checks (lines_of c.args.input.now) c.loop-line.line-iterator c.next.new.self c.loop-line.total.lines c.loop-line.total.accepted c.one_more-total.result.lines c.one_more-total.result.accepted (g.O.Sink.written c.args.output.now) (g.O.Sink.written c.loop-line.output) (g.O.Sink.written c.write_all.new.sink) c.in-Some.line.now said.0 c.in_ok-judged.judged.accepted so_far
          c.in-Some.ensures.steps said.1 said.3 c.one_more-total.ensures.lines c.one_more-total.ensures.accepted written.0;
    }

pub returns-in_err-closing : goal.returns-in_err-closing
returns-in_err-closing g c =
    let so_far = c.loop-line.invariant.so_far in
    stopped_so (AreAllVerdicts g.P.Scheme.checks (lines_of c.args.input.now)) (AreFirstVerdicts g.P.Scheme.checks (lines_of c.args.input.now)) (StopsForMemory (AreFirstVerdicts g.P.Scheme.checks (lines_of c.args.input.now))) c.from_residual-in_err-closing.result (Refused OutOfMemory)
    (seen g.O.Sink.written g.O.Sink.faults c.args.output.now c.loop-line.output) c.from_residual-in_err-closing.ensures.1
    (record { texts = map verdict_text so_far.answers; stopped = (so_far_judged g.P.Scheme.checks (lines_of c.args.input.now) c.loop-line.line-iterator c.loop-line.total.lines c.loop-line.total.accepted (g.O.Sink.written c.args.output.now) (g.O.Sink.written c.loop-line.output) so_far, refl); whole = so_far.whole; steady = c.loop-line.invariant.steady })

pub returns-in_err-write_all-2 : goal.returns-in_err-write_all-2
returns-in_err-write_all-2 g c =
    let so_far = c.loop-line.invariant.so_far in
    stopped_so (AreAllVerdicts g.P.Scheme.checks (lines_of c.args.input.now)) (AreFirstVerdicts g.P.Scheme.checks (lines_of c.args.input.now)) (StopsForMemory (AreFirstVerdicts g.P.Scheme.checks (lines_of c.args.input.now))) c.from_residual-in_err-write_all-2.result WriteFault
    (seen g.O.Sink.written g.O.Sink.faults c.args.output.now c.write_all-2.new.sink) c.from_residual-in_err-write_all-2.ensures.1
    (inr (record {
      texts = map verdict_text so_far.answers;
      closing = c.as_bytes-2.result.now;
      are = all_judged g.P.Scheme.checks (lines_of c.args.input.now) c.loop-line.line-iterator c.loop-line.total.lines c.loop-line.total.accepted (g.O.Sink.written c.args.output.now) (g.O.Sink.written c.loop-line.output) c.as_bytes-2.result.now so_far c.in-None.ensures.steps.0 (c.as_bytes-2.ensures.value ∙ c.in_ok-closing.ensures);
      part = part_behind (g.O.Sink.written c.args.output.now) (g.O.Sink.written c.loop-line.output) (g.O.Sink.written c.write_all-2.new.sink) (map verdict_text so_far.answers) c.as_bytes-2.result.now so_far.whole c.in_err-write_all-2.ensures.err;
      failed = failed_later g.O.Sink.written g.O.Sink.faults c.args.output.now c.loop-line.output c.write_all-2.new.sink c.loop-line.invariant.steady c.in_err-write_all-2.ensures.cause.failed;
    }))

pub returns : goal.returns
returns g c =
    let so_far = c.loop-line.invariant.so_far in
    record {
      texts = map verdict_text so_far.answers;
      closing = c.as_bytes-2.result.now;
      are = all_judged g.P.Scheme.checks (lines_of c.args.input.now) c.loop-line.line-iterator c.loop-line.total.lines c.loop-line.total.accepted (g.O.Sink.written c.args.output.now) (g.O.Sink.written c.loop-line.output) c.as_bytes-2.result.now so_far c.in-None.ensures.steps.0 (c.as_bytes-2.ensures.value ∙ c.in_ok-closing.ensures);
      whole = Appends-trans (g.O.Sink.written c.args.output.now) (g.O.Sink.written c.loop-line.output) (g.O.Sink.written c.write_all-2.new.sink) (answer_lines (map verdict_text so_far.answers)) c.as_bytes-2.result.now so_far.whole c.in_ok-write_all-2.ensures.ok;
      steady = steady_both g.O.Sink.written g.O.Sink.faults c.args.output.now c.loop-line.output c.write_all-2.new.sink c.loop-line.invariant.steady c.in_ok-write_all-2.ensures.kept;
    }
