use Rattle.std.proofs.Common.{◌∙◌, inl, refl}
use Rattle.rpki_ca.specs.Lines.{StopsForMemory, lines_of}
use Rattle.rpki_ca.specs.Seen.{seen}
use Rattle.rpki_ca.specs.declared.lines.Stop.TheVariants.{Refused, WriteFault}
use Rattle.rpki_ca.specs.declared.refusals.Refusal.TheVariants.{OutOfMemory}
use Rattle.rpki_ca.proofs.Outputs.{one_more_written, part_of_more}
use Rattle.rpki_archive.specs.Checking.{AreAllExplanations, AreFirstExplanations}
use Rattle.rpki_archive.proofs.SoFar.{first_explained, line_is, more_explained, one_explained}
use Rattle.rpki_archive.proofs.checking.explain_all.Goals as goal
use Rattle.rpki_ca.proofs.Stepping.{stopped_so}

pub explanation_line-requires : goal.explanation_line-requires
explanation_line-requires g c =
    let so_far = c.loop-line.invariant.so_far in
    line_is c.args.input.now so_far.before c.in-Some.line.now c.loop-line.line-iterator c.next.new.self c.requires so_far.cut c.in-Some.ensures.steps

pub returns-in_err-explanation : goal.returns-in_err-explanation
returns-in_err-explanation g c =
    let so_far = c.loop-line.invariant.so_far in
    stopped_so (AreAllExplanations g.P.Scheme.checks (lines_of c.args.input.now)) (AreFirstExplanations g.P.Scheme.checks (lines_of c.args.input.now)) (StopsForMemory (AreFirstExplanations g.P.Scheme.checks (lines_of c.args.input.now))) c.from_residual.result (Refused OutOfMemory)
    (seen g.O.Sink.written g.O.Sink.faults c.args.output.now c.loop-line.output) c.from_residual.ensures.1
    (record { texts = so_far.texts; stopped = (first_explained g.P.Scheme.checks (lines_of c.args.input.now) so_far.before c.loop-line.line-iterator so_far.texts so_far.cut so_far.are, refl); whole = so_far.whole; steady = c.loop-line.invariant.steady })

pub returns-in_err-write_all : goal.returns-in_err-write_all
returns-in_err-write_all g c =
    let so_far = c.loop-line.invariant.so_far in
    let said = c.in_ok-explanation.ensures in
    let part = part_of_more g.O.Sink.written g.O.Sink.faults c.args.output.now c.loop-line.output c.write_all.new.sink so_far.texts said.0 c.as_bytes.result.now (c.as_bytes.ensures.value ∙ said.2) so_far.whole c.loop-line.invariant.steady
    c.in_err-write_all.ensures.err c.in_err-write_all.ensures.cause.failed in
    stopped_so (AreAllExplanations g.P.Scheme.checks (lines_of c.args.input.now)) (AreFirstExplanations g.P.Scheme.checks (lines_of c.args.input.now)) (StopsForMemory (AreFirstExplanations g.P.Scheme.checks (lines_of c.args.input.now))) c.from_residual-in_err-write_all.result WriteFault
    (seen g.O.Sink.written g.O.Sink.faults c.args.output.now c.write_all.new.sink) c.from_residual-in_err-write_all.ensures.1
    (inl (record {
      texts = so_far.texts;
      last = said.0;
      are = more_explained g.P.Scheme.checks (lines_of c.args.input.now) c.loop-line.line-iterator c.next.new.self (g.O.Sink.written c.args.output.now) (g.O.Sink.written c.loop-line.output) c.in-Some.line.now said.0 so_far c.in-Some.ensures.steps said.1;
      part = part.0;
      failed = part.1;
    }))

pub loop-line-preserved : goal.loop-line-preserved
loop-line-preserved g c =
    let so_far = c.loop-line.invariant.so_far in
    let said = c.in_ok-explanation.ensures in
    let written = one_more_written g.O.Sink.written g.O.Sink.faults c.args.output.now c.loop-line.output c.write_all.new.sink so_far.texts said.0 c.as_bytes.result.now (c.as_bytes.ensures.value ∙ said.2) so_far.whole c.loop-line.invariant.steady
    c.in_ok-write_all.ensures.ok c.in_ok-write_all.ensures.kept in
    record {
      steady = written.1;
      so_far = one_explained g.P.Scheme.checks (lines_of c.args.input.now) c.loop-line.line-iterator c.next.new.self (g.O.Sink.written c.args.output.now) (g.O.Sink.written c.loop-line.output) (g.O.Sink.written c.write_all.new.sink) c.in-Some.line.now said.0 so_far c.in-Some.ensures.steps said.1 written.0;
    }
