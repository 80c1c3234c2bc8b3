use Rattle.rpki_ca.specs.Lines.{StopsForMemory, lines_of}
use Rattle.rpki_ca.proofs.Outputs.{ends_lines}
use Rattle.rpki_archive.specs.Checking.{AreAllExplanations, AreAllVerdicts, AreFirstExplanations, AreFirstVerdicts}
use Rattle.rpki_archive.proofs.checking.check_read.Goals as goal

pub returns-in-Batch : goal.returns-in-Batch
returns-in-Batch g c = rw c.in-Batch.is
    (ends_lines g.O.Sink.written g.O.Sink.faults c.args.output.now c.judge_all-judged.new.output c.finish_lines.new.output
    (AreAllVerdicts g.P.Scheme.checks (lines_of c.args.input.now)) (AreFirstVerdicts g.P.Scheme.checks (lines_of c.args.input.now)) (StopsForMemory (AreFirstVerdicts g.P.Scheme.checks (lines_of c.args.input.now))) c.judge_all-judged.result c.finish_lines.result.0
    c.judge_all-judged.ensures c.finish_lines.ensures.done c.finish_lines.ensures.stopped)

pub returns-in-Explain : goal.returns-in-Explain
returns-in-Explain g c = rw c.in-Explain.is
    (ends_lines g.O.Sink.written g.O.Sink.faults c.args.output.now c.explain_all-explained.new.output c.finish_lines-in-Explain.new.output
    (AreAllExplanations g.P.Scheme.checks (lines_of c.args.input.now)) (AreFirstExplanations g.P.Scheme.checks (lines_of c.args.input.now)) (StopsForMemory (AreFirstExplanations g.P.Scheme.checks (lines_of c.args.input.now))) c.explain_all-explained.result c.finish_lines-in-Explain.result.0
    c.explain_all-explained.ensures c.finish_lines-in-Explain.ensures.done c.finish_lines-in-Explain.ensures.stopped)
