use Rattle.std.proofs.Common.{inl, subst, sym}
use Rattle.rpki_ca.specs.Lines.{StopsForMemory}
use Rattle.rpki_ca.proofs.Outputs.{ends_lines}
use Rattle.rpki_replay.specs.Answers.{AreAllAnswered, AreFirstAnswered}
use Rattle.rpki_replay.specs.Messages.{AreSent}
use Rattle.rpki_replay.proofs.running.run_messages.Goals as goal

pub returns-in-Ok-Some : goal.returns-in-Ok-Some
returns-in-Ok-Some g c = inl (record {
  messages = c.deref.result.now;
  are = subst (AreSent c.args.lines) (sym c.deref.ensures.value) (rw c.in-Ok-Some.field-0-is at c.in-Ok-Some.ensures.some);
  ends = ends_lines g.O.Sink.written g.O.Sink.faults c.args.output.now c.answer_all-answered.new.output c.finish_lines.new.output
      (AreAllAnswered g.P.Scheme.checks c.args.when c.args.guard.now c.deref.result.now) (AreFirstAnswered g.P.Scheme.checks c.args.when c.args.guard.now c.deref.result.now) (StopsForMemory (AreFirstAnswered g.P.Scheme.checks c.args.when c.args.guard.now c.deref.result.now)) c.answer_all-answered.result c.finish_lines.result.0
      c.answer_all-answered.ensures c.finish_lines.ensures.done c.finish_lines.ensures.stopped;
})
