use Rattle.std.proofs.Common.{◌+◌, ◌≤◌, ◌∷◌, ◌++◌, ◌∙◌, [], arith, inl, inr, length, refl}
use Rattle.rpki_ca.specs.declared.lines.Stop.TheVariants.{Refused, WriteFault}
use Rattle.rpki_ca.specs.declared.refusals.Refusal.TheVariants.{OutOfMemory}
use Rattle.rpki_ca.specs.Lines.{StopsForMemory}
use Rattle.rpki_ca.specs.Seen.{seen}
use Rattle.rpki_ca.proofs.Outputs.{failed_later, one_more_written, part_behind, part_of_more}
use Rattle.rpki_replay.specs.Answers.{AreAllAnswered, AreFirstAnswered, IsGuardAnswered, closing_text}
use Rattle.rpki_ca.proofs.Stepping.{all_so, first_so, one_more_so, stopped_so}
use Rattle.rpki_replay.proofs.running.answer_all.Goals as goal

pub returns-in_err-line : goal.returns-in_err-line
returns-in_err-line g c =
    let so_far = c.loop-sent.invariant.texts in
    let within : c.loop-sent.sent-index ≤ length c.args.messages.now = omega arith in
    stopped_so (AreAllAnswered g.P.Scheme.checks c.args.when c.args.guard.now c.args.messages.now) (AreFirstAnswered g.P.Scheme.checks c.args.when c.args.guard.now c.args.messages.now) (StopsForMemory (AreFirstAnswered g.P.Scheme.checks c.args.when c.args.guard.now c.args.messages.now)) c.from_residual.result (Refused OutOfMemory)
    (seen g.O.Sink.written g.O.Sink.faults c.args.output.now c.loop-sent.output) c.from_residual.ensures.1
    (record { texts = so_far.0; stopped = (first_so (IsGuardAnswered g.P.Scheme.checks c.args.when) c.args.guard.now c.args.messages.now c.loop-sent.sent-index so_far.0 c.loop-sent.guard within so_far.1, refl); whole = so_far.2; steady = c.loop-sent.invariant.steady })

pub returns-in_err-write_all : goal.returns-in_err-write_all
returns-in_err-write_all g c =
    let so_far = c.loop-sent.invariant.texts in
    let said = c.in_ok-line.ensures in
    let within : c.loop-sent.sent-index + 1 ≤ length c.args.messages.now = omega arith in
    let more = one_more_so (IsGuardAnswered g.P.Scheme.checks c.args.when) c.args.guard.now c.args.messages.now c.loop-sent.sent-index so_far.0 c.loop-sent.guard c.answer_line.new.guard c.sent-item.result said.0 c.loop-sent-test.true c.sent-item.is so_far.1 said.1 in
    let part = part_of_more g.O.Sink.written g.O.Sink.faults c.args.output.now c.loop-sent.output c.write_all.new.sink so_far.0 said.0 c.as_bytes.result.now (c.as_bytes.ensures.value ∙ said.2) so_far.2 c.loop-sent.invariant.steady
    c.in_err-write_all.ensures.err c.in_err-write_all.ensures.cause.failed in
    stopped_so (AreAllAnswered g.P.Scheme.checks c.args.when c.args.guard.now c.args.messages.now) (AreFirstAnswered g.P.Scheme.checks c.args.when c.args.guard.now c.args.messages.now) (StopsForMemory (AreFirstAnswered g.P.Scheme.checks c.args.when c.args.guard.now c.args.messages.now)) c.from_residual-in_err-write_all.result WriteFault
    (seen g.O.Sink.written g.O.Sink.faults c.args.output.now c.write_all.new.sink) c.from_residual-in_err-write_all.ensures.1
    (inl (record {
      texts = so_far.0;
      last = said.0;
      are = first_so (IsGuardAnswered g.P.Scheme.checks c.args.when) c.args.guard.now c.args.messages.now (c.loop-sent.sent-index + 1) (so_far.0 ++ said.0 ∷ []) c.answer_line.new.guard within more;
      part = part.0;
      failed = part.1;
    }))

pub loop-sent-preserved : goal.loop-sent-preserved
loop-sent-preserved g c =
    let so_far = c.loop-sent.invariant.texts in
    let said = c.in_ok-line.ensures in
    let more = one_more_so (IsGuardAnswered g.P.Scheme.checks c.args.when) c.args.guard.now c.args.messages.now c.loop-sent.sent-index so_far.0 c.loop-sent.guard c.answer_line.new.guard c.sent-item.result said.0 c.loop-sent-test.true c.sent-item.is so_far.1 said.1 in
    let written = one_more_written g.O.Sink.written g.O.Sink.faults c.args.output.now c.loop-sent.output c.write_all.new.sink so_far.0 said.0 c.as_bytes.result.now (c.as_bytes.ensures.value ∙ said.2) so_far.2 c.loop-sent.invariant.steady
    c.in_ok-write_all.ensures.ok c.in_ok-write_all.ensures.kept in
    record { steady = written.1; texts = (so_far.0 ++ said.0 ∷ [], more, written.0) }

pub returns-in_err-closing : goal.returns-in_err-closing
returns-in_err-closing g c =
    let so_far = c.loop-sent.invariant.texts in
    let within : c.loop-sent.sent-index ≤ length c.args.messages.now = c.loop-sent.auto.sent-index-end in
    stopped_so (AreAllAnswered g.P.Scheme.checks c.args.when c.args.guard.now c.args.messages.now) (AreFirstAnswered g.P.Scheme.checks c.args.when c.args.guard.now c.args.messages.now) (StopsForMemory (AreFirstAnswered g.P.Scheme.checks c.args.when c.args.guard.now c.args.messages.now)) c.from_residual-in_err-closing.result (Refused OutOfMemory)
    (seen g.O.Sink.written g.O.Sink.faults c.args.output.now c.loop-sent.output) c.from_residual-in_err-closing.ensures.1
    (record { texts = so_far.0; stopped = (first_so (IsGuardAnswered g.P.Scheme.checks c.args.when) c.args.guard.now c.args.messages.now c.loop-sent.sent-index so_far.0 c.loop-sent.guard within so_far.1, refl); whole = so_far.2; steady = c.loop-sent.invariant.steady })

pub returns-in_err-write_all-2 : goal.returns-in_err-write_all-2
returns-in_err-write_all-2 g c =
    let so_far = c.loop-sent.invariant.texts in
    let are = all_so (IsGuardAnswered g.P.Scheme.checks c.args.when) c.args.guard.now c.args.messages.now closing_text c.loop-sent.sent-index so_far.0 c.loop-sent.guard c.as_bytes-2.result.now c.loop-sent-test.false so_far.1 (c.as_bytes-2.ensures.value ∙ c.in_ok-closing.ensures) in
    stopped_so (AreAllAnswered g.P.Scheme.checks c.args.when c.args.guard.now c.args.messages.now) (AreFirstAnswered g.P.Scheme.checks c.args.when c.args.guard.now c.args.messages.now) (StopsForMemory (AreFirstAnswered g.P.Scheme.checks c.args.when c.args.guard.now c.args.messages.now)) c.from_residual-in_err-write_all-2.result WriteFault
    (seen g.O.Sink.written g.O.Sink.faults c.args.output.now c.write_all-2.new.sink) c.from_residual-in_err-write_all-2.ensures.1
    (inr (record {
      texts = so_far.0;
      closing = c.as_bytes-2.result.now;
      are = are;
      part = part_behind (g.O.Sink.written c.args.output.now) (g.O.Sink.written c.loop-sent.output) (g.O.Sink.written c.write_all-2.new.sink) so_far.0 c.as_bytes-2.result.now so_far.2 c.in_err-write_all-2.ensures.err;
      failed = failed_later g.O.Sink.written g.O.Sink.faults c.args.output.now c.loop-sent.output c.write_all-2.new.sink c.loop-sent.invariant.steady c.in_err-write_all-2.ensures.cause.failed;
    }))
