use Rattle.std.proofs.Common.{◌∙◌, inr, refl, subst, sym, false, true, ◌≡◌, []}
use Rattle.rpki_ca.specs.Lines.{EndsRun}
use Rattle.rpki_ca.specs.Seen.{seen}
use Rattle.rpki_ca.proofs.Ended.{ends_read}
use Rattle.rpki_external.specs.Running.{EndsKeysTask, ReadsTaskInput}
use Rattle.rpki_external.specs.declared.task.Task.{Task}
use Rattle.rpki_external.proofs.Tasks.{one_task}
use Rattle.rpki_external.proofs.running.run_keys.Goals as goal

-- the task reads no input

pub returns-then-not-reads_input-clause-alone : goal.returns-then-not-reads_input-clause-alone
returns-then-not-reads_input-clause-alone g c = λ task is other.
    let sink = seen g.O.Sink.written g.O.Sink.faults c.args.output.now c.run_read.new.output in
    (refl, inr (subst (λ (t : Task). EndsKeysTask t [] c.run_read.result.0 sink) (one_task c.args.words.now c.in-Ok.task task c.in-Ok.ensures.some is) (rw c.new.ensures.items at c.run_read.ensures)))

pub returns-then-not-reads_input-clause-ends : goal.returns-then-not-reads_input-clause-ends
returns-then-not-reads_input-clause-ends g c = λ task is reads.
    let here : ReadsTaskInput c.in-Ok.task = subst ReadsTaskInput (sym (one_task c.args.words.now c.in-Ok.task task c.in-Ok.ensures.some is)) reads in
    let both : false ≡ true = sym c.if-not-reads_input.true ∙ c.reads_input.ensures.1 here in
    absurd (no both)
  where
    no : false ≡ true → ⊥
    no k = cc

-- it reads input

pub returns-in-Ok-read_input-clause-alone : goal.returns-in-Ok-read_input-clause-alone
returns-in-Ok-read_input-clause-alone g c = λ task is other.
    absurd (other (subst ReadsTaskInput (one_task c.args.words.now c.in-Ok.task task c.in-Ok.ensures.some is) (c.reads_input.ensures.0 c.if-not-reads_input.false)))

pub returns-in-Err-read_input-clause-alone : goal.returns-in-Err-read_input-clause-alone
returns-in-Err-read_input-clause-alone g c = λ task is other.
    absurd (other (subst ReadsTaskInput (one_task c.args.words.now c.in-Ok.task task c.in-Ok.ensures.some is) (c.reads_input.ensures.0 c.if-not-reads_input.false)))

pub returns-in-Ok-read_input-clause-ends : goal.returns-in-Ok-read_input-clause-ends
returns-in-Ok-read_input-clause-ends g c = λ task is reads.
    let sink = seen g.O.Sink.written g.O.Sink.faults c.args.output.now c.run_read-in-Ok-read_input.new.output in
    let source = seen g.I.Source.rest g.I.Source.faults c.args.input.now c.read_input.new.input in
    inr (subst (λ (t : Task). EndsRun (λ octets. EndsKeysTask t octets c.run_read-in-Ok-read_input.result.0 sink) c.run_read-in-Ok-read_input.result.0 source sink) (one_task c.args.words.now c.in-Ok.task task c.in-Ok.ensures.some is) (inr (record {
      steady = c.in-Ok-read_input.ensures.steady;
      whole = c.in-Ok-read_input.ensures.end;
      ends = ends_read (λ octets. EndsKeysTask c.in-Ok.task octets c.run_read-in-Ok-read_input.result.0 sink) (g.I.Source.rest c.args.input.now) c.in-Ok-read_input.octets.items c.in-Ok-read_input.octets.items refl c.in-Ok-read_input.ensures.short c.in-Ok-read_input.ensures.ok c.run_read-in-Ok-read_input.ensures;
    })))
