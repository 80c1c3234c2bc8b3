use Rattle.std.proofs.Common.{◌≤◌, ◌^◌, ℕ, List, length, inr, refl, subst, sym}
use Rattle.rpki_ca.specs.Lines.{EndsRun, lines_of}
use Rattle.rpki_ca.specs.Seen.{seen}
use Rattle.rpki_ca.proofs.Ended.{ends_read}
use Rattle.rpki_archive.specs.Checking.{EndsArchiveTask}
use Rattle.rpki_archive.specs.declared.checking.Task.{Task}
use Rattle.rpki_archive.proofs.SoFar.{one_task}
use Rattle.rpki_archive.proofs.checking.check.Goals as goal

pub check_read-requires : goal.check_read-requires
check_read-requires g c = subst (λ (l : List ℕ). length l ≤ 2 ^ 26) (sym c.deref.ensures.value) c.in-Ok.ensures.short

pub returns-in_default-clause-ends : goal.returns-in_default-clause-ends
returns-in_default-clause-ends g c = λ task is. absurd (c.in_default.ensures.none refl task is)

pub returns-in-Ok-clause-ends : goal.returns-in-Ok-clause-ends
returns-in-Ok-clause-ends g c = λ task is.
    let sink = seen g.O.Sink.written g.O.Sink.faults c.args.output.now c.check_read.new.output in
    let source = seen g.I.Source.rest g.I.Source.faults c.args.input.now c.read_input.new.input in
    subst (λ (t : Task). EndsRun (λ octets. EndsArchiveTask g.P.Scheme.checks t (lines_of octets) c.check_read.result.0 sink) c.check_read.result.0 source sink) (one_task c.args.words.now c.in-Some.task task c.in-Some.ensures.some is) (inr (record {
      steady = c.in-Ok.ensures.steady;
      whole = c.in-Ok.ensures.end;
      ends = ends_read (λ octets. EndsArchiveTask g.P.Scheme.checks c.in-Some.task (lines_of octets) c.check_read.result.0 sink) (g.I.Source.rest c.args.input.now) c.in-Ok.octets.items c.deref.result.now c.deref.ensures.value c.in-Ok.ensures.short c.in-Ok.ensures.ok c.check_read.ensures;
    }))
