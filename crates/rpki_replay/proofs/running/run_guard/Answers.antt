use Rattle.std.proofs.Common.{ℤ, inr, refl, subst}
use Rattle.rpki_ca.specs.Lines.{EndsRun}
use Rattle.rpki_ca.specs.Seen.{seen}
use Rattle.rpki_ca.proofs.Commands.{one_moment_at}
use Rattle.rpki_ca.proofs.Ended.{ends_read}
use Rattle.rpki_replay.specs.Running.{EndsInput}
use Rattle.rpki_replay.proofs.running.run_guard.Goals as goal

pub returns-in_default-clause-ends : goal.returns-in_default-clause-ends
returns-in_default-clause-ends g c = λ when are. absurd (c.in_default.ensures.none refl when are)

pub returns-in-Ok-clause-ends : goal.returns-in-Ok-clause-ends
returns-in-Ok-clause-ends g c = λ when are.
    let sink = seen g.O.Sink.written g.O.Sink.faults c.args.output.now c.run_read.new.output in
    let source = seen g.I.Source.rest g.I.Source.faults c.args.input.now c.read_input.new.input in
    subst (λ (w : ℤ). EndsRun (λ octets. EndsInput g.P.Scheme.checks w octets c.run_read.result.0 sink) c.run_read.result.0 source sink) (one_moment_at c.args.words.now 0 c.in-Some.when when c.in-Some.ensures.some.moment are.moment) (inr (record {
      steady = c.in-Ok.ensures.steady;
      whole = c.in-Ok.ensures.end;
      ends = ends_read (λ octets. EndsInput g.P.Scheme.checks c.in-Some.when octets c.run_read.result.0 sink) (g.I.Source.rest c.args.input.now) c.in-Ok.octets.items c.deref.result.now c.deref.ensures.value c.in-Ok.ensures.short c.in-Ok.ensures.ok c.run_read.ensures;
    }))
