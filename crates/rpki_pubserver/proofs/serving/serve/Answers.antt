use Rattle.std.proofs.Common.{ℕ, List, inr, refl, subst}
use Rattle.rpki_ca.specs.Lines.{lines_of}
use Rattle.rpki_ca.specs.Seen.{seen, seen_signer}
use Rattle.rpki_ca.proofs.Ended.{ends_read}
use Rattle.rpki_pubserver.specs.Running.{EndsServerServed, new_server}
use Rattle.rpki_pubserver.specs.Server.{ServerFields}
use Rattle.rpki_pubserver.proofs.Words.{ends_by}
use Rattle.rpki_pubserver.proofs.serving.serve.Goals as goal

pub returns-in-Ok-None-clause-ends : goal.returns-in-Ok-None-clause-ends
returns-in-Ok-None-clause-ends g c = λ when base publisher are. absurd ((rw c.in-Ok-None.field-0-is at c.in-Ok-None.ensures.none) refl when base publisher are)

pub returns-in-Ok-clause-usage : goal.returns-in-Ok-clause-usage
returns-in-Ok-clause-usage g c = λ none. absurd (none c.in-Ok-Some.terms.when c.in-Ok-Some.terms.base c.in-Ok-Some.terms.publisher (rw c.in-Ok-Some.field-0-is at c.in-Ok-Some.ensures.some))

pub returns-in-Ok-clause-unread : goal.returns-in-Ok-clause-unread
returns-in-Ok-clause-unread g c = λ none. absurd (none c.in-Ok-Some.terms.when c.in-Ok-Some.terms.base c.in-Ok-Some.terms.publisher (rw c.in-Ok-Some.field-0-is at c.in-Ok-Some.ensures.some))

pub returns-in-Ok-clause-unasked : goal.returns-in-Ok-clause-unasked
returns-in-Ok-clause-unasked g c = λ none. absurd (none c.in-Ok-Some.terms.when c.in-Ok-Some.terms.base c.in-Ok-Some.terms.publisher (rw c.in-Ok-Some.field-0-is at c.in-Ok-Some.ensures.some))

pub returns-in-Ok-clause-ends : goal.returns-in-Ok-clause-ends
returns-in-Ok-clause-ends g c = λ when base publisher are.
    let sink = seen g.O.Sink.written g.O.Sink.faults c.args.output.now c.serve_lines.new.output in
    let source = seen g.I.Source.rest g.I.Source.faults c.args.input.now c.read_input.new.input in
    let signer = seen_signer c.args.key.now (g.S.Signer.state c.args.signer.now) (g.S.Signer.state c.serve_lines.new.signer) in
    let terms = c.in-Ok-Some.terms in
    let ends = subst (λ (s : ServerFields). EndsServerServed g.P.Scheme.checks terms.when signer s (lines_of c.deref.result.now) c.serve_lines.result.0 sink) c.in-Some.ensures.server
    (subst (λ (l : List (List ℕ)). EndsServerServed g.P.Scheme.checks terms.when signer c.in-Some.server l c.serve_lines.result.0 sink) c.new-lines.ensures c.serve_lines.ensures.ends) in
    ends_by g.P.Scheme.checks signer c.serve_lines.result.0 source sink c.args.words.now terms.when when terms.base base terms.publisher publisher (rw c.in-Ok-Some.field-0-is at c.in-Ok-Some.ensures.some) are (inr (record {
      steady = c.in-Ok.ensures.steady;
      whole = c.in-Ok.ensures.end;
      ends = ends_read (λ octets. EndsServerServed g.P.Scheme.checks terms.when signer (new_server terms.base terms.publisher) (lines_of octets) c.serve_lines.result.0 sink) (g.I.Source.rest c.args.input.now) c.in-Ok.octets.items c.deref.result.now c.deref.ensures.value c.in-Ok.ensures.short c.in-Ok.ensures.ok ends;
    }))

pub returns-clause-usage : goal.returns-clause-usage
returns-clause-usage g c = λ none. absurd (none c.in-Ok-Some.terms.when c.in-Ok-Some.terms.base c.in-Ok-Some.terms.publisher (rw c.in-Ok-Some.field-0-is at c.in-Ok-Some.ensures.some))

pub returns-clause-unread : goal.returns-clause-unread
returns-clause-unread g c = λ none. absurd (none c.in-Ok-Some.terms.when c.in-Ok-Some.terms.base c.in-Ok-Some.terms.publisher (rw c.in-Ok-Some.field-0-is at c.in-Ok-Some.ensures.some))
