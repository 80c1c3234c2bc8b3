use Rattle.std.proofs.Common.{inl, List, map, subst, sym, ℕ}
use Rattle.rpki_ca.specs.Seen.{seen_signer}
use Rattle.rpki_ca.specs.Sent.{AreSent}
use Rattle.rpki_ca.proofs.Outputs.{ends_lines}
use Rattle.rpki_pubserver.specs.Serving.{AreAllReplied, AreFirstReplied, StopsReplying}
use Rattle.rpki_pubserver.proofs.serving.serve_lines.Goals as goal

pub returns-clause-ends : goal.returns-clause-ends
returns-clause-ends g c =
    let ms : List (List ℕ) = map (λ m. m.items) c.deref.result.now in
    let signer = seen_signer c.args.key.now (g.S.Signer.state c.args.signer.now) (g.S.Signer.state c.answer_all-answered.new.signer) in
    inl (record {
      messages = ms;
      are = subst (λ l. AreSent c.args.lines (map (λ m. m.items) l)) (sym c.deref.ensures.value) (rw c.in-Ok-Some.field-0-is at c.in-Ok-Some.ensures.some);
      window_is = c.new.ensures.some.0 c.if-is_none.ensures;
      ends = ends_lines g.O.Sink.written g.O.Sink.faults c.args.output.now c.answer_all-answered.new.output c.finish_lines.new.output (AreAllReplied g.P.Scheme.checks c.args.when signer c.args.server.now ms) (AreFirstReplied g.P.Scheme.checks c.args.when signer c.args.server.now ms)
          (StopsReplying g.P.Scheme.checks c.args.when signer c.args.server.now ms) c.answer_all-answered.result c.finish_lines.result.0 c.answer_all-answered.ensures.answered c.finish_lines.ensures.done c.finish_lines.ensures.stopped;
    })
