use Rattle.std.proofs.Common.{◌≡◌, ◌+◌, ◌<◌, ◌∷◌, ◌++◌, ◌∙◌, ℕ, List, [], ap, arith, get_or, inl, length, map, subst, sym}
use Rattle.std.proofs.lemmas.List.{append-nil, get_or-map, length-map}
use Rattle.std.specs.Io.KnownBytes.{Appends}
use Rattle.rpki_signer.proofs.States.{keeps_then}
use Rattle.rpki_ca.specs.Lines.{answer_lines}
use Rattle.rpki_ca.specs.Seen.{seen, seen_signer}
use Rattle.rpki_ca.specs.declared.lines.Stop.TheVariants.{Refused, WriteFault}
use Rattle.rpki_ca.proofs.Outputs.{one_more_written, part_of_more}
use Rattle.rpki_ca.proofs.Stepping.{one_more_so, stopped_so}
use Rattle.rpki_pubserver.specs.Serving.{AreAllReplied, AreFirstReplied, FailsLine, IsReplied, StopsReplying, with_signer}
use Rattle.rpki_pubserver.proofs.Replying.{all_replied, first_replied, stops_replying}
use Rattle.rpki_pubserver.proofs.serving.answer_all.Goals as goal

pub returns-in_err-line-clause-answered : goal.returns-in_err-line-clause-answered
returns-in_err-line-clause-answered g c =
    let ms : List (List ℕ) = map (λ m. m.items) c.args.messages.now in
    let i : ℕ = c.loop-octets.octets-index in
    let start = g.S.Signer.state c.args.signer.now in
    let before = g.S.Signer.state c.loop-octets.signer in
    let after = g.S.Signer.state c.answer_line.new.signer in
    let step = IsReplied g.P.Scheme.checks c.args.when c.args.key.now in
    let all = length-map c.args.messages.now (λ m. m.items) in
    let test = c.loop-octets-test.true in
    let lt : i < length ms = omega (arith, all, test) in
    let octets : List ℕ = c.octets-item.result.items in
    let at : octets ≡ get_or ms i octets = ap (λ m. m.items) c.octets-item.is ∙ sym (get_or-map (λ m. m.items) c.args.messages.now i c.octets-item.result octets test) in
    let so_far = c.loop-octets.invariant.texts in
    let last = with_signer c.loop-octets.server before in
    let signer = seen_signer c.args.key.now start after in
    let stopped = stops_replying g.P.Scheme.checks c.args.when c.args.key.now start c.args.server.now ms i so_far.0 last octets after c.in_err-line.field-0.0 lt at so_far.1 c.answer_line.ensures.keeps
    (λ other. subst (λ (o : List ℕ). FailsLine g.P.Scheme.checks c.args.when (seen_signer c.args.key.now before after) c.loop-octets.server o c.in_err-line.field-0.0) c.deref.ensures.value (c.in_err-line.ensures.err other)) in
    stopped_so (AreAllReplied g.P.Scheme.checks c.args.when signer c.args.server.now ms) (AreFirstReplied g.P.Scheme.checks c.args.when signer c.args.server.now ms) (StopsReplying g.P.Scheme.checks c.args.when signer c.args.server.now ms)
    c.from_residual.result (Refused c.in_err-line.field-0.0) (seen g.O.Sink.written g.O.Sink.faults c.args.output.now c.loop-octets.output) c.from_residual.ensures.1
    (record { texts = so_far.0; stopped = stopped; whole = so_far.2; steady = c.loop-octets.invariant.steady })

pub returns-in_err-write_all-clause-answered : goal.returns-in_err-write_all-clause-answered
returns-in_err-write_all-clause-answered g c =
    let ms : List (List ℕ) = map (λ m. m.items) c.args.messages.now in
    let i : ℕ = c.loop-octets.octets-index in
    let start = g.S.Signer.state c.args.signer.now in
    let before = g.S.Signer.state c.loop-octets.signer in
    let after = g.S.Signer.state c.answer_line.new.signer in
    let step = IsReplied g.P.Scheme.checks c.args.when c.args.key.now in
    let all = length-map c.args.messages.now (λ m. m.items) in
    let test = c.loop-octets-test.true in
    let lt : i < length ms = omega (arith, all, test) in
    let octets : List ℕ = c.octets-item.result.items in
    let at : octets ≡ get_or ms i octets = ap (λ m. m.items) c.octets-item.is ∙ sym (get_or-map (λ m. m.items) c.args.messages.now i c.octets-item.result octets test) in
    let so_far = c.loop-octets.invariant.texts in
    let last = with_signer c.loop-octets.server before in
    let said = c.in_ok-line.ensures.ok in
    let next = with_signer c.answer_line.new.server after in
    let replied = subst (λ (o : List ℕ). step last o said.0 next) c.deref.ensures.value said.1 in
    let more = one_more_so step (with_signer c.args.server.now start) ms i so_far.0 last next octets said.0 lt at so_far.1 replied in
    let signer = seen_signer c.args.key.now start after in
    let part = part_of_more g.O.Sink.written g.O.Sink.faults c.args.output.now c.loop-octets.output c.write_all.new.sink so_far.0 said.0 c.deref-in-loop-octets.result.now (c.deref-in-loop-octets.ensures.value ∙ said.2) so_far.2 c.loop-octets.invariant.steady
    c.in_err-write_all.ensures.err c.in_err-write_all.ensures.cause.failed in
    stopped_so (AreAllReplied g.P.Scheme.checks c.args.when signer c.args.server.now ms) (AreFirstReplied g.P.Scheme.checks c.args.when signer c.args.server.now ms) (StopsReplying g.P.Scheme.checks c.args.when signer c.args.server.now ms)
    c.from_residual-in_err-write_all.result WriteFault (seen g.O.Sink.written g.O.Sink.faults c.args.output.now c.write_all.new.sink) c.from_residual-in_err-write_all.ensures.1
    (inl (record {
      texts = so_far.0;
      last = said.0;
      are = first_replied g.P.Scheme.checks c.args.when c.args.key.now start c.args.server.now ms (i + 1) (so_far.0 ++ said.0 ∷ []) next (omega (arith, lt)) more;
      part = part.0;
      failed = part.1;
    }))

pub loop-octets-preserved : goal.loop-octets-preserved
loop-octets-preserved g c =
    let ms : List (List ℕ) = map (λ m. m.items) c.args.messages.now in
    let i : ℕ = c.loop-octets.octets-index in
    let start = g.S.Signer.state c.args.signer.now in
    let before = g.S.Signer.state c.loop-octets.signer in
    let after = g.S.Signer.state c.answer_line.new.signer in
    let step = IsReplied g.P.Scheme.checks c.args.when c.args.key.now in
    let all = length-map c.args.messages.now (λ m. m.items) in
    let test = c.loop-octets-test.true in
    let lt : i < length ms = omega (arith, all, test) in
    let octets : List ℕ = c.octets-item.result.items in
    let at : octets ≡ get_or ms i octets = ap (λ m. m.items) c.octets-item.is ∙ sym (get_or-map (λ m. m.items) c.args.messages.now i c.octets-item.result octets test) in
    let so_far = c.loop-octets.invariant.texts in
    let last = with_signer c.loop-octets.server before in
    let said = c.in_ok-line.ensures.ok in
    let next = with_signer c.answer_line.new.server after in
    let replied = subst (λ (o : List ℕ). step last o said.0 next) c.deref.ensures.value said.1 in
    let more = one_more_so step (with_signer c.args.server.now start) ms i so_far.0 last next octets said.0 lt at so_far.1 replied in
    let written = one_more_written g.O.Sink.written g.O.Sink.faults c.args.output.now c.loop-octets.output c.write_all.new.sink so_far.0 said.0 c.deref-in-loop-octets.result.now (c.deref-in-loop-octets.ensures.value ∙ said.2) so_far.2 c.loop-octets.invariant.steady
    c.in_ok-write_all.ensures.ok c.in_ok-write_all.ensures.kept in
    record { steady = written.1; keeps = keeps_then start before after c.loop-octets.invariant.keeps c.answer_line.ensures.keeps; texts = (so_far.0 ++ said.0 ∷ [], more, written.0) }

pub returns-clause-answered : goal.returns-clause-answered
returns-clause-answered g c =
    let ms : List (List ℕ) = map (λ m. m.items) c.args.messages.now in
    let all = length-map c.args.messages.now (λ m. m.items) in
    let test = c.loop-octets-test.false in
    let so_far = c.loop-octets.invariant.texts in
    record {
      texts = so_far.0;
      closing = [];
      are = all_replied g.P.Scheme.checks c.args.when c.args.key.now (g.S.Signer.state c.args.signer.now) c.args.server.now ms c.loop-octets.octets-index so_far.0 (with_signer c.loop-octets.server (g.S.Signer.state c.loop-octets.signer)) (omega (arith, all, test)) so_far.1;
      whole = subst (λ (o : List ℕ). Appends (g.O.Sink.written c.args.output.now) (g.O.Sink.written c.loop-octets.output) o) (sym (append-nil (answer_lines so_far.0))) so_far.2;
      steady = c.loop-octets.invariant.steady;
    }
