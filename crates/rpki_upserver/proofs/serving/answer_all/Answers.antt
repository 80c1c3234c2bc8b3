use Rattle.std.proofs.Common.{rules, ◌≡◌, ◌+◌, ◌<◌, ◌∷◌, ◌++◌, ◌∙◌, ℕ, List, [], ap, arith, get_or, inl, length, map, refl, subst, sym}
use Rattle.std.proofs.lemmas.List.{append-nil, get_or-map, length-map}
use Rattle.std.specs.Io.KnownBytes.{Appends}
use Rattle.rpki_signer.proofs.States.{keeps_same, keeps_then}
use Rattle.rpki_ca.specs.Lines.{answer_lines}
use Rattle.rpki_ca.specs.Seen.{seen, seen_signer}
use Rattle.rpki_ca.specs.declared.lines.Stop.TheVariants.{Refused, WriteFault}
use Rattle.rpki_ca.proofs.Outputs.{one_more_written, part_of_more}
use Rattle.rpki_ca.proofs.Stepping.{one_more_so, stopped_so}
use Rattle.rpki_upserver.specs.Answering.{with_issuer}
use Rattle.rpki_upserver.specs.Serving.{AreAllAnswered, AreFirstAnswered, FailsLine, IsLeft, IsLineAnswered, StopsAnswering, service_of}
use Rattle.rpki_upserver.proofs.Answering.{all_answered, first_answered, stops_answering}
use Rattle.rpki_upserver.proofs.serving.answer_all.Goals as goal

pub loop-octets-init : goal.loop-octets-init
loop-octets-init g c = record {
  steady = refl;
  keeps = keeps_same (g.S.Signer.state c.args.signer.now);
  texts = ([], refl, search rules);
}

pub returns-in_err-line-clause-answered : goal.returns-in_err-line-clause-answered
returns-in_err-line-clause-answered g c =
    let ms : List (List ℕ) = map (λ m. m.items) c.args.messages.now in
    let i : ℕ = c.loop-octets.octets-index in
    let first = g.S.Signer.state c.args.signer.now in
    let before = g.S.Signer.state c.loop-octets.signer in
    let after = g.S.Signer.state c.answer_line.new.signer in
    let start = with_issuer c.args.parent.now (g.N.Issuer.state c.args.issuer.now) in
    let last = service_of (with_issuer c.loop-octets.parent (g.N.Issuer.state c.loop-octets.issuer)) before in
    let parties = with_issuer c.answer_line.new.parent (g.N.Issuer.state c.answer_line.new.issuer) in
    let step = IsLineAnswered g.P.Scheme.checks c.args.when c.args.key.now in
    let all = length-map c.args.messages.now (λ m. m.items) in
    let test = c.loop-octets-test.true in
    let lt : i < length ms = omega (arith, all, test) in
    let octets : List ℕ = c.octets-item.result.items in
    let at : octets ≡ get_or ms i octets = ap (λ m. m.items) c.octets-item.is ∙ sym (get_or-map (λ m. m.items) c.args.messages.now i c.octets-item.result octets test) in
    let so_far = c.loop-octets.invariant.texts in
    let signer = seen_signer c.args.key.now first after in
    let left = subst (λ (o : List ℕ). IsLeft g.P.Scheme.checks c.args.when last.parties o parties) c.deref.ensures.value c.in_err-line.ensures.left in
    let stopped = stops_answering g.P.Scheme.checks c.args.when c.args.key.now first start ms i so_far.0 last octets parties after c.in_err-line.field-0.0 lt at so_far.1 c.answer_line.ensures.keeps left
    (λ other. subst (λ (o : List ℕ). FailsLine g.P.Scheme.checks c.args.when (seen_signer c.args.key.now before after) last.parties o parties c.in_err-line.field-0.0) c.deref.ensures.value (c.in_err-line.ensures.err other)) in
    stopped_so (AreAllAnswered g.P.Scheme.checks c.args.when signer start parties.issuer ms) (AreFirstAnswered g.P.Scheme.checks c.args.when signer start parties.issuer ms) (StopsAnswering g.P.Scheme.checks c.args.when signer start parties.issuer ms)
    c.from_residual.result (Refused c.in_err-line.field-0.0) (seen g.O.Sink.written g.O.Sink.faults c.args.output.now c.loop-octets.output) c.from_residual.ensures.1
    (record { texts = so_far.0; stopped = stopped; whole = so_far.2; steady = c.loop-octets.invariant.steady })

pub returns-in_err-line-clause-keeps : goal.returns-in_err-line-clause-keeps
returns-in_err-line-clause-keeps g c =
    keeps_then (g.S.Signer.state c.args.signer.now) (g.S.Signer.state c.loop-octets.signer) (g.S.Signer.state c.answer_line.new.signer) c.loop-octets.invariant.keeps c.answer_line.ensures.keeps

pub returns-in_err-write_all-clause-answered : goal.returns-in_err-write_all-clause-answered
returns-in_err-write_all-clause-answered g c =
    let ms : List (List ℕ) = map (λ m. m.items) c.args.messages.now in
    let i : ℕ = c.loop-octets.octets-index in
    let first = g.S.Signer.state c.args.signer.now in
    let before = g.S.Signer.state c.loop-octets.signer in
    let after = g.S.Signer.state c.answer_line.new.signer in
    let start = with_issuer c.args.parent.now (g.N.Issuer.state c.args.issuer.now) in
    let last = service_of (with_issuer c.loop-octets.parent (g.N.Issuer.state c.loop-octets.issuer)) before in
    let parties = with_issuer c.answer_line.new.parent (g.N.Issuer.state c.answer_line.new.issuer) in
    let step = IsLineAnswered g.P.Scheme.checks c.args.when c.args.key.now in
    let all = length-map c.args.messages.now (λ m. m.items) in
    let test = c.loop-octets-test.true in
    let lt : i < length ms = omega (arith, all, test) in
    let octets : List ℕ = c.octets-item.result.items in
    let at : octets ≡ get_or ms i octets = ap (λ m. m.items) c.octets-item.is ∙ sym (get_or-map (λ m. m.items) c.args.messages.now i c.octets-item.result octets test) in
    let so_far = c.loop-octets.invariant.texts in
    let said = c.in_ok-line.ensures.ok in
    let next = service_of parties after in
    let replied = subst (λ (o : List ℕ). step last o said.0 next) c.deref.ensures.value said.1 in
    let more = one_more_so step (service_of start first) ms i so_far.0 last next octets said.0 lt at so_far.1 replied in
    let signer = seen_signer c.args.key.now first after in
    let part = part_of_more g.O.Sink.written g.O.Sink.faults c.args.output.now c.loop-octets.output c.write_all.new.sink so_far.0 said.0 c.deref-in-loop-octets.result.now (c.deref-in-loop-octets.ensures.value ∙ said.2) so_far.2 c.loop-octets.invariant.steady
    c.in_err-write_all.ensures.err c.in_err-write_all.ensures.cause.failed in
    stopped_so (AreAllAnswered g.P.Scheme.checks c.args.when signer start parties.issuer ms) (AreFirstAnswered g.P.Scheme.checks c.args.when signer start parties.issuer ms) (StopsAnswering g.P.Scheme.checks c.args.when signer start parties.issuer ms)
    c.from_residual-in_err-write_all.result WriteFault (seen g.O.Sink.written g.O.Sink.faults c.args.output.now c.write_all.new.sink) c.from_residual-in_err-write_all.ensures.1
    (inl (record {
      texts = so_far.0;
      last = said.0;
      are = first_answered g.P.Scheme.checks c.args.when c.args.key.now first start ms (i + 1) (so_far.0 ++ said.0 ∷ []) next (omega (arith, lt)) more;
      part = part.0;
      failed = part.1;
    }))

pub loop-octets-preserved : goal.loop-octets-preserved
loop-octets-preserved g c =
    let ms : List (List ℕ) = map (λ m. m.items) c.args.messages.now in
    let i : ℕ = c.loop-octets.octets-index in
    let first = g.S.Signer.state c.args.signer.now in
    let before = g.S.Signer.state c.loop-octets.signer in
    let after = g.S.Signer.state c.answer_line.new.signer in
    let start = with_issuer c.args.parent.now (g.N.Issuer.state c.args.issuer.now) in
    let last = service_of (with_issuer c.loop-octets.parent (g.N.Issuer.state c.loop-octets.issuer)) before in
    let parties = with_issuer c.answer_line.new.parent (g.N.Issuer.state c.answer_line.new.issuer) in
    let step = IsLineAnswered g.P.Scheme.checks c.args.when c.args.key.now in
    let all = length-map c.args.messages.now (λ m. m.items) in
    let test = c.loop-octets-test.true in
    let lt : i < length ms = omega (arith, all, test) in
    let octets : List ℕ = c.octets-item.result.items in
    let at : octets ≡ get_or ms i octets = ap (λ m. m.items) c.octets-item.is ∙ sym (get_or-map (λ m. m.items) c.args.messages.now i c.octets-item.result octets test) in
    let so_far = c.loop-octets.invariant.texts in
    let said = c.in_ok-line.ensures.ok in
    let next = service_of parties after in
    let replied = subst (λ (o : List ℕ). step last o said.0 next) c.deref.ensures.value said.1 in
    let more = one_more_so step (service_of start first) ms i so_far.0 last next octets said.0 lt at so_far.1 replied in
    let written = one_more_written g.O.Sink.written g.O.Sink.faults c.args.output.now c.loop-octets.output c.write_all.new.sink so_far.0 said.0 c.deref-in-loop-octets.result.now (c.deref-in-loop-octets.ensures.value ∙ said.2) so_far.2 c.loop-octets.invariant.steady
    c.in_ok-write_all.ensures.ok c.in_ok-write_all.ensures.kept in
    record { steady = written.1; keeps = keeps_then first before after c.loop-octets.invariant.keeps c.answer_line.ensures.keeps; texts = (so_far.0 ++ said.0 ∷ [], more, written.0) }

pub returns-clause-answered : goal.returns-clause-answered
returns-clause-answered g c =
    let ms : List (List ℕ) = map (λ m. m.items) c.args.messages.now in
    let start = with_issuer c.args.parent.now (g.N.Issuer.state c.args.issuer.now) in
    let last = service_of (with_issuer c.loop-octets.parent (g.N.Issuer.state c.loop-octets.issuer)) (g.S.Signer.state c.loop-octets.signer) in
    let all = length-map c.args.messages.now (λ m. m.items) in
    let test = c.loop-octets-test.false in
    let so_far = c.loop-octets.invariant.texts in
    record {
      texts = so_far.0;
      closing = [];
      are = all_answered g.P.Scheme.checks c.args.when c.args.key.now (g.S.Signer.state c.args.signer.now) start ms c.loop-octets.octets-index so_far.0 last (omega (arith, all, test)) so_far.1;
      whole = subst (λ (o : List ℕ). Appends (g.O.Sink.written c.args.output.now) (g.O.Sink.written c.loop-octets.output) o) (sym (append-nil (answer_lines so_far.0))) so_far.2;
      steady = c.loop-octets.invariant.steady;
    }
