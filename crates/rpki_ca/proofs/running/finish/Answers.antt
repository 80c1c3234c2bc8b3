use Rattle.std.proofs.Common.{refl, Ok, ◌∙◌}
use Rattle.rpki_ca.specs.Seen.{Seen, seen}
use Rattle.rpki_ca.proofs.Answering.{if_ok_is}
use Rattle.rpki_ca.proofs.Ending.{ends_answer}
use Rattle.rpki_ca.proofs.running.finish.Goals as goal

pub returns-in-Ok-clause-text : goal.returns-in-Ok-clause-text
returns-in-Ok-clause-text g c =
    let sink : Seen = seen g.O.Sink.written g.O.Sink.faults c.args.output.now c.write_line.new.output in
    if_ok_is c.args.answer c.in-Ok.line _ c.in-Ok.is (λ text is.
    ends_answer (Ok text) _ 0 c.write_line.result.0 sink (c.deref.ensures.value ∙ is) refl
    c.write_line.ensures.whole c.write_line.ensures.part c.write_line.ensures.fault c.write_line.ensures.steady)
