use Rattle.rpki_ca.specs.Seen.{Seen, SignerSeen, seen, seen_signer}
use Rattle.rpki_ca.proofs.Runs as runs
use Rattle.rpki_ca.proofs.running.run.Given.{Over}
use Rattle.rpki_ca.proofs.running.run.Goals.{After-finish}
use Rattle.rpki_ca.proofs.running.run.Goals as goal

module _ (g : Over) (c : After-finish g) where
  abbrev source : Seen
  source = seen g.I.Source.rest g.I.Source.faults c.args.input.now c.answer-answer.new.input

  abbrev sink : Seen
  sink = seen g.O.Sink.written g.O.Sink.faults c.args.output.now c.finish.new.output

  abbrev signer : SignerSeen g.row.S-KeyId.Denot
  signer = seen_signer c.args.key.now (g.S.Signer.state c.args.signer.now) (g.S.Signer.state c.answer-answer.new.signer)

  -- how the call ended
  how : runs.Answered g.P.Scheme.checks c.args.words.now source sink signer c.finish.result.0
  how = runs.answered _ g.P.Scheme.checks c.args.words.now source sink signer c.finish.result.0 c.answer-answer.result c.answer-answer.ensures.ok c.answer-answer.ensures.err c.finish.ensures.text c.finish.ensures.refusal

pub returns-clause-received : goal.returns-clause-received
returns-clause-received g c = runs.received g.P.Scheme.checks c.args.words.now (source g c) (sink g c) (signer g c) c.finish.result.0 (how g c)

pub returns-clause-accepted : goal.returns-clause-accepted
returns-clause-accepted g c = runs.succeeds g.P.Scheme.checks c.args.words.now (source g c) (sink g c) (signer g c) c.finish.result.0 (how g c)

pub returns-clause-created : goal.returns-clause-created
returns-clause-created g c = runs.created g.P.Scheme.checks g.P.Scheme.fits c.args.words.now (source g c) (sink g c) (signer g c) c.finish.result.0 (how g c)

pub returns-clause-creates : goal.returns-clause-creates
returns-clause-creates g c = runs.can_create g.P.Scheme.checks c.args.words.now (source g c) (sink g c) (signer g c) c.finish.result.0 (how g c)

pub returns-clause-set_up : goal.returns-clause-set_up
returns-clause-set_up g c = runs.set_up g.P.Scheme.checks c.args.words.now (source g c) (sink g c) (signer g c) c.finish.result.0 (how g c)

pub returns-clause-shown : goal.returns-clause-shown
returns-clause-shown g c = runs.ends_as g.P.Scheme.checks c.args.words.now (source g c) (sink g c) (signer g c) c.finish.result.0 (how g c)

pub returns-clause-done : goal.returns-clause-done
returns-clause-done g c = runs.done g.P.Scheme.checks c.args.words.now (source g c) (sink g c) (signer g c) c.finish.result.0 (how g c)

pub returns-clause-read_fault : goal.returns-clause-read_fault
returns-clause-read_fault g c = runs.read_fault g.P.Scheme.checks c.args.words.now (source g c) (sink g c) (signer g c) c.finish.result.0 (how g c)

pub returns-clause-no_read_fault : goal.returns-clause-no_read_fault
returns-clause-no_read_fault g c = runs.no_read_fault g.P.Scheme.checks c.args.words.now (source g c) (sink g c) (signer g c) c.finish.result.0 (how g c)

pub returns-clause-answered : goal.returns-clause-answered
returns-clause-answered g c = let h = how g c in (h.answer, h.admitted, h.ends)

pub returns-clause-usage : goal.returns-clause-usage
returns-clause-usage g c = runs.usage c.args.words.now c.answer-answer.result c.finish.result.0 c.answer-answer.ensures.usage c.finish.ensures.status

pub returns-clause-usage_always : goal.returns-clause-usage_always
returns-clause-usage_always g c = λ none. runs.usage_status c.answer-answer.result c.finish.result.0 (c.answer-answer.ensures.usage_always none) c.finish.ensures.status

pub returns-clause-whole : goal.returns-clause-whole
returns-clause-whole g c = runs.read_to_end c.answer-answer.result c.finish.result.0 _ c.answer-answer.ensures.whole c.finish.ensures.status

pub returns-clause-long : goal.returns-clause-long
returns-clause-long g c = λ none. runs.long_to_end c.answer-answer.result c.finish.result.0 _ _ (c.answer-answer.ensures.long none) c.finish.ensures.status

pub returns-clause-made : goal.returns-clause-made
returns-clause-made g c = λ count seed is zero.
    runs.made (λ line. line.items) g.P.Scheme.checks count seed (signer g c) (sink g c) c.answer-answer.result c.finish.result.0 (c.answer-answer.ensures.made count seed is) c.finish.ensures.text
    c.finish.ensures.status zero

pub returns-clause-makes : goal.returns-clause-makes
returns-clause-makes g c = λ count seed is.
    runs.makes (λ line. line.items) g.P.Scheme.checks count seed (signer g c) c.answer-answer.result c.finish.result.0 (c.answer-answer.ensures.made count seed is) c.finish.ensures.status
