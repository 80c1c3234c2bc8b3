use Rattle.rpki_signer.proofs.Promises.{random_is}
use Rattle.rpki_signer.proofs.toy_signer.ToySignerSignerToyScheme.rand.Goals as goal

pub returns-clause-drawn : goal.returns-clause-drawn
returns-clause-drawn c = random_is c.args.self.now c.fill.new.self c.args.target.now c.fill.new.target c.fill.result c.fill.ensures.counts c.fill.ensures.random
