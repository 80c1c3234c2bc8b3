use Rattle.rpki_signer.proofs.LongSigners.{long_random}
use Rattle.rpki_signer.proofs.long_signer.LongSignerSignerAnyScheme.rand.Goals as goal

pub returns-clause-drawn : goal.returns-clause-drawn
returns-clause-drawn c = rw (← c.self.view_is) (long_random (record { toy = c.self.inside.toy; octets = c.self.inside.octets; overlong = c.self.inside.overlong }) _ c.args.target.now _ _ c.fill.ensures.counts c.fill.ensures.random)
