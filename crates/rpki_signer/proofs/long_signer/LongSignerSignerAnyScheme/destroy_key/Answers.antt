use Rattle.rpki_signer.proofs.LongSigners.{long_destroyed, long_destroyed_spares}
use Rattle.rpki_signer.proofs.long_signer.LongSignerSignerAnyScheme.destroy_key.Goals as goal

pub returns-clause-destroyed : goal.returns-clause-destroyed
returns-clause-destroyed c = rw (← c.self.view_is) (long_destroyed c.args.key.now (record { toy = c.self.inside.toy; octets = c.self.inside.octets; overlong = c.self.inside.overlong }) _ _ c.destroy.ensures.counts c.destroy.ensures.destroyed)

pub returns-clause-spares : goal.returns-clause-spares
returns-clause-spares c = rw (← c.self.view_is) (long_destroyed_spares c.args.key.now (record { toy = c.self.inside.toy; octets = c.self.inside.octets; overlong = c.self.inside.overlong }) _ _ c.destroy.ensures.destroyed)
