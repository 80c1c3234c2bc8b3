use Rattle.rpki_signer.proofs.LongSigners.{long_created, long_created_spares}
use Rattle.rpki_signer.proofs.long_signer.LongSignerSignerAnyScheme.create_key.Goals as goal

pub returns-clause-created : goal.returns-clause-created
returns-clause-created c = rw (← c.self.view_is) (long_created c.args.format (record { toy = c.self.inside.toy; octets = c.self.inside.octets; overlong = c.self.inside.overlong }) _ _ c.create.ensures.sound c.create.ensures.counts c.create.ensures.created)

pub returns-clause-spares : goal.returns-clause-spares
returns-clause-spares c = rw (← c.self.view_is) (long_created_spares c.args.format (record { toy = c.self.inside.toy; octets = c.self.inside.octets; overlong = c.self.inside.overlong }) _ _ c.create.ensures.created)
