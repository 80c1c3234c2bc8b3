use Rattle.rpki_signer.proofs.LongSigners.{long_key, long_key_spares}
use Rattle.rpki_signer.proofs.long_signer.LongSignerSignerAnyScheme.get_key_info.Goals as goal

pub returns-clause-key : goal.returns-clause-key
returns-clause-key c = rw (← c.self.view_is) (long_key c.args.key.now (record { toy = c.self.inside.toy; octets = c.self.inside.octets; overlong = c.self.inside.overlong }) _ _ c.info.ensures.counts c.info.ensures.key)

pub returns-clause-spares : goal.returns-clause-spares
returns-clause-spares c = rw (← c.self.view_is) (long_key_spares c.args.key.now (record { toy = c.self.inside.toy; octets = c.self.inside.octets; overlong = c.self.inside.overlong }) _ _ c.info.ensures.key)
