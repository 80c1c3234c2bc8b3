use Rattle.rpki_signer.proofs.Promises.{key_is, key_spares}
use Rattle.rpki_signer.proofs.toy_signer.ToySignerSignerToyScheme.get_key_info.Goals as goal

pub returns-clause-key : goal.returns-clause-key
returns-clause-key c = key_is c.args.key.now _ _ _ c.info.ensures.counts c.info.ensures.key

pub returns-clause-spares : goal.returns-clause-spares
returns-clause-spares c = key_spares c.args.key.now c.args.self.now c.info.new.self c.info.result c.info.ensures.key
