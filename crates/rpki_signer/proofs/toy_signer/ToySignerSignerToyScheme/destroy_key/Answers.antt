use Rattle.rpki_signer.proofs.Promises.{destroyed_is, destroyed_spares}
use Rattle.rpki_signer.proofs.toy_signer.ToySignerSignerToyScheme.destroy_key.Goals as goal

pub returns-clause-destroyed : goal.returns-clause-destroyed
returns-clause-destroyed c = destroyed_is c.args.key.now _ _ _ c.destroy.ensures.counts c.destroy.ensures.destroyed

pub returns-clause-spares : goal.returns-clause-spares
returns-clause-spares c = destroyed_spares c.args.key.now c.args.self.now c.destroy.new.self c.destroy.result c.destroy.ensures.destroyed
