use Rattle.rpki_signer.proofs.Promises.{created_is, created_spares}
use Rattle.rpki_signer.proofs.toy_signer.ToySignerSignerToyScheme.create_key.Goals as goal

pub returns-clause-created : goal.returns-clause-created
returns-clause-created c = created_is c.args.format _ _ _ c.create.ensures.sound c.create.ensures.counts c.create.ensures.created

pub returns-clause-spares : goal.returns-clause-spares
returns-clause-spares c = created_spares c.args.format c.args.self.now c.create.new.self c.create.result c.create.ensures.created
