use Rattle.rpki_signer.proofs.Promises.{answer_once, once_spares}
use Rattle.rpki_signer.proofs.toy_signer.ToySignerSignerToyScheme.sign_one_off.Goals as goal

pub returns-clause-signed : goal.returns-clause-signed
returns-clause-signed g c = answer_once _ _ _ _ _ c.sign_once.ensures.sound c.sign_once.ensures.counts c.sign_once.ensures.signed

pub returns-clause-spares : goal.returns-clause-spares
returns-clause-spares g c = once_spares (g.Alg.SignatureAlgorithm.kind c.args.algorithm) c.args.message.now c.args.self.now c.sign_once.new.self c.sign_once.result c.sign_once.ensures.signed
