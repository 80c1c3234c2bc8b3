use Rattle.rpki_signer.proofs.Promises.{answer_signed, signed_spares}
use Rattle.rpki_signer.proofs.toy_signer.ToySignerSignerToyScheme.sign.Goals as goal

pub returns-clause-signed : goal.returns-clause-signed
returns-clause-signed g c = answer_signed _ _ _ _ _ _ c.sign_with.ensures.sound c.sign_with.ensures.counts c.sign_with.ensures.signed

pub returns-clause-spares : goal.returns-clause-spares
returns-clause-spares g c = signed_spares (g.Alg.SignatureAlgorithm.kind c.args.algorithm) c.args.key.now c.args.message.now c.args.self.now c.sign_with.new.self c.sign_with.result c.sign_with.ensures.signed
