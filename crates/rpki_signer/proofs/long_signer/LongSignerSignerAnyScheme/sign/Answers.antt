use Rattle.rpki_signer.proofs.LongSigners.{long_answer, long_signed_spares}
use Rattle.rpki_signer.proofs.long_signer.LongSignerSignerAnyScheme.sign.Goals as goal

pub returns-clause-signed : goal.returns-clause-signed
returns-clause-signed g c = long_answer _ _ _ _ _ _ c.sign_with.ensures.sound c.sign_with.ensures.counts c.sign_with.ensures.count c.sign_with.ensures.signed

pub returns-clause-spares : goal.returns-clause-spares
returns-clause-spares g c = long_signed_spares _ _ _ _ _ c.sign_with.ensures.signed
