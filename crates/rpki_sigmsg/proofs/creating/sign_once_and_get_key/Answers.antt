use Rattle.rpki_signer.proofs.States.{handed_on}
use Rattle.rpki_sigmsg.proofs.Created.{has_keys, without_signature, without_key}
use Rattle.rpki_sigmsg.proofs.creating.sign_once_and_get_key.Goals as goal

pub returns-in_err-signature-clause-keys : goal.returns-in_err-signature-clause-keys
returns-in_err-signature-clause-keys g c = handed_on _ _ _ _ c.from_residual.ensures (without_signature _ _ _ _ _ _ c.in_err-signature.ensures.signed)

pub returns-in_err-issuing_key-clause-keys : goal.returns-in_err-issuing_key-clause-keys
returns-in_err-issuing_key-clause-keys g c = handed_on _ _ _ _ c.from_residual-in_err-issuing_key.ensures (without_key _ _ _ _ _ _ _ c.in_ok-signature.key c.in_err-issuing_key.field-0.0 c.in_ok-signature.ensures.signed c.in_err-issuing_key.ensures.key)

pub returns-clause-keys : goal.returns-clause-keys
returns-clause-keys g c = has_keys _ _ _ _ _ _ _ c.in_ok-signature.key c.in_ok-issuing_key.issuing_key c.in_ok-signature.ensures.signed c.in_ok-issuing_key.ensures.key
