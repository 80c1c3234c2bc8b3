use Rattle.std.proofs.Common.{refl}
use Rattle.rpki_signer.proofs.States.{handed_on}
use Rattle.rpki_cert.proofs.Constructing.{first_key, made_with, signature_fails}
use Rattle.rpki_cert.proofs.construct.construct_rpki_ca.Goals as goal

pub returns-in_err-public_key-clause-first_refusal : goal.returns-in_err-public_key-clause-first_refusal
returns-in_err-public_key-clause-first_refusal g c = handed_on _ _ _ _ c.from_residual.ensures (first_key g.P.Scheme.checks c.args.key.now c.args.ca_repository.now _ _ c.in_err-public_key.field-0.0 _ refl c.in_err-public_key.ensures.key)

pub returns-in_err-signature-clause-made : goal.returns-in_err-signature-clause-made
returns-in_err-signature-clause-made g c =
    handed_on _ _ _ _ c.from_residual-in_err-signature.ensures (signature_fails g.P.Scheme.checks c.args.key.now c.args.ca_repository.now _ _ _ c.in_ok-public_key.public_key c.in_err-signature.field-0.0 _ c.in_ok-public_key.ensures.key refl c.in_err-signature.ensures.signed)

pub returns-clause-made : goal.returns-clause-made
returns-clause-made g c =
    made_with g.P.Scheme.checks c.args.key.now c.in_ok-public_key.public_key _ c.in_ok-unsigned.unsigned _ _ _ c.as_slice.result.now c.in_ok-signature.signature _ c.in_ok-unsigned.ensures.fields c.key_within_limit.ensures.distinct c.in_ok-public_key.ensures.key c.as_slice.ensures
    c.in_ok-signature.ensures.signed c.in_ok-signature.ensures.algorithm c.in_ok-with_signature.ensures.octets c.in_ok-with_signature.ensures.again
