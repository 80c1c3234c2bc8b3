use Rattle.std.proofs.Common.{◌≡◌, subst}
use Rattle.std.specs.Prelude.{IfOk}
use Rattle.rpki_base.specs.PublicKey.{KeyFields}
use Rattle.rpki_signer.specs.Toy.{toy_signature}
use Rattle.rpki_signer.proofs.toy_signer.key_signature.Goals as goal

pub returns : goal.returns
returns c = subst (λ (k : KeyFields). IfOk c.signature.result (λ s. s ≡ toy_signature k c.args.message.now)) c.in_ok-key.ensures c.signature.ensures
