-- A signed message holds the message.
use Rattle.std.proofs.Common.{◌≡◌, ℤ, Result, Ok, Err, IfOk}
use Rattle.rpki_base.specs.Scheme.{Relation}
use Rattle.rpki_sigmsg.specs.declared.create_error.CreateError.{CreateError}
use Rattle.rpki_publication.specs.Cms.{CmsFields}
use Rattle.rpki_publication.specs.declared.message.Message.{Message}
use Rattle.rpki_ca.specs.declared.receiving.Received.TheVariants as received
use Rattle.rpki_ca.specs.Seen.{SignerSeen}
use Rattle.rpki_ca.specs.Sending.{IsSentAs}
use Rattle.rpki_pubserver.specs.Server.{IsSignedReply}

pub holds_so : {I E : Type 0} (scheme : Relation) (when : ℤ) (signer : SignerSeen I) (message : Message) (r : Result CmsFields (CreateError E)) → IfOk r (λ c. c.message ≡ message) → IfOk r (λ c. IsSentAs scheme when signer (received.Publication message) c.signed)
    → IfOk r (IsSignedReply scheme when signer message)
holds_so scheme when signer message (Ok c) same signed = record { message_is = same; signed = signed }
holds_so scheme when signer message (Err e) same signed = tt
