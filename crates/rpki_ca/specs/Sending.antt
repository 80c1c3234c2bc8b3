-- Messages that a program signs as its answers, and why one isn't signed.
use Rattle.std.specs.Prelude.{◌≡◌, ◌<◌, ◌≤◌, ◌^◌, ◌⊎◌, ℤ, length}
use Rattle.rpki_common.specs.Causes.{Rose}
use Rattle.rpki_common.specs.Limits.{most_content}
use Rattle.rpki_base.specs.declared.algorithm.SigningAlgorithm.TheVariants.{RsaSha256}
use Rattle.rpki_base.specs.Scheme.{Relation}
use Rattle.rpki_signer.specs.Signer.{LacksKey, IsUnfit}
use Rattle.rpki_sigmsg.specs.declared.create_error.CreateError.{CreateError}
use Rattle.rpki_sigmsg.specs.declared.create_error.CreateError.TheVariants as create
use Rattle.rpki_sigmsg.specs.FirstRefusals.{IsFirstRefusal}
use Rattle.rpki_sigmsg.specs.Making.{CreateFails, HasWindow, IsMessageCreated, IsReused}
use Rattle.rpki_sigmsg.specs.Message.{MessageFields}
use Rattle.rpki_sigmsg.specs.Spelling.{CanSpellMessage, rewritten}
use Rattle.rpki_ca.specs.declared.receiving.Received.{Received}
use Rattle.rpki_ca.specs.declared.refusals.Refusal.{Refusal}
use Rattle.rpki_ca.specs.declared.refusals.Refusal.TheVariants as refusals
use Rattle.rpki_ca.specs.Acceptance.{protocol_of, accepted_text}
use Rattle.rpki_ca.specs.Creation.{IsReceivable}
use Rattle.rpki_ca.specs.Seen.{SignerSeen}

-- ---- one message

-- Its text has at most 2^31 octets, and the signed message was created with it at the moment. What
-- is written of it is accepted as the message's normal form, under every list of keys that holds
-- the issuing key, at each second from 300 before the moment to 300 after it.
pub record IsSentAs {Id : Type 0} (scheme : Relation) (when : ℤ) (signer : SignerSeen Id)
    (message : Received) (signed : MessageFields) : Type 0 where
  pub fits : length (accepted_text message) ≤ most_content
  pub created : IsMessageCreated scheme (accepted_text message) when signer.id signer.before
      signer.after signed
  pub receivable : CanSpellMessage signed
      → IsReceivable scheme (protocol_of message) (rewritten signed) message when signer

-- It isn't signed for this cause: that the moment has no window, and else that the message's text
-- has more than 2^31 octets, are always told; and of the signer's refusals it is the first.
pub record FailsToSign {Id E : Type 0} (scheme : Relation) (when : ℤ) (signer : SignerSeen Id)
    (message : Received) (error : CreateError E) : Type 0 where
  pub cause : CreateFails (accepted_text message) when signer.id signer.before signer.after error
  pub moment : (HasWindow when → ⊥) → error ≡ create.Moment
  pub too_long : HasWindow when → most_content < length (accepted_text message)
      → error ≡ create.TooLong
  pub first_refusal : IsFirstRefusal scheme (accepted_text message) when signer.id signer.before
      signer.after error

-- why a reply isn't signed, as a program tells it
abbrev pub IsSigningCause : {Id : Type 0} → ℤ → SignerSeen Id → Received → Refusal → Type 0
IsSigningCause when signer message refusals.Moment = HasWindow when → ⊥
IsSigningCause when signer message refusals.TooLong =
    Rose signer.before.overlong signer.after.overlong
    ⊎ (most_content < length (accepted_text message))
IsSigningCause when signer message refusals.KeyReused =
    IsReused signer.id signer.before signer.after
IsSigningCause when signer message refusals.KeyNotFound = LacksKey signer.before.keyring signer.id
IsSigningCause when signer message refusals.IncompatibleKey =
    IsUnfit RsaSha256 signer.before.keyring signer.id
IsSigningCause when signer message refusals.Signer =
    Rose signer.before.faults signer.after.faults
IsSigningCause when signer message other = ⊥
