-- What the publication server's program answers to its lines.
use Rattle.std.specs.Prelude.{◌≡◌, ◌≢◌, ◌≤◌, ◌<◌, ℕ, ℤ, Some, List, [], length, slice_get}
use Rattle.rpki_common.specs.Limits.{most_content}
use Rattle.rpki_base.specs.Scheme.{Relation}
use Rattle.rpki_publication.specs.Message.{text_of}
use Rattle.rpki_signer.specs.Limits.{Keeps}
use Rattle.rpki_signer.specs.Signer.{SignerState}
use Rattle.rpki_sigmsg.specs.Making.{HasWindow}
use Rattle.rpki_ca.specs.declared.receiving.Kind.TheVariants as kinds
use Rattle.rpki_ca.specs.declared.receiving.Received.TheVariants as received
use Rattle.rpki_ca.specs.declared.refusals.Refusal.{Refusal}
use Rattle.rpki_ca.specs.declared.refusals.Refusal.TheVariants as refusals
use Rattle.rpki_ca.specs.Creation.{IsFirstToRefuse, IsTextCreated}
use Rattle.rpki_ca.specs.Seen.{SignerSeen, seen_signer}
use Rattle.rpki_ca.specs.Sending.{IsSigningCause}
use Rattle.rpki_ca.specs.Steps.{AreAllSteps, AreFirstSteps}
use Rattle.rpki_pubserver.specs.Replies.{Reply}
use Rattle.rpki_pubserver.specs.Server.{IsReply, ServerFields, with_store}

-- the server, and what the signer of its replies holds and has done
pub record ServerAndSigner (Id : Type 0) : Type 0 where
  pub server : ServerFields
  pub signer : SignerState Id

-- the pair of this server and this state of the signer
abbrev pub with_signer : {Id : Type 0} → ServerFields → SignerState Id → ServerAndSigner Id
with_signer server signer = record { server = server; signer = signer }

-- The text is the hexadecimal of a signed message that was created with the reply to these octets,
-- as `create` does: at the moment, under the issuing key, which the signer holds. The reply's text
-- has at most 2^31 octets. Of that message the reply is received: it is accepted as its normal
-- form, under every list of keys that holds the issuing key, at each second from 300 before the
-- moment to 300 after it. Server and signer are then so.
pub record IsReplied {Id : Type 0} (scheme : Relation) (when : ℤ) (id : Id)
    (before : ServerAndSigner Id) (octets text : List ℕ) (next : ServerAndSigner Id) : Type 0 where
  pub reply : Reply
  pub is : IsReply scheme before.server octets when reply
  pub fits : length (text_of reply.message) ≤ most_content
  pub created : IsTextCreated scheme kinds.Publication (received.Publication reply.message) when
      (seen_signer id before.signer next.signer) text
  pub keeps : Keeps before.signer next.signer
  pub behind : next.server ≡ with_store before.server reply.next

-- The texts are the replies to all lines, one behind the other, and nothing is behind them. The
-- signer is then as the last reply left it.
pub record AreAllReplied {Id : Type 0} (scheme : Relation) (when : ℤ) (signer : SignerSeen Id)
    (server : ServerFields) (messages texts : List (List ℕ)) (closing : List ℕ) : Type 0 where
  pub steps : AreAllSteps (IsReplied scheme when signer.id) (λ last. [])
      (with_signer server signer.before) messages texts closing
  pub signer_is : signer.after ≡ steps.last.signer

-- the texts are the replies to the first lines, and the signer is then as the last one left it
pub record AreFirstReplied {Id : Type 0} (scheme : Relation) (when : ℤ) (signer : SignerSeen Id)
    (server : ServerFields) (messages texts : List (List ℕ)) : Type 0 where
  pub steps : AreFirstSteps (IsReplied scheme when signer.id) (with_signer server signer.before)
      messages texts
  pub signer_is : signer.after ≡ steps.last.signer

-- ---- why no more lines are answered

-- The reply to a line isn't signed, for this cause: that its text has more than 2^31 octets is
-- always told, and of the signer's refusals it is the first.
pub record FailsLine {Id : Type 0} (scheme : Relation) (when : ℤ) (signer : SignerSeen Id)
    (server : ServerFields) (octets : List ℕ) (refusal : Refusal) : Type 0 where
  pub reply : Reply
  pub is : IsReply scheme server octets when reply
  pub cause : IsSigningCause when signer (received.Publication reply.message) refusal
  pub too_long : HasWindow when → most_content < length (text_of reply.message)
      → refusal ≡ refusals.TooLong
  pub first : length (text_of reply.message) ≤ most_content
      → IsFirstToRefuse scheme (text_of reply.message) when signer refusal

-- the line at this place isn't answered, for this cause
pub record FailsLineAt {Id : Type 0} (scheme : Relation) (when : ℤ) (signer : SignerSeen Id)
    (server : ServerFields) (messages : List (List ℕ)) (place : ℕ) (refusal : Refusal) : Type 0
  where
    pub octets : List ℕ
    pub stands : slice_get messages place ≡ Some octets
    pub fails : FailsLine scheme when signer server octets refusal

-- The texts are the replies to the first lines, and the next line isn't answered, for this cause.
-- Of want of memory no more is said than that the signer holds the same keys.
pub record StopsReplying {Id : Type 0} (scheme : Relation) (when : ℤ) (signer : SignerSeen Id)
    (server : ServerFields) (messages texts : List (List ℕ)) (refusal : Refusal) : Type 0 where
  pub steps : AreFirstSteps (IsReplied scheme when signer.id) (with_signer server signer.before)
      messages texts
  pub keeps : Keeps steps.last.signer signer.after
  pub fails : refusal ≢ refusals.OutOfMemory → FailsLineAt scheme when
      (seen_signer signer.id steps.last.signer signer.after) steps.last.server messages
      (length texts) refusal
