-- What the parent's program answers to its lines.
use Rattle.std.specs.Prelude.{◌≡◌, ◌≢◌, ◌<◌, ◌≤◌, ◌^◌, ◌⊎◌, ◌∷◌, [], ℕ, ℤ, List, Err, Some, length, slice_get}
use Rattle.rpki_common.specs.Limits.{most_content}
use Rattle.rpki_base.specs.Scheme.{Relation}
use Rattle.rpki_signer.specs.Limits.{Keeps}
use Rattle.rpki_signer.specs.Signer.{SignerState}
use Rattle.rpki_sigmsg.specs.Making.{HasWindow}
use Rattle.rpki_provisioning.specs.Message.{text_of}
use Rattle.rpki_provisioning.specs.declared.payload.Payload.{Payload}
use Rattle.rpki_ca.specs.Answer.{IsReceiveAnswer}
use Rattle.rpki_ca.specs.Creation.{IsFirstToRefuse, IsTextCreated}
use Rattle.rpki_ca.specs.Refusal.{name_of}
use Rattle.rpki_ca.specs.Seen.{SignerSeen, seen_signer}
use Rattle.rpki_ca.specs.Sending.{IsSigningCause}
use Rattle.rpki_ca.specs.Steps.{AreAllSteps, AreFirstSteps}
use Rattle.rpki_ca.specs.declared.receiving.Kind.TheVariants as kinds
use Rattle.rpki_ca.specs.declared.receiving.Received.TheVariants as received
use Rattle.rpki_ca.specs.declared.refusals.Refusal.{Refusal}
use Rattle.rpki_ca.specs.declared.refusals.Refusal.TheVariants as refusals
use Rattle.rpki_upserver.specs.Answering.{IsDecided, IsUndecided, ParentAndIssuer, reply, with_issuer}
use Rattle.rpki_upserver.specs.Issuer.{IssuerState}
use Rattle.rpki_upserver.specs.Table.{ParentState}

-- a parent and the issuer that it asks, and what the signer of its replies holds and has done
pub record Service (Id : Type 0) : Type 0 where
  pub parties : ParentAndIssuer
  pub signer : SignerState Id

-- the service of these parties, whose signer is in this state
abbrev pub service_of : {Id : Type 0} → ParentAndIssuer → SignerState Id → Service Id
service_of parties signer = record { parties = parties; signer = signer }

-- ---- one line

-- The octets are accepted under the child's key, and the text is the hexadecimal of a signed
-- message that was created with the reply to them, as `create` does: at the moment, under the
-- issuing key, which the signer holds. The reply's text has at most 2^31 octets. Of that message
-- the reply is received: it is accepted under every list of keys that holds the issuing key, at
-- each second from 300 before the moment to 300 after it. Parent, issuer and signer are then so.
pub record IsReplied {Id : Type 0} (scheme : Relation) (when : ℤ) (id : Id) (before : Service Id)
    (octets text : List ℕ) (after : Service Id) : Type 0 where
  pub payload : Payload
  pub decided : IsDecided scheme octets when before.parties after.parties payload
  pub fits : length (text_of (reply before.parties.parent payload)) ≤ most_content
  pub created : IsTextCreated scheme kinds.Provisioning
      (received.Provisioning (reply before.parties.parent payload)) when
      (seen_signer id before.signer after.signer) text
  pub keeps : Keeps before.signer after.signer

-- The octets are not accepted, and the text is what `receive provisioning` writes of them under the
-- child's key. Parent, issuer and signer are as before.
pub record IsTurnedAway {Id : Type 0} (scheme : Relation) (when : ℤ) (before : Service Id)
    (octets text : List ℕ) (after : Service Id) : Type 0 where
  pub refusal : Refusal
  pub answer : IsReceiveAnswer scheme kinds.Provisioning octets
      (before.parties.parent.child_key ∷ []) when (Err refusal)
  pub written : text ≡ name_of refusal
  pub behind : after ≡ before

-- the text is the answer to the octets, and parent, issuer and signer are then so
abbrev pub IsLineAnswered : {Id : Type 0} → Relation → ℤ → Id → Service Id → List ℕ → List ℕ
    → Service Id → Type 0
IsLineAnswered scheme when id before octets text after =
    IsReplied scheme when id before octets text after
    ⊎ IsTurnedAway scheme when before octets text after

-- ---- all lines

-- The texts are the answers to all lines, one behind the other, and nothing is behind them. Issuer
-- and signer are then as the last answer left them.
pub record AreAllAnswered {Id : Type 0} (scheme : Relation) (when : ℤ) (signer : SignerSeen Id)
    (start : ParentAndIssuer) (issuer : IssuerState) (messages texts : List (List ℕ))
    (closing : List ℕ) : Type 0 where
  pub steps : AreAllSteps (IsLineAnswered scheme when signer.id) (λ last. [])
      (service_of start signer.before) messages texts closing
  pub issuer_is : issuer ≡ steps.last.parties.issuer
  pub signer_is : signer.after ≡ steps.last.signer

-- The texts are the answers to the first lines. Issuer and signer are then as the last one left
-- them.
pub record AreFirstAnswered {Id : Type 0} (scheme : Relation) (when : ℤ) (signer : SignerSeen Id)
    (start : ParentAndIssuer) (issuer : IssuerState) (messages texts : List (List ℕ)) : Type 0
  where
    pub steps : AreFirstSteps (IsLineAnswered scheme when signer.id)
        (service_of start signer.before) messages texts
    pub issuer_is : issuer ≡ steps.last.parties.issuer
    pub signer_is : signer.after ≡ steps.last.signer

-- ---- why no more lines are answered

-- what was done of a line that isn't answered: nothing, or what its reply was to say
abbrev pub IsLeft : Relation → ℤ → ParentAndIssuer → List ℕ → ParentAndIssuer → Type 0
IsLeft scheme when before octets after =
    IsUndecided before after
    ⊎ ((payload : Payload) × IsDecided scheme octets when before after payload)

-- The octets are accepted and the reply to them was decided, and isn't signed, for this cause: that
-- its text has more than 2^31 octets is always told, and of the signer's refusals it is the first.
pub record FailsLine {Id : Type 0} (scheme : Relation) (when : ℤ) (signer : SignerSeen Id)
    (before : ParentAndIssuer) (octets : List ℕ) (after : ParentAndIssuer) (refusal : Refusal)
    : Type 0 where
  pub payload : Payload
  pub decided : IsDecided scheme octets when before after payload
  pub cause : IsSigningCause when signer (received.Provisioning (reply before.parent payload))
      refusal
  pub too_long : HasWindow when → most_content < length (text_of (reply before.parent payload))
      → refusal ≡ refusals.TooLong
  pub first : length (text_of (reply before.parent payload)) ≤ most_content
      → IsFirstToRefuse scheme (text_of (reply before.parent payload)) when signer refusal

-- what the issuer is then, where the line at this place isn't answered
pub record IsLeftAt (scheme : Relation) (when : ℤ) (last : ParentAndIssuer)
    (messages : List (List ℕ)) (place : ℕ) (issuer : IssuerState) : Type 0 where
  pub octets : List ℕ
  pub stands : slice_get messages place ≡ Some octets
  pub parent : ParentState
  pub left : IsLeft scheme when last octets (with_issuer parent issuer)

-- the line at this place isn't answered, for this cause, and the issuer is then so
pub record FailsLineAt {Id : Type 0} (scheme : Relation) (when : ℤ) (signer : SignerSeen Id)
    (last : ParentAndIssuer) (messages : List (List ℕ)) (place : ℕ) (issuer : IssuerState)
    (refusal : Refusal) : Type 0 where
  pub octets : List ℕ
  pub stands : slice_get messages place ≡ Some octets
  pub parent : ParentState
  pub fails : FailsLine scheme when signer last octets (with_issuer parent issuer) refusal

-- The texts are the answers to the first lines, and the next line isn't answered, for this cause.
-- Of want of memory no more is said than that the issuer did nothing besides but what that line
-- asks for, and that the signer holds the same keys.
pub record StopsAnswering {Id : Type 0} (scheme : Relation) (when : ℤ) (signer : SignerSeen Id)
    (start : ParentAndIssuer) (issuer : IssuerState) (messages texts : List (List ℕ))
    (refusal : Refusal) : Type 0 where
  pub steps : AreFirstSteps (IsLineAnswered scheme when signer.id)
      (service_of start signer.before) messages texts
  pub keeps : Keeps steps.last.signer signer.after
  pub left : IsLeftAt scheme when steps.last.parties messages (length texts) issuer
  pub fails : refusal ≢ refusals.OutOfMemory → FailsLineAt scheme when
      (seen_signer signer.id steps.last.signer signer.after) steps.last.parties messages
      (length texts) issuer refusal
