-- What the ends of a run of the parent come to.
use Rattle.std.specs.Prelude.{◌≡◌, ◌<◌, ◌^◌, ◌⊎◌, ℕ, Some, List, length, slice_get}
use Rattle.rpki_common.specs.Limits.{most_content}
use Rattle.rpki_base.specs.Scheme.{Relation}
use Rattle.rpki_sigmsg.specs.Making.{HasWindow}
use Rattle.rpki_ca.specs.Creation.{CanSign}
use Rattle.rpki_ca.specs.Lines.{WroteAll, lines_of}
use Rattle.rpki_ca.specs.Seen.{Seen}
use Rattle.rpki_provisioning.specs.Message.{text_of}
use Rattle.rpki_provisioning.specs.declared.payload.Payload.{Payload}
use Rattle.rpki_ca.specs.Sent.{AreNotSent, AreSent}
use Rattle.rpki_ca.specs.Steps.{AreFirstSteps}
use Rattle.rpki_upserver.specs.Answering.{IsDecided, ParentAndIssuer, reply, with_issuer}
use Rattle.rpki_upserver.specs.Running.{IsFirstParent, Run}
use Rattle.rpki_upserver.specs.Serving.{AreAllAnswered, IsLineAnswered, service_of}
use Rattle.rpki_upserver.specs.Table.{ParentState}

-- All lines of the input are those of octets, and the answers to all of them were written, from the
-- parent at first; the issuer did what they say, and nothing else.
pub record ParentAnswersAll {Id : Type 0} (scheme : Relation) (run : Run Id) (input : List ℕ)
    (sink : Seen) : Type 0 where
  pub messages : List (List ℕ)
  pub are : AreSent (lines_of input) messages
  pub parent : ParentState
  pub first : IsFirstParent run.key run.signing parent
  pub wrote : WroteAll (AreAllAnswered scheme run.when run.signer
      (with_issuer parent run.issuer_before) run.issuer_after messages) sink

-- The reply to some line, behind the lines before it, was decided in the run, which left the issuer
-- so, and has a text of more than 2^31 octets.
pub record HasLongLine {Id : Type 0} (scheme : Relation) (run : Run Id) (start : ParentAndIssuer)
    (messages : List (List ℕ)) : Type 0 where
  pub texts : List (List ℕ)
  pub steps : AreFirstSteps (IsLineAnswered scheme run.when run.signer.id)
      (service_of start run.signer.before) messages texts
  pub octets : List ℕ
  pub stands : slice_get messages (length texts) ≡ Some octets
  pub parent : ParentState
  pub payload : Payload
  pub decided : IsDecided scheme octets run.when steps.last.parties
      (with_issuer parent run.issuer_after) payload
  pub long : most_content < length (text_of (reply steps.last.parties.parent payload))

-- The signer holds a fitting key, and it neither failed nor gave too many octets, nor that key for
-- one use; and no reply that was decided has a text of more than 2^31 octets.
pub record ParentCanServe {Id : Type 0} (scheme : Relation) (run : Run Id) (input : List ℕ) : Type 0
  where
    pub signs : CanSign run.signer
    pub short : (messages : List (List ℕ)) → AreSent (lines_of input) messages
        → (parent : ParentState) → IsFirstParent run.key run.signing parent
        → HasLongLine scheme run (with_issuer parent run.issuer_before) messages → ⊥

-- 0 or 12; or 3 where some line isn't hexadecimal, or 8 where the moment has no window
abbrev pub ParentEndsForCause : {Id : Type 0} → Run Id → List ℕ → ℕ → Type 0
ParentEndsForCause run input status =
    ((status ≡ 0) ⊎ (status ≡ 12))
    ⊎ (((status ≡ 3) × AreNotSent (lines_of input)) ⊎ ((status ≡ 8) × (HasWindow run.when → ⊥)))
