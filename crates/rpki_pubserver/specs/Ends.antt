-- What the ends of a run of the publication server come to.
use Rattle.std.specs.Prelude.{◌≡◌, ◌⊎◌, ℕ, ℤ, Some, List, length, slice_get}
use Rattle.rpki_base.specs.Scheme.{Relation}
use Rattle.rpki_sigmsg.specs.Making.{HasWindow}
use Rattle.rpki_ca.specs.Creation.{CanSign}
use Rattle.rpki_ca.specs.Lines.{WroteAll, lines_of}
use Rattle.rpki_ca.specs.Seen.{Seen, SignerSeen}
use Rattle.rpki_ca.specs.Sent.{AreNotSent, AreSent}
use Rattle.rpki_ca.specs.Steps.{AreFirstSteps}
use Rattle.rpki_pubserver.specs.Server.{HasLongReply, ServerFields}
use Rattle.rpki_pubserver.specs.Serving.{AreAllReplied, IsReplied, with_signer}

-- all lines of the input are messages, and the replies to all of them were written
pub record RepliesAll {Id : Type 0} (scheme : Relation) (when : ℤ) (signer : SignerSeen Id)
    (server : ServerFields) (input : List ℕ) (sink : Seen) : Type 0 where
  pub messages : List (List ℕ)
  pub are : AreSent (lines_of input) messages
  pub wrote : WroteAll (AreAllReplied scheme when signer server messages) sink

-- the reply to some line, behind the lines before it, has a text of more than 2^31 octets
pub record HasLongLine {Id : Type 0} (scheme : Relation) (when : ℤ) (signer : SignerSeen Id)
    (server : ServerFields) (messages : List (List ℕ)) : Type 0 where
  pub texts : List (List ℕ)
  pub steps : AreFirstSteps (IsReplied scheme when signer.id) (with_signer server signer.before)
      messages texts
  pub octets : List ℕ
  pub stands : slice_get messages (length texts) ≡ Some octets
  pub long : HasLongReply scheme steps.last.server octets when

-- The signer holds a fitting key, and it neither failed nor gave too many octets, nor that key for
-- one use; and no reply has a text of more than 2^31 octets.
pub record ServerCanServe {Id : Type 0} (scheme : Relation) (when : ℤ) (signer : SignerSeen Id)
    (server : ServerFields) (input : List ℕ) : Type 0 where
  pub signs : CanSign signer
  pub short : (messages : List (List ℕ)) → AreSent (lines_of input) messages
      → HasLongLine scheme when signer server messages → ⊥

-- 0 or 12; or 3 where some line isn't hexadecimal, or 8 where the moment has no window
abbrev pub ServerEndsForCause : ℤ → List ℕ → ℕ → Type 0
ServerEndsForCause when input status =
    ((status ≡ 0) ⊎ (status ≡ 12))
    ⊎ (((status ≡ 3) × AreNotSent (lines_of input)) ⊎ ((status ≡ 8) × (HasWindow when → ⊥)))
