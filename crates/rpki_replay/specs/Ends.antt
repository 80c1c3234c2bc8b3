-- What the ends of a run of the guard come to.
use Rattle.std.specs.Prelude.{◌≡◌, ◌⊎◌, ℕ, ℤ, List}
use Rattle.rpki_base.specs.Scheme.{Relation}
use Rattle.rpki_ca.specs.Lines.{WroteAll}
use Rattle.rpki_ca.specs.Seen.{Seen}
use Rattle.rpki_replay.specs.declared.peers.Peer.{Peer}
use Rattle.rpki_replay.specs.Answers.{AreAllAnswered}
use Rattle.rpki_replay.specs.Messages.{AreNotSent, AreSent, HasNoState, OpensWithState, Sent}

-- the input begins with a state, all lines behind it are messages, and the answers to all of them
-- and the new state were written
pub record GuardAnswersAll (scheme : Relation) (when : ℤ) (input : List ℕ) (sink : Seen)
    : Type 0 where
  pub peers : List Peer
  pub lines : List (List ℕ)
  pub messages : List Sent
  pub opens : OpensWithState input peers lines
  pub are : AreSent lines messages
  pub wrote : WroteAll (AreAllAnswered scheme when peers messages) sink

-- the input begins with a state, and some line behind it is no message
pub record HasOtherLine (input : List ℕ) : Type 0 where
  pub peers : List Peer
  pub lines : List (List ℕ)
  pub opens : OpensWithState input peers lines
  pub none : AreNotSent lines

-- 0 or 12; or 3 or 13, where the input is none of the program
abbrev pub GuardEndsForCause : List ℕ → ℕ → Type 0
GuardEndsForCause input status =
    ((status ≡ 0) ⊎ (status ≡ 12))
    ⊎ (((status ≡ 3) × HasOtherLine input) ⊎ ((status ≡ 13) × HasNoState input))
