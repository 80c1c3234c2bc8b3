-- What the guard's program does with words and input.
use Rattle.std.specs.Prelude.{◌≡◌, ◌⊎◌, ℕ, ℤ, Err, List, ◌∷◌, [], ◌++◌, codes, length}
use Rattle.rpki_base.specs.Scheme.{Relation}
use Rattle.rpki_ca.specs.Answer.{Ends}
use Rattle.rpki_ca.specs.Lines.{EndsLines, EndsWith, StopsForMemory}
use Rattle.rpki_ca.specs.Seen.{Seen}
use Rattle.rpki_ca.specs.Words.{IsMomentAt}
use Rattle.rpki_ca.specs.declared.refusals.Refusal.TheVariants.{Hex, OutOfMemory}
use Rattle.rpki_replay.specs.declared.peers.Peer.{Peer}
use Rattle.rpki_replay.specs.Answers.{AreAllAnswered, AreFirstAnswered}
use Rattle.rpki_replay.specs.Messages.{AreNotSent, AreSent, HasNoState, OpensWithState, Sent}

-- the only word is this moment
pub record AreGuardWords (words : List (List ℕ)) (when : ℤ) : Type 0 where
  pub one : length words ≡ 1
  pub moment : IsMomentAt words 0 when

-- the words are not one moment alone
abbrev pub AreNoGuardWords : List (List ℕ) → Type 0
AreNoGuardWords words = (when : ℤ) → AreGuardWords words when → ⊥

-- what is written where the input holds no state
abbrev pub bad_state : List ℕ
bad_state = codes "BadState" ++ 10 ∷ []

-- How it ends where these lines are all messages: they are answered one behind the other.
pub record EndsGuardAnswered (scheme : Relation) (when : ℤ) (peers : List Peer)
    (lines : List (List ℕ)) (status : ℕ) (sink : Seen) : Type 0 where
  pub messages : List Sent
  pub are : AreSent lines messages
  pub ends : EndsLines (AreAllAnswered scheme when peers messages)
      (AreFirstAnswered scheme when peers messages)
      (StopsForMemory (AreFirstAnswered scheme when peers messages)) status sink

-- how it ends behind a state, where these lines follow: all are messages, and are answered; or some
-- line is none; or memory ran out
abbrev pub EndsMessages : Relation → ℤ → List Peer → List (List ℕ) → ℕ → Seen → Type 0
EndsMessages scheme when peers lines status sink =
    EndsGuardAnswered scheme when peers lines status sink
    ⊎ ((AreNotSent lines × Ends (Err Hex) status sink) ⊎ Ends (Err OutOfMemory) status sink)

-- How it ends on an input that begins with a state: by the lines behind that.
pub record EndsState (scheme : Relation) (when : ℤ) (input : List ℕ) (status : ℕ) (sink : Seen)
    : Type 0 where
  pub peers : List Peer
  pub lines : List (List ℕ)
  pub opens : OpensWithState input peers lines
  pub ends : EndsMessages scheme when peers lines status sink

-- how it ends on an input: it begins with a state; or it doesn't; or memory ran out
abbrev pub EndsInput : Relation → ℤ → List ℕ → ℕ → Seen → Type 0
EndsInput scheme when input status sink =
    EndsState scheme when input status sink
    ⊎ ((HasNoState input × EndsWith 13 bad_state status sink)
    ⊎ Ends (Err OutOfMemory) status sink)
