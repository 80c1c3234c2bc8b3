-- What the guard's program answers to each line.
use Rattle.std.specs.Prelude.{◌≡◌, ◌≢◌, ◌⊎◌, ℕ, ℤ, Result, Err, List, ◌∷◌, ◌++◌, codes}
use Rattle.rpki_base.specs.Scheme.{Relation}
use Rattle.rpki_sigmsg.specs.Beginning.{BeginsSigned}
use Rattle.rpki_sigmsg.specs.Message.{MessageFields}
use Rattle.rpki_ca.specs.Acceptance.{HoldsNoSigned}
use Rattle.rpki_ca.specs.Steps.{AreAllSteps, AreFirstSteps}
use Rattle.rpki_replay.specs.declared.peers.Peer.{Peer}
use Rattle.rpki_replay.specs.declared.guard.GuardError.{GuardError}
use Rattle.rpki_replay.specs.declared.guard.GuardError.TheVariants.{OutOfMemory}
use Rattle.rpki_replay.specs.Shown.{answer_text}
use Rattle.rpki_replay.specs.Admission.{IsAdmission, state_behind}
use Rattle.rpki_replay.specs.StateText.{state_text}
use Rattle.rpki_replay.specs.Messages.{Sent, dash}

-- the octets begin with a signed message, in BER, and this is answered to it, which isn't want of
-- memory
pub record IsJudged (scheme : Relation) (when : ℤ) (peers : List Peer) (sent : Sent)
    (text : List ℕ) (next : List Peer) : Type 0 where
  pub signed : MessageFields
  pub begins : BeginsSigned sent.octets signed
  pub answer : Result ℤ GuardError
  pub given : answer ≢ Err OutOfMemory
  pub admission : IsAdmission scheme peers sent.peer signed when answer
  pub written : text ≡ answer_text answer
  pub behind : next ≡ state_behind peers sent.peer answer

-- the octets begin with no signed message, which leaves the state
pub record IsNoMessage (peers : List Peer) (sent : Sent) (text : List ℕ) (next : List Peer) : Type 0
  where
    pub none : HoldsNoSigned sent.octets
    pub written : text ≡ codes "CmsDecode"
    pub behind : next ≡ peers

-- the text that is answered to a line, and the state behind it
abbrev pub IsGuardAnswered : Relation → ℤ → List Peer → Sent → List ℕ → List Peer → Type 0
IsGuardAnswered scheme when peers sent text next =
    IsJudged scheme when peers sent text next ⊎ IsNoMessage peers sent text next

-- what is written behind the answers
abbrev pub closing_text : List Peer → List ℕ
closing_text peers = dash ++ (10 ∷ state_text peers)

-- the texts are the answers to all lines, one behind the other, and the closing text is that of the
-- state behind them
abbrev pub AreAllAnswered : Relation → ℤ → List Peer → List Sent → List (List ℕ) → List ℕ → Type 0
AreAllAnswered scheme when = AreAllSteps (IsGuardAnswered scheme when) closing_text

-- the texts are the answers to the first lines
abbrev pub AreFirstAnswered : Relation → ℤ → List Peer → List Sent → List (List ℕ) → Type 0
AreFirstAnswered scheme when = AreFirstSteps (IsGuardAnswered scheme when)
