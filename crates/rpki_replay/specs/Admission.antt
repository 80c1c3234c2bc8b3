-- Which message of a peer is admitted.
use Rattle.std.specs.Prelude.{◌≡◌, ℤ, if◌then◌else◌, Option, None, Some, Result, Ok, Err}
use Rattle.std.specs.Prelude.{List}
use Rattle.std.specs.Int.Signed.{lt_z}
use Rattle.rpki_base.specs.PublicKey.{KeyFields}
use Rattle.rpki_base.specs.Scheme.{Relation}
use Rattle.rpki_base.specs.declared.validation.ValidationError.{ValidationError}
use Rattle.rpki_sigmsg.specs.Checks.{IsValidation}
use Rattle.rpki_sigmsg.specs.Message.{MessageFields}
use Rattle.rpki_replay.specs.declared.peers.Peer.{Peer}
use Rattle.rpki_replay.specs.declared.guard.GuardError.{GuardError}
use Rattle.rpki_replay.specs.declared.guard.GuardError.TheVariants.{Validation, NoTime, Replayed}
use Rattle.rpki_replay.specs.State.{last_of, put}

-- what comes of the time of signing, where this time is held for the peer's key: it has to be there
-- and later
abbrev pub judged : Option ℤ → Option ℤ → Result ℤ GuardError
judged last None = Err NoTime
judged None (Some seen) = Ok seen
judged (Some last) (Some seen) =
    if lt_z last seen then Ok seen else Err (Replayed last seen)

-- what comes of a message: the first check that fails, or what comes of its time of signing
abbrev pub answer_behind : Result (Unit {0}) ValidationError → Option ℤ → Option ℤ
    → Result ℤ GuardError
answer_behind (Err failed) last seen = Err (Validation failed)
answer_behind (Ok passed) last seen = judged last seen

-- the answer to a message of the peer with this key, at a moment
pub record IsAdmission (scheme : Relation) (peers : List Peer) (key : KeyFields) (m : MessageFields)
    (when : ℤ) (answer : Result ℤ GuardError) : Type 0 where
  pub validation : Result (Unit {0}) ValidationError
  pub validates : IsValidation scheme m key when validation
  pub is : answer ≡ answer_behind validation (last_of peers key) m.signing_time

-- the answer to a message of the peer with this key, at a moment, is that it is admitted
pub record WouldBeAdmitted (scheme : Relation) (peers : List Peer) (key : KeyFields)
    (m : MessageFields) (when : ℤ) : Type 0 where
  pub time : ℤ
  pub admits : IsAdmission scheme peers key m when (Ok time)

-- the state behind the answer: every refusal leaves it
abbrev pub state_behind : List Peer → KeyFields → Result ℤ GuardError → List Peer
state_behind peers key (Ok time) = put peers key time
state_behind peers key (Err error) = peers
