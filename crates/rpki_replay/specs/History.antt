-- Many calls of a guard, one behind the other.
use Rattle.std.specs.Prelude.{◌<ℤ◌, ℤ, if◌then◌else◌, Option, None, Some, Result, Ok, Err, List, [], ◌∷◌, ⊤}
use Rattle.rpki_base.specs.PublicKey.{KeyFields}
use Rattle.rpki_base.specs.Scheme.{Relation}
use Rattle.rpki_sigmsg.specs.Message.{MessageFields}
use Rattle.rpki_replay.specs.declared.peers.Peer.{Peer}
use Rattle.rpki_replay.specs.declared.guard.GuardError.{GuardError}
use Rattle.rpki_replay.specs.Admission.{IsAdmission, state_behind}
use Rattle.rpki_ca.specs.Keys.{same_key}

-- a call: the peer's key, the message, the moment, and what was answered
pub record Call : Type 0 where
  pub key : KeyFields
  pub message : MessageFields
  pub when : ℤ
  pub answer : Result ℤ GuardError

-- each call was answered by the state that the calls before it left
abbrev pub AreMade : Relation → List Peer → List Call → Type 0
AreMade scheme peers [] = ⊤
AreMade scheme peers (call ∷ calls) =
    IsAdmission scheme peers call.key call.message call.when call.answer
    × AreMade scheme (state_behind peers call.key call.answer) calls

-- the times, with the one that was admitted in front, if one was
abbrev pub times_with : Result ℤ GuardError → List ℤ → List ℤ
times_with (Ok time) times = time ∷ times
times_with (Err error) times = times

-- the times that were admitted under a key, in order
abbrev pub times_under : KeyFields → List Call → List ℤ
times_under key [] = []
times_under key (call ∷ calls) =
    if same_key key call.key then times_with call.answer (times_under key calls)
    else times_under key calls

-- the time is later than the last one, if there is one
abbrev pub IsLaterThan : Option ℤ → ℤ → Type 0
IsLaterThan None time = ⊤
IsLaterThan (Some last) time = last <ℤ time

-- each time is later than the one before it, and the first is later than the last one, if there is
-- one
abbrev pub Rise : Option ℤ → List ℤ → Type 0
Rise last [] = ⊤
Rise last (time ∷ times) = IsLaterThan last time × Rise (Some time) times
