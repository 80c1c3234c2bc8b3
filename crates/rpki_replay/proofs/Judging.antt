-- What is answered to a message.
use Rattle.std.proofs.Common.{◌≡◌, ◌≢◌, ℕ, ℤ, Result, Ok, Err, List, OnErr, IfOk, codes, inl, inr, refl, subst, sym, ◌∙◌}
use Rattle.rpki_base.specs.PublicKey.{KeyFields}
use Rattle.rpki_base.specs.Scheme.{Relation}
use Rattle.rpki_der.specs.Takes.{RefusesOctets}
use Rattle.rpki_der.specs.declared.error.DecodeError.TheVariants.{Malformed}
use Rattle.rpki_der.specs.declared.mode.Mode.TheVariants.{Ber}
use Rattle.rpki_sigmsg.specs.Beginning.{BeginsSigned}
use Rattle.rpki_sigmsg.specs.Message.{MessageFields, signed_message}
use Rattle.rpki_ca.specs.Acceptance.{HoldsNoSigned}
use Rattle.rpki_replay.specs.declared.peers.Peer.{Peer}
use Rattle.rpki_replay.specs.declared.guard.GuardError.{GuardError}
use Rattle.rpki_replay.specs.declared.guard.GuardError.TheVariants.{OutOfMemory}
use Rattle.rpki_replay.specs.State.{put}
use Rattle.rpki_replay.specs.Admission.{IsAdmission, state_behind}
use Rattle.rpki_replay.specs.Messages.{Sent}
use Rattle.rpki_replay.specs.Shown.{answer_text}
use Rattle.rpki_replay.specs.Answers.{IsGuardAnswered}
use Rattle.rpki_common.proofs.Truths.{none_some}

pub no_signed : (octets : List ℕ) → RefusesOctets (signed_message Ber) Ber octets Malformed → HoldsNoSigned octets
unfolding RefusesOctets
no_signed octets refused = λ signed s. none_some signed (sym (refused s.value s.rest s.begins) ∙ s.reads)

behind : (peers next : List Peer) (key : KeyFields) (answer : Result ℤ GuardError) → IfOk answer (λ time. next ≡ put peers key time) → OnErr answer (next ≡ peers) → next ≡ state_behind peers key answer
behind peers next key (Ok time) admitted refused = admitted
behind peers next key (Err e) admitted refused = refused

pub is_judged : (scheme : Relation) (when : ℤ) (peers next : List Peer) (sent : Sent) (octets text : List ℕ) (signed : MessageFields) (answer : Result ℤ GuardError) → octets ≡ sent.octets → BeginsSigned octets signed
    → (answer ≢ Err OutOfMemory → IsAdmission scheme peers sent.peer signed when answer) → IfOk answer (λ time. next ≡ put peers sent.peer time) → OnErr answer (next ≡ peers)
    → answer ≢ Err OutOfMemory → text ≡ answer_text answer → IsGuardAnswered scheme when peers sent text next
is_judged scheme when peers next sent octets text signed answer are begins is admitted refused given written = inl (record {
  signed = signed;
  begins = subst (λ (l : List ℕ). BeginsSigned l signed) are begins;
  answer = answer;
  given = given;
  admission = is given;
  written = written;
  behind = behind peers next sent.peer answer admitted refused;
})

pub is_none : (scheme : Relation) (when : ℤ) (peers : List Peer) (sent : Sent) (octets text : List ℕ) → octets ≡ sent.octets → RefusesOctets (signed_message Ber) Ber octets Malformed → text ≡ codes "CmsDecode"
    → IsGuardAnswered scheme when peers sent text peers
is_none scheme when peers sent octets text are refused written = inr (record {
  none = subst HoldsNoSigned are (no_signed octets refused);
  written = written;
  behind = refl;
})
