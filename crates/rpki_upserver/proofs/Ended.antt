-- How a run ends.
use Rattle.std.proofs.Common.{◌≡◌, ◌≤◌, ◌^◌, ℕ, Some, List, length, take, inl, inr, subst, sym}
use Rattle.rpki_base.specs.Scheme.{Relation}
use Rattle.rpki_ca.specs.Lines.{EndsRun, lines_of}
use Rattle.rpki_ca.specs.Seen.{HasFailed, Seen}
use Rattle.rpki_ca.specs.declared.refusals.Refusal.TheVariants as refusals
use Rattle.rpki_ca.specs.Creation.{CanSign}
use Rattle.rpki_ca.specs.declared.receiving.Received.TheVariants as received
use Rattle.rpki_ca.specs.declared.refusals.Refusal.{Refusal}
use Rattle.rpki_ca.proofs.Sending.{memory_unless, no_cause}
use Rattle.rpki_ca.proofs.Serving.{steps_keep}
use Rattle.rpki_signer.specs.Limits.{Keeps}
use Rattle.rpki_signer.proofs.States.{keeps_same}
use Rattle.rpki_sigmsg.specs.Making.{HasWindow}
use Rattle.rpki_ca.proofs.Ended.{lines_end, on_input_or_12, with_refusal}
use Rattle.rpki_upserver.specs.Answering.{ParentAndIssuer, reply, with_issuer}
use Rattle.rpki_upserver.specs.Ends.{ParentCanServe, ParentEndsForCause, HasLongLine}
use Rattle.rpki_upserver.specs.Running.{EndsParentServed, EndsParentRun, Run}
use Rattle.rpki_upserver.specs.Serving.{AreAllAnswered, AreFirstAnswered, IsLineAnswered, Service, StopsAnswering, service_of}

module _ {I : Type 0} (scheme : Relation) (run : Run I) where
  line_keeps : (before : Service I) (octets text : List ℕ) (after : Service I) → IsLineAnswered scheme run.when run.signer.id before octets text after → Keeps before.signer after.signer
  line_keeps before octets text after (inl replied) = replied.keeps
  line_keeps before octets text after (inr turned) = subst (λ (s : Service I). Keeps before.signer s.signer) (sym turned.behind) (keeps_same before.signer)

  -- no line stops it, where the signer can sign and no reply is too long
  stops_for_memory : (start : ParentAndIssuer) (messages texts : List (List ℕ)) (r : Refusal) → HasWindow run.when → CanSign run.signer → (HasLongLine scheme run start messages → ⊥) → StopsAnswering scheme run.when run.signer start run.issuer_after messages texts r → r ≡ refusals.OutOfMemory
  stops_for_memory start messages texts r w can short stops = memory_unless r (λ other.
      let f = stops.fails other in
      let last = stops.steps.last in
      let keeps = steps_keep (IsLineAnswered scheme run.when run.signer.id) (λ (s : Service I). s.signer) line_keeps (service_of start run.signer.before) (take (length texts) messages) texts last stops.steps.answered in
      no_cause run.when run.signer.id run.signer.before last.signer run.signer.after (received.Provisioning (reply last.parties.parent f.fails.payload)) can w keeps
      (λ long. short (record { texts = texts; steps = stops.steps; octets = f.octets; stands = f.stands; parent = f.parent; payload = f.fails.payload; decided = f.fails.decided; long = long })) r f.fails.cause)

  served_end : (input : List ℕ) (status : ℕ) (sink : Seen) → ParentCanServe scheme run input → ¬ (HasFailed sink) → EndsParentServed scheme run (lines_of input) status sink → ParentEndsForCause run input status
  served_end input status sink can none (inl a) =
      let start : ParentAndIssuer = with_issuer a.parent run.issuer_before in
      inl (lines_end (AreAllAnswered scheme run.when run.signer start run.issuer_after a.messages) (AreFirstAnswered scheme run.when run.signer start run.issuer_after a.messages) (StopsAnswering scheme run.when run.signer start run.issuer_after a.messages) status sink
      (λ texts r stops. stops_for_memory start a.messages texts r a.window_is can.signs (can.short a.messages a.are a.parent a.first) stops) none a.ends)
  served_end input status sink can none (inr (inl m)) = inr (inr (with_refusal refusals.Moment status sink none m.0.ends, m.0.none))
  served_end input status sink can none (inr (inr (inl hex))) = inr (inl (with_refusal refusals.Hex status sink none hex.1, hex.0))
  served_end input status sink can none (inr (inr (inr memory))) = inl (inr (with_refusal refusals.OutOfMemory status sink none memory.0))

  run_so : (status : ℕ) (source sink : Seen) → EndsParentRun scheme run status source sink → EndsRun (λ octets. EndsParentServed scheme run (lines_of octets) status sink) status source sink
  run_so status source sink (inl unread) = inl unread.0
  run_so status source sink (inr read) = inr read

  pub ends_so : (status : ℕ) (source sink : Seen) (input : List ℕ) → EndsParentRun scheme run status source sink → source.before ≡ Some input → length input ≤ 2 ^ 26
      → ¬ (HasFailed source) → ¬ (HasFailed sink) → ParentCanServe scheme run input → ParentEndsForCause run input status
  ends_so status source sink input ended e le sound whole can =
      elim (on_input_or_12 (λ octets. EndsParentServed scheme run (lines_of octets) status sink) status source sink input (run_so status source sink ended) e le sound whole) [
        | inl memory ↦ inl (inr memory)
        | inr ends ↦ served_end input status sink can whole ends
      ]
