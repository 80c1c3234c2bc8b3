-- How a run ends.
use Rattle.std.proofs.Common.{◌≡◌, ◌≤◌, ◌^◌, ℕ, ℤ, Some, List, length, take, inl, inr}
use Rattle.rpki_base.specs.Scheme.{Relation}
use Rattle.rpki_ca.specs.Creation.{CanSign}
use Rattle.rpki_ca.specs.Lines.{EndsRun, lines_of}
use Rattle.rpki_ca.specs.Seen.{HasFailed, Seen, SignerSeen}
use Rattle.rpki_sigmsg.specs.Making.{HasWindow}
use Rattle.rpki_ca.specs.declared.receiving.Received.TheVariants as received
use Rattle.rpki_ca.specs.declared.refusals.Refusal.{Refusal}
use Rattle.rpki_ca.specs.declared.refusals.Refusal.TheVariants as refusals
use Rattle.rpki_ca.proofs.Sending.{memory_unless, no_cause}
use Rattle.rpki_ca.proofs.Serving.{steps_keep}
use Rattle.rpki_ca.proofs.Ended.{lines_end, no_refusal, on_input, on_input_or_12, with_refusal, wrote_all}
use Rattle.rpki_pubserver.specs.Ends.{ServerCanServe, ServerEndsForCause, HasLongLine, RepliesAll}
use Rattle.rpki_pubserver.specs.Running.{EndsServerServed, EndsServerRun}
use Rattle.rpki_pubserver.specs.Server.{ServerFields}
use Rattle.rpki_pubserver.specs.Serving.{AreAllReplied, AreFirstReplied, IsReplied, ServerAndSigner, StopsReplying, with_signer}

module _ {I : Type 0} (scheme : Relation) (when : ℤ) (signer : SignerSeen I) (server : ServerFields) where
  -- no line stops it, where the signer can sign and no reply is too long
  stops_for_memory : (messages texts : List (List ℕ)) (r : Refusal) → HasWindow when → CanSign signer → (HasLongLine scheme when signer server messages → ⊥) → StopsReplying scheme when signer server messages texts r → r ≡ refusals.OutOfMemory
  stops_for_memory messages texts r w can short stops = memory_unless r (λ other.
      let f = stops.fails other in
      let last = stops.steps.last in
      let keeps = steps_keep (IsReplied scheme when signer.id) (λ (s : ServerAndSigner I). s.signer) (λ state line text next is. is.keeps) (with_signer server signer.before) (take (length texts) messages) texts last stops.steps.answered in
      no_cause when signer.id signer.before last.signer signer.after (received.Publication f.fails.reply.message) can w keeps
      (λ long. short (record { texts = texts; steps = stops.steps; octets = f.octets; stands = f.stands; long = record { reply = f.fails.reply; is = f.fails.is; long = long } })) r f.fails.cause)

  served_end : (input : List ℕ) (status : ℕ) (sink : Seen) → ServerCanServe scheme when signer server input → ¬ (HasFailed sink) → EndsServerServed scheme when signer server (lines_of input) status sink → ServerEndsForCause when input status
  served_end input status sink can none (inl a) =
      inl (lines_end (AreAllReplied scheme when signer server a.messages) (AreFirstReplied scheme when signer server a.messages) (StopsReplying scheme when signer server a.messages) status sink
      (λ texts r stops. stops_for_memory a.messages texts r a.window_is can.signs (can.short a.messages a.are) stops) none a.ends)
  served_end input status sink can none (inr (inl m)) = inr (inr (with_refusal refusals.Moment status sink none m.0.ends, m.0.none))
  served_end input status sink can none (inr (inr (inl hex))) = inr (inl (with_refusal refusals.Hex status sink none hex.1, hex.0))
  served_end input status sink can none (inr (inr (inr memory))) = inl (inr (with_refusal refusals.OutOfMemory status sink none memory.0))

  run_so : (status : ℕ) (source sink : Seen) → EndsServerRun scheme when signer server status source sink → EndsRun (λ octets. EndsServerServed scheme when signer server (lines_of octets) status sink) status source sink
  run_so status source sink (inl unread) = inl unread.0
  run_so status source sink (inr read) = inr read

  pub ends_so : (status : ℕ) (source sink : Seen) (input : List ℕ) → EndsServerRun scheme when signer server status source sink → source.before ≡ Some input → length input ≤ 2 ^ 26
      → ¬ (HasFailed source) → ¬ (HasFailed sink) → ServerCanServe scheme when signer server input → ServerEndsForCause when input status
  ends_so status source sink input run e le sound whole can =
      elim (on_input_or_12 (λ octets. EndsServerServed scheme when signer server (lines_of octets) status sink) status source sink input (run_so status source sink run) e le sound whole) [
        | inl memory ↦ inl (inr memory)
        | inr ends ↦ served_end input status sink can whole ends
      ]

  -- ---- with 0

  wrote_served : (input : List ℕ) (sink : Seen) → EndsServerServed scheme when signer server (lines_of input) 0 sink → RepliesAll scheme when signer server input sink
  wrote_served input sink (inl a) = record {
    messages = a.messages;
    are = a.are;
    wrote = wrote_all (AreAllReplied scheme when signer server a.messages) (AreFirstReplied scheme when signer server a.messages) (StopsReplying scheme when signer server a.messages) sink a.ends;
  }
  wrote_served input sink (inr (inl m)) = absurd (no_refusal refusals.Moment sink m.0.ends)
  wrote_served input sink (inr (inr (inl hex))) = absurd (no_refusal refusals.Hex sink hex.1)
  wrote_served input sink (inr (inr (inr memory))) = absurd (no_refusal refusals.OutOfMemory sink memory.0)

  pub replies_all : (source sink : Seen) (input : List ℕ) → EndsServerRun scheme when signer server 0 source sink → source.before ≡ Some input → RepliesAll scheme when signer server input sink
  replies_all source sink input run e = wrote_served input sink (on_input (λ octets. EndsServerServed scheme when signer server (lines_of octets) 0 sink) source sink input (run_so 0 source sink run) e)
