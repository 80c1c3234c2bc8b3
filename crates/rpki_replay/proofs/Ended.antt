-- How a run ends.
use Rattle.std.proofs.Common.{◌≡◌, ◌≤◌, ◌^◌, ℕ, ℤ, Some, List, length, inl, inr, arith}
use Rattle.rpki_base.specs.Scheme.{Relation}
use Rattle.rpki_ca.specs.Lines.{EndsRun, StopsForMemory}
use Rattle.rpki_ca.specs.Seen.{HasFailed, Seen}
use Rattle.rpki_ca.specs.declared.refusals.Refusal.TheVariants as refusals
use Rattle.rpki_ca.proofs.Ended.{lines_end, no_eleven, no_zero, on_input, on_input_or_12, with_refusal, with_whole, wrote_all}
use Rattle.rpki_replay.specs.Answers.{AreAllAnswered, AreFirstAnswered}
use Rattle.rpki_replay.specs.Ends.{GuardAnswersAll, GuardEndsForCause}
use Rattle.rpki_replay.specs.Running.{EndsInput}

thirteen : ◌≡◌ {A = ℕ} 0 13 → ⊥
thirteen e = omega (arith, e)

wrote_input : (scheme : Relation) (when : ℤ) (input : List ℕ) (sink : Seen) → EndsInput scheme when input 0 sink → GuardAnswersAll scheme when input sink
wrote_input scheme when input sink (inl s) =
    elim s.ends [
      | inl a ↦ record {
        peers = s.peers;
        lines = s.lines;
        messages = a.messages;
        opens = s.opens;
        are = a.are;
        wrote = wrote_all (AreAllAnswered scheme when s.peers a.messages) (AreFirstAnswered scheme when s.peers a.messages) (StopsForMemory (AreFirstAnswered scheme when s.peers a.messages)) sink a.ends;
      }
      | inr (inl hex) ↦ absurd (elim hex.1 [ inl e ↦ no_zero refusals.Hex e.0 | inr e ↦ no_eleven e.0 ])
      | inr (inr memory) ↦ absurd (elim memory [ inl e ↦ no_zero refusals.OutOfMemory e.0 | inr e ↦ no_eleven e.0 ])
    ]
wrote_input scheme when input sink (inr (inl bad)) = absurd (elim bad.1 [ inl e ↦ thirteen e.0 | inr e ↦ no_eleven e.0 ])
wrote_input scheme when input sink (inr (inr memory)) = absurd (elim memory [ inl e ↦ no_zero refusals.OutOfMemory e.0 | inr e ↦ no_eleven e.0 ])

pub answers_all : (scheme : Relation) (when : ℤ) (source sink : Seen) (input : List ℕ) → EndsRun (λ octets. EndsInput scheme when octets 0 sink) 0 source sink → source.before ≡ Some input → GuardAnswersAll scheme when input sink
answers_all scheme when source sink input run e = wrote_input scheme when input sink (on_input (λ octets. EndsInput scheme when octets 0 sink) source sink input run e)

input_ends : (scheme : Relation) (when : ℤ) (input : List ℕ) (status : ℕ) (sink : Seen) → ¬ (HasFailed sink) → EndsInput scheme when input status sink → GuardEndsForCause input status
input_ends scheme when input status sink none (inl s) =
    elim s.ends [
      | inl a ↦ inl (lines_end (AreAllAnswered scheme when s.peers a.messages) (AreFirstAnswered scheme when s.peers a.messages) (StopsForMemory (AreFirstAnswered scheme when s.peers a.messages)) status sink (λ texts r stops. stops.1) none a.ends)
      | inr (inl hex) ↦ inr (inl (with_refusal refusals.Hex status sink none hex.1, record { peers = s.peers; lines = s.lines; opens = s.opens; none = hex.0 }))
      | inr (inr memory) ↦ inl (inr (with_refusal refusals.OutOfMemory status sink none memory))
    ]
input_ends scheme when input status sink none (inr (inl bad)) = inr (inr (with_whole 13 status _ sink none bad.1, bad.0))
input_ends scheme when input status sink none (inr (inr memory)) = inl (inr (with_refusal refusals.OutOfMemory status sink none memory))

pub ends_so : (scheme : Relation) (when : ℤ) (status : ℕ) (source sink : Seen) (input : List ℕ) → EndsRun (λ octets. EndsInput scheme when octets status sink) status source sink → source.before ≡ Some input → length input ≤ 2 ^ 26
    → ¬ (HasFailed source) → ¬ (HasFailed sink) → GuardEndsForCause input status
ends_so scheme when status source sink input run e le sound whole =
    elim (on_input_or_12 (λ octets. EndsInput scheme when octets status sink) status source sink input run e le sound whole) [
      | inl memory ↦ inl (inr memory)
      | inr ends ↦ input_ends scheme when input status sink whole ends
    ]
