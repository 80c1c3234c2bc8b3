-- A line that is written whole, or in part, ends an answer.
use Rattle.std.proofs.Common.{◌≡◌, ◌≢◌, ℕ, Result, List, inl, inr, subst}
use Rattle.std.specs.Io.KnownBytes.{Appends}
use Rattle.std.proofs.lemmas.Bool.Decides.{eqb_tells}
use Rattle.rpki_text.specs.Sink.{AppendsPart}
use Rattle.rpki_ca.specs.declared.refusals.Refusal.{Refusal}
use Rattle.rpki_ca.specs.Seen.{Seen, HasFailed, IsSteady}
use Rattle.rpki_ca.specs.Answer.{exit_status, line_of, Ends}

pub ends_answer : (answer : Result (List ℕ) Refusal) (line : List ℕ) (wanted status : ℕ) (sink : Seen) → line ≡ line_of answer → wanted ≡ exit_status answer
    → (status ≢ 11 → (status ≡ wanted) × Appends sink.before sink.after line) → (status ≡ 11 → AppendsPart sink.before sink.after line) → (status ≡ 11 → HasFailed sink) → (status ≢ 11 → IsSteady sink)
    → Ends answer status sink
ends_answer answer line wanted status sink l w whole part cause steady =
    elim (eqb_tells status 11) [
      | inl same ↦ inr (same.1, subst (AppendsPart sink.before sink.after) l (part same.1), cause same.1)
      | inr other ↦
          let both = whole other.1 in
          inl (subst (λ s. status ≡ s) w both.0, subst (Appends sink.before sink.after) l both.1, steady other.1)
    ]
