-- What ends with 0, but for want of memory and a fault of the sink.
use Rattle.std.proofs.Common.{◌≡◌, ◌⊎◌, inl, inr, ℕ, Ok, Err, List, refl, ap, subst, ◌∙◌}
use Rattle.rpki_base.specs.PublicKey.{KeyFields}
use Rattle.rpki_base.specs.Validity.{ValidityFields}
use Rattle.rpki_ca.specs.Acceptance.{ReadsAs, accepted_text}
use Rattle.rpki_ca.specs.Answer.{Ends}
use Rattle.rpki_ca.specs.Seen.{Seen}
use Rattle.rpki_ca.specs.declared.receiving.Kind.{Kind}
use Rattle.rpki_ca.specs.declared.receiving.Received.{Received}
use Rattle.rpki_ca.specs.declared.refusals.Refusal.TheVariants as refusals
use Rattle.rpki_ca.proofs.Laws.{one_reading}
use Rattle.rpki_ca.proofs.Reasons.{no_reason, reason}
use Rattle.rpki_signer.specs.Limits.{IsShort}
use Rattle.rpki_external.specs.Making.{AreShort, CanPrepare, CanPrepareAnchor, CanPrepareRequest, FinishFails, PrepareFails}
use Rattle.rpki_external.specs.Running.{EndsKeysTask, EndsOn, EndsRefusedSo, EndsWell, FailsAs, IsPrepareRefusal, IsTaskAnswer, RefusesText, Written, refusal_of_prepare}
use Rattle.rpki_external.specs.declared.keys_refusal.KeysRefusal.{KeysRefusal}
use Rattle.rpki_external.specs.declared.keys_refusal.KeysRefusal.TheVariants as keys
use Rattle.rpki_external.specs.declared.preparing.Plan.{Plan}
use Rattle.rpki_external.specs.declared.preparing.PrepareError.{PrepareError}
use Rattle.rpki_external.specs.declared.preparing.PrepareError.TheVariants as prepare
use Rattle.rpki_external.specs.declared.preparing.Signatures.{Signatures}
use Rattle.rpki_external.specs.declared.preparing_requests.RequestPlan.{RequestPlan}
use Rattle.rpki_external.specs.declared.task.Finished.TheVariants as finishing
use Rattle.rpki_external.specs.declared.task.Prepared.TheVariants as preparing
use Rattle.rpki_external.specs.declared.task.Task.{Task}
use Rattle.rpki_external.specs.declared.task.Task.TheVariants.{Finish, Prepare}
use Rattle.rpki_external.proofs.Succeeding as succeeding

abbrev pub of_memory : KeysRefusal
of_memory = keys.General refusals.OutOfMemory

module _ (status : ℕ) (sink : Seen) where
  pub memory_ends : Ends (Err refusals.OutOfMemory) status sink → EndsWell status sink
  memory_ends (inl e) = inr (inl e.0)
  memory_ends (inr e) = inr (inr (e.0, e.2))

  -- where each refusal is for want of memory
  pub well : (answer : Written) → ((refusal : KeysRefusal) → answer ≡ Err refusal → refusal ≡ of_memory) → EndsOn answer status sink → EndsWell status sink
  well (Ok output) only (inl e) = inl e.0
  well (Ok output) only (inr e) = inr (inr (e.0, e.2))
  well (Err refusal) only ends = memory_ends (subst (λ (r : KeysRefusal). EndsRefusedSo r status sink) (only refusal refl) ends)

  -- a task each of whose refusals of this input is for want of memory
  task_well : (task : Task) (input : List ℕ) → ((refusal : KeysRefusal) → IsTaskAnswer task input (Err refusal) → refusal ≡ of_memory) → EndsKeysTask task input status sink → EndsWell status sink
  task_well task input only (inr memory) = memory_ends memory
  task_well task input only (inl ended) =
      well ended.answer (λ refusal e. only refusal (subst (IsTaskAnswer task input) e ended.is)) ended.ends

-- ---- what can be prepared

-- an error that can be want of memory alone
prepare_memory : (fails : PrepareError → Type 0) → ((e : PrepareError) → fails e → e ≡ prepare.OutOfMemory) → (refusal : KeysRefusal) → IsPrepareRefusal fails refusal → refusal ≡ of_memory
prepare_memory fails only refusal (e, fails_so, is) = is ∙ ap refusal_of_prepare (only e fails_so)

module _ (kind : Kind) (input : List ℕ) (m : Received) (reads : ReadsAs kind input m) where
  -- what reads as a message isn't refused as none
  never_refused : (refusal : KeysRefusal) → RefusesText kind input refusal → ⊥
  never_refused (keys.General refusal) r = no_reason kind input m refusal reads (reason kind input refusal r)
  never_refused keys.OtherQuestions r = r
  never_refused keys.Signature r = r
  never_refused keys.NoTime r = r
  never_refused (keys.Replayed last seen) r = r

  message_memory : (fails : List ℕ → PrepareError → Type 0) → ((e : PrepareError) → fails (accepted_text m) e → e ≡ prepare.OutOfMemory)
      → (refusal : KeysRefusal) → RefusesText kind input refusal ⊎ FailsAs kind input fails refusal → refusal ≡ of_memory
  message_memory fails only refusal (inl r) = absurd (never_refused refusal r)
  message_memory fails only refusal (inr f) =
      f.is ∙ ap refusal_of_prepare (only f.error (subst (λ (x : Received). fails (accepted_text x) f.error) (one_reading kind input f.message m f.reads reads) f.fails_so))

  pub message_well : (p : Plan) (status : ℕ) (sink : Seen) → EndsKeysTask (Prepare (preparing.Message kind p)) input status sink → CanPrepare (accepted_text m) p → EndsWell status sink
  message_well p status sink ends can =
      task_well status sink (Prepare (preparing.Message kind p)) input
      (message_memory (λ content error. PrepareFails content p error) (λ e f. succeeding.prepared (accepted_text m) p e can f)) ends

  pub message_finished_well : (p : Plan) (s : Signatures) (status : ℕ) (sink : Seen) → EndsKeysTask (Finish (finishing.Message kind p s)) input status sink
      → CanPrepare (accepted_text m) p → AreShort s → EndsWell status sink
  message_finished_well p s status sink ends can short =
      task_well status sink (Finish (finishing.Message kind p s)) input
      (message_memory (λ content error. FinishFails content p s error) (λ e f. succeeding.finished (accepted_text m) p s e can short f)) ends

pub anchor_well : (validity : ValidityFields) (key : KeyFields) (input : List ℕ) (status : ℕ) (sink : Seen) → EndsKeysTask (Prepare (preparing.Anchor validity key)) input status sink → CanPrepareAnchor key → EndsWell status sink
anchor_well validity key input status sink ends can =
    task_well status sink (Prepare (preparing.Anchor validity key)) input (prepare_memory _ (λ e f. succeeding.anchor_prepared key e can f)) ends

pub request_well : (p : RequestPlan) (input : List ℕ) (status : ℕ) (sink : Seen) → EndsKeysTask (Prepare (preparing.Request p)) input status sink → CanPrepareRequest p → EndsWell status sink
request_well p input status sink ends can =
    task_well status sink (Prepare (preparing.Request p)) input (prepare_memory _ (λ e f. succeeding.request_prepared p e can f)) ends

pub anchor_finished_well : (validity : ValidityFields) (key : KeyFields) (signature input : List ℕ) (status : ℕ) (sink : Seen)
    → EndsKeysTask (Finish (finishing.Anchor validity key signature)) input status sink → CanPrepareAnchor key → IsShort signature → EndsWell status sink
anchor_finished_well validity key signature input status sink ends can short =
    task_well status sink (Finish (finishing.Anchor validity key signature)) input (prepare_memory _ (λ e f. succeeding.anchor_finished key signature e can short f)) ends

pub request_finished_well : (p : RequestPlan) (signature input : List ℕ) (status : ℕ) (sink : Seen)
    → EndsKeysTask (Finish (finishing.Request p signature)) input status sink → CanPrepareRequest p → IsShort signature → EndsWell status sink
request_finished_well p signature input status sink ends can short =
    task_well status sink (Finish (finishing.Request p signature)) input (prepare_memory _ (λ e f. succeeding.request_finished p signature e can short f)) ends
