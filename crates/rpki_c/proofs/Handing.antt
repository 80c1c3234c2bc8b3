-- How an answer that is handed over is one of which its clauses hold.
use Rattle.std.proofs.Common.{◌≢◌, ◌⊎◌, ℕ, Result, Ok, Err, IfErr, IfOk, List, length, ap, inl, inr, refl}
use Rattle.std.specs.Global.{Vec}
use Rattle.rpki_ca.specs.Acceptance.{accepted_text}
use Rattle.rpki_external.specs.Running.{Written}
use Rattle.rpki_external.specs.declared.keys_refusal.KeysRefusal.{KeysRefusal}
use Rattle.rpki_external.specs.declared.receiving.Receipt.{Receipt}
use Rattle.rpki_c.specs.HandingOver.{Decided, HandsDecisionOver, HandsOver, HandsReceiptOver, IsCallRefused, IsGiven, IsRefused, LacksRoom, done, out_of_memory, received}
use Rattle.rpki_c.specs.declared.outcome.CallRefusal.{CallRefusal}
use Rattle.rpki_c.specs.declared.outcome.CallRefusal.TheVariants as calls
use Rattle.rpki_c.specs.declared.outcome.Outcome.{Outcome}

-- what is said of an answer by cases holds of what is handed over
pub hands_over : (is : Written → Type 0) (answer : Result (Vec ℕ) KeysRefusal) (old new : List ℕ) (outcome : Outcome)
    → IfOk answer (λ text. is (Ok text.items)) → IfErr answer (λ e. e ≢ out_of_memory → is (Err e))
    → IfOk answer (λ text. IsGiven text.items (done (length text.items)) old new outcome ⊎ LacksRoom text.items old new outcome)
    → IfErr answer (λ e. IsRefused e old new outcome) → HandsOver is old new outcome
hands_over is (Ok text) old new outcome ok err given refused =
    record { answer = Ok text.items; is_so = λ other. ok; handed = given }
hands_over is (Err e) old new outcome ok err given refused =
    record { answer = Err e; is_so = λ other. err (λ same. other (ap (λ x. Err x) same)); handed = refused }

-- of a receipt that is handed over, or for whose text there is no memory
receipt_given : (is : Result Receipt KeysRefusal → Type 0) (r : Receipt) (old new : List ℕ) (outcome : Outcome) → is (Ok r)
    → IsGiven (accepted_text r.message) (received (length (accepted_text r.message)) r) old new outcome
    ⊎ LacksRoom (accepted_text r.message) old new outcome ⊎ IsRefused out_of_memory old new outcome
    → HandsReceiptOver is old new outcome
receipt_given is r old new outcome ok (inl given) = record { answer = Ok r; is_so = λ other. ok; handed = inl given }
receipt_given is r old new outcome ok (inr (inl lacks)) = record { answer = Ok r; is_so = λ other. ok; handed = inr lacks }
receipt_given is r old new outcome ok (inr (inr refused)) =
    record { answer = Err out_of_memory; is_so = λ other. absurd (other refl); handed = refused }

-- what is said of a receipt by cases holds of what is handed over
pub hands_receipt_over : (is : Result Receipt KeysRefusal → Type 0) (answer : Result Receipt KeysRefusal) (old new : List ℕ) (outcome : Outcome)
    → IfOk answer (λ r. is (Ok r)) → IfErr answer (λ e. e ≢ out_of_memory → is (Err e))
    → IfOk answer (λ r. IsGiven (accepted_text r.message) (received (length (accepted_text r.message)) r) old new outcome
    ⊎ LacksRoom (accepted_text r.message) old new outcome ⊎ IsRefused out_of_memory old new outcome)
    → IfErr answer (λ e. IsRefused e old new outcome) → HandsReceiptOver is old new outcome
hands_receipt_over is (Ok r) old new outcome ok err given refused = receipt_given is r old new outcome ok given
hands_receipt_over is (Err e) old new outcome ok err given refused =
    record { answer = Err e; is_so = λ other. err (λ same. other (ap (λ x. Err x) same)); handed = refused }

-- the same of an answer whose refusal can be that nothing is known of an object
pub hands_decision_over : (is : Decided → Type 0) (answer : Result (Vec ℕ) CallRefusal) (old new : List ℕ) (outcome : Outcome)
    → IfOk answer (λ text. is (Ok text.items)) → IfErr answer (λ e. e ≢ calls.General out_of_memory → is (Err e))
    → IfOk answer (λ text. IsGiven text.items (done (length text.items)) old new outcome ⊎ LacksRoom text.items old new outcome)
    → IfErr answer (λ e. IsCallRefused e old new outcome) → HandsDecisionOver is old new outcome
hands_decision_over is (Ok text) old new outcome ok err given refused =
    record { answer = Ok text.items; is_so = λ other. ok; handed = given }
hands_decision_over is (Err e) old new outcome ok err given refused =
    record { answer = Err e; is_so = λ other. err (λ same. other (ap (λ x. Err x) same)); handed = refused }
