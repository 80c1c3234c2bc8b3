-- The answer to a question, looked for one question after the other.
use Rattle.std.proofs.Common.{◌≡◌, ◌<◌, ◌+◌, ℕ, zero, suc, Bool, false, List, [], ◌∷◌, length, drop, get_or, refl, sym, subst, ◌∙◌, arith}
use Rattle.rpki_base.specs.PublicKey.{KeyFields}
use Rattle.rpki_external.specs.Answers.{answer_to, asks}
use Rattle.rpki_external.specs.Question.{QuestionFields}

no_answers : (list : List QuestionFields) (key : KeyFields) (message signature : List ℕ) → answer_to list [] key message signature ≡ false
no_answers [] key message signature = refl
no_answers (q ∷ list) key message signature = refl

passed_over : (list : List QuestionFields) (answers : List Bool) (n : ℕ) (q : QuestionFields) (key : KeyFields) (message signature : List ℕ) → n < length list → q ≡ get_or list n q → asks q key message signature ≡ false
    → answer_to (drop (suc n) list) (drop (suc n) answers) key message signature ≡ answer_to (drop n list) (drop n answers) key message signature
passed_over [] answers n q key message signature lt is other = absurd (omega (arith, lt))
passed_over (x ∷ list) [] zero q key message signature lt is other = no_answers list key message signature
passed_over (x ∷ list) [] (suc n) q key message signature lt is other = no_answers (drop (suc n) list) key message signature ∙ sym (no_answers (drop n list) key message signature)
passed_over (x ∷ list) (a ∷ answers) zero q key message signature lt is other =
    let unlike : asks x key message signature ≡ false = subst (λ (y : QuestionFields). asks y key message signature ≡ false) is other in
    rw unlike refl
passed_over (x ∷ list) (a ∷ answers) (suc n) q key message signature lt is other = passed_over list answers n q key message signature (omega (arith, lt)) is other

-- a question that asks something else is passed over
pub passed : (list : List QuestionFields) (answers : List Bool) (n : ℕ) (q : QuestionFields) (key : KeyFields) (message signature : List ℕ) → n < length list → q ≡ get_or list n q → asks q key message signature ≡ false
    → answer_to (drop (n + 1) list) (drop (n + 1) answers) key message signature ≡ answer_to (drop n list) (drop n answers) key message signature
passed list answers n q key message signature lt is other =
    let next : suc n ≡ n + 1 = omega arith in
    subst (λ (m : ℕ). answer_to (drop m list) (drop m answers) key message signature ≡ answer_to (drop n list) (drop n answers) key message signature) next
    (passed_over list answers n q key message signature lt is other)
