-- What is received by answers (RFC 6492, 3.1; RFC 8181, 2).
use Rattle.std.specs.Prelude.{◌≡◌, ◌≢◌, ◌<ℤ◌, ℕ, ℤ, Bool, Option, None, Some, List, [], ◌∷◌, length, slice_get, if◌then◌else◌, Result, Ok, Err, ⊤}
use Rattle.std.specs.Int.Signed.{lt_z}
use Rattle.rpki_base.specs.PublicKey.{KeyFields}
use Rattle.rpki_base.specs.Scheme.{Relation}
use Rattle.rpki_sigmsg.specs.Beginning.{BeginsSigned}
use Rattle.rpki_sigmsg.specs.Message.{MessageFields}
use Rattle.rpki_ca.specs.Acceptance.{HoldsNoSigned, IsReceivedUnder}
use Rattle.rpki_ca.specs.declared.receiving.Kind.{Kind}
use Rattle.rpki_ca.specs.declared.receiving.Received.{Received}
use Rattle.rpki_der.specs.declared.error.DecodeError.{DecodeError}
use Rattle.rpki_der.specs.declared.error.DecodeError.TheVariants as decode
use Rattle.rpki_ca.specs.declared.receiving.ReceiveError.{ReceiveError}
use Rattle.rpki_ca.specs.declared.receiving.ReceiveError.TheVariants as receive
use Rattle.rpki_replay.specs.Admission.{IsAdmission}
use Rattle.rpki_replay.specs.declared.guard.GuardError.{GuardError}
use Rattle.rpki_replay.specs.declared.guard.GuardError.TheVariants as guard
use Rattle.rpki_external.specs.declared.answers.AnswersError.{AnswersError}
use Rattle.rpki_external.specs.declared.answers.AnswersError.TheVariants as answers_errors
use Rattle.rpki_external.specs.declared.receiving.AnsweredError.{AnsweredError}
use Rattle.rpki_external.specs.declared.receiving.AnsweredError.TheVariants as errors
use Rattle.rpki_external.specs.declared.receiving.Receipt.{Receipt}
use Rattle.rpki_external.specs.Answers.{AnswersFields, IsAnsweredSo, RefusesAnswers}
use Rattle.rpki_external.specs.Question.{QuestionsFields, message_questions}

-- ---- the questions of octets

-- the octets begin with a signed message, and these are its questions under the keys
pub record AreAskedOf (octets : List ℕ) (keys : List KeyFields) (q : QuestionsFields) : Type 0 where
  pub signed : MessageFields
  pub begins : BeginsSigned octets signed
  pub are : q ≡ message_questions signed keys

-- ---- what is received under a scheme, where a last time may be handed in

-- What the replay guard answers to a message of the peer with this key, where it holds this last
-- time for the key.
abbrev pub IsGuarded : Relation → KeyFields → ℤ → MessageFields → ℤ → Result ℤ GuardError → Type 0
IsGuarded scheme key last m when answer =
    IsAdmission scheme (record { key = key; last = last } ∷ []) key m when answer

-- where a last time is handed in, the guard that holds it for the key at this place admits the
-- message
abbrev pub PassesGuard : Relation → List KeyFields → Option ℤ → MessageFields → ℤ → ℕ → Type 0
PassesGuard scheme keys None m when place = ⊤
PassesGuard scheme keys (Some last) m when place =
    (key : KeyFields) → slice_get keys place ≡ Some key
    → (seen : ℤ) × (m.signing_time ≡ Some seen) × IsGuarded scheme key last m when (Ok seen)

-- where a last time is handed in, the message says a later signing time
abbrev pub IsLater : Option ℤ → MessageFields → Type 0
IsLater None m = ⊤
IsLater (Some last) m = (seen : ℤ) × (m.signing_time ≡ Some seen) × (last <ℤ seen)

-- The octets begin with a signed message, of which this is received under the key at the place; it
-- says this signing time, and passes the guard.
pub record IsReceipt (scheme : Relation) (kind : Kind) (octets : List ℕ) (keys : List KeyFields)
    (when : ℤ) (last : Option ℤ) (r : Receipt) : Type 0 where
  pub signed : MessageFields
  pub begins : BeginsSigned octets signed
  pub received : IsReceivedUnder scheme kind octets keys when (Ok (r.message, r.place))
  pub time : r.signing_time ≡ signed.signing_time
  pub guarded : PassesGuard scheme keys last signed when r.place

-- The octets begin with a signed message, of which this is received under the key at the place; a
-- last time was handed in, and the guard that holds it for the key refuses the message so.
pub record IsGuardRefusal (scheme : Relation) (kind : Kind) (octets : List ℕ)
    (keys : List KeyFields) (when : ℤ) (last : Option ℤ) (error : GuardError) : Type 0 where
  pub signed : MessageFields
  pub begins : BeginsSigned octets signed
  pub message : Received
  pub place : ℕ
  pub received : IsReceivedUnder scheme kind octets keys when (Ok (message, place))
  pub admitted : ℤ
  pub handed : last ≡ Some admitted
  pub refused : (key : KeyFields) → slice_get keys place ≡ Some key
      → IsGuarded scheme key admitted signed when (Err error)

-- what is answered to a signing time, where a last time is handed in: it has to be there and later
abbrev pub judged_answered : Option ℤ → Option ℤ → Result (Unit {0}) AnsweredError
judged_answered None seen = Ok tt
judged_answered (Some last) None = Err errors.NoTime
judged_answered (Some last) (Some seen) =
    if lt_z last seen then Ok tt else Err (errors.Replayed last seen)

-- the receipt of what was received, with this signing time
abbrev pub receipt_of : Result (Received × ℕ) ReceiveError → Option ℤ → Result Receipt ReceiveError
receipt_of (Ok (message, place)) time =
    Ok (record { message = message; place = place; signing_time = time })
receipt_of (Err error) time = Err error

-- the receipt, if there is one and the guard lets it pass
abbrev pub guarded : Result Receipt ReceiveError → Result (Unit {0}) AnsweredError
    → Result Receipt AnsweredError
guarded (Ok receipt) (Ok passed) = Ok receipt
guarded (Ok receipt) (Err error) = Err error
guarded (Err error) passed = Err (errors.Receive error)

-- ---- what is received by answers

-- the octets begin with a signed message, the answers count for its questions, and under the scheme
-- that they are this is so
pub record ByAnswers (octets : List ℕ) (keys : List KeyFields) (answers : AnswersFields)
    (is : Relation → Type 0) : Type 0 where
  pub q : QuestionsFields
  pub asked : AreAskedOf octets keys q
  pub answered : IsAnsweredSo answers q is

-- the octets begin with a signed message, and the answers aren't to its questions, for this cause
pub record AreUnmatched (octets : List ℕ) (keys : List KeyFields) (answers : AnswersFields)
    (error : AnswersError) : Type 0 where
  pub q : QuestionsFields
  pub asked : AreAskedOf octets keys q
  pub refused : RefusesAnswers answers q error

-- what is received by answers
abbrev pub IsReceiptBy : Kind → List ℕ → List KeyFields → ℤ → AnswersFields → Option ℤ → Receipt
    → Type 0
IsReceiptBy kind octets keys when answers last r =
    ByAnswers octets keys answers (λ scheme. IsReceipt scheme kind octets keys when last r)

-- when each error comes; of want of memory nothing is said
abbrev pub RefusesByAnswers : Kind → List ℕ → List KeyFields → ℤ → AnswersFields → Option ℤ
    → AnsweredError → Type 0
RefusesByAnswers kind octets keys when answers last errors.OtherQuestions =
    AreUnmatched octets keys answers answers_errors.OtherQuestions
RefusesByAnswers kind octets keys when answers last errors.Number =
    AreUnmatched octets keys answers answers_errors.Number
RefusesByAnswers kind octets keys when answers last (errors.Receive receive.CmsDecode) =
    HoldsNoSigned octets
RefusesByAnswers kind octets keys when answers last (errors.Receive receive.OutOfMemory) = ⊤
RefusesByAnswers kind octets keys when answers last (errors.Receive error) =
    ByAnswers octets keys answers (λ scheme.
    IsReceivedUnder scheme kind octets keys when (Err error))
RefusesByAnswers kind octets keys when answers last errors.NoTime =
    ByAnswers octets keys answers (λ scheme.
    IsGuardRefusal scheme kind octets keys when last guard.NoTime)
RefusesByAnswers kind octets keys when answers last (errors.Replayed before seen) =
    ByAnswers octets keys answers (λ scheme.
    IsGuardRefusal scheme kind octets keys when last (guard.Replayed before seen))

-- when each error comes under a scheme for which the answers are right
abbrev pub RefusesUnder : Relation → Kind → List ℕ → List KeyFields → ℤ → AnswersFields → Option ℤ
    → AnsweredError → Type 0
RefusesUnder scheme kind octets keys when answers last errors.OtherQuestions =
    AreUnmatched octets keys answers answers_errors.OtherQuestions
RefusesUnder scheme kind octets keys when answers last errors.Number =
    AreUnmatched octets keys answers answers_errors.Number
RefusesUnder scheme kind octets keys when answers last (errors.Receive error) =
    IsReceivedUnder scheme kind octets keys when (Err error)
RefusesUnder scheme kind octets keys when answers last errors.NoTime =
    IsGuardRefusal scheme kind octets keys when last guard.NoTime
RefusesUnder scheme kind octets keys when answers last (errors.Replayed before seen) =
    IsGuardRefusal scheme kind octets keys when last (guard.Replayed before seen)

-- why a message's checks aren't told by answers: there is no signed message, or the answers aren't
-- to its questions under this key; of want of memory nothing is said
abbrev pub RefusesChecks : List ℕ → KeyFields → AnswersFields → AnsweredError → Type 0
RefusesChecks octets key answers errors.OtherQuestions =
    AreUnmatched octets (key ∷ []) answers answers_errors.OtherQuestions
RefusesChecks octets key answers errors.Number =
    AreUnmatched octets (key ∷ []) answers answers_errors.Number
RefusesChecks octets key answers (errors.Receive receive.CmsDecode) = HoldsNoSigned octets
RefusesChecks octets key answers (errors.Receive receive.OutOfMemory) = ⊤
RefusesChecks octets key answers other = ⊥

-- ---- errors that become others

-- how an error of decoding is passed on
abbrev pub of_decode : DecodeError → AnsweredError
of_decode decode.Malformed = errors.Receive receive.CmsDecode
of_decode decode.OutOfMemory = errors.Receive receive.OutOfMemory

-- how it is passed on that answers are to other questions
abbrev pub of_answers : AnswersError → AnsweredError
of_answers answers_errors.OtherQuestions = errors.OtherQuestions
of_answers answers_errors.Number = errors.Number
of_answers answers_errors.OutOfMemory = errors.Receive receive.OutOfMemory
