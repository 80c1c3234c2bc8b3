-- What is written under right answers, and that `receive` writes an accepted message.
use Rattle.std.proofs.Common.{◌≡◌, inl, inr, T, ℕ, ℤ, Bool, true, false, if◌then◌else◌, Option, None, Some, Result, Ok, Err, List, refl, sym, ap, subst, ◌∙◌}
use Rattle.std.specs.Prelude.{◌<ℤ◌}
use Rattle.std.specs.Int.Signed.{lt_z}
use Rattle.rpki_base.specs.Algorithm.{format_of}
use Rattle.rpki_base.specs.PublicKey.{KeyFields}
use Rattle.rpki_base.specs.Scheme.{Relation}
use Rattle.rpki_base.specs.declared.algorithm.SigningAlgorithm.{SigningAlgorithm}
use Rattle.rpki_sigmsg.specs.Message.{MessageFields}
use Rattle.rpki_ca.specs.Acceptance.{Accepted, RefusesReceipt, accepted_text}
use Rattle.rpki_ca.specs.Answer.{BringsAccepted, IsReceiveAnswer as IsAcceptedAnswer}
use Rattle.rpki_ca.specs.Hexadecimal.{hexadecimal}
use Rattle.rpki_ca.specs.Seen.{Seen}
use Rattle.rpki_ca.specs.declared.command.Command.TheVariants as commands
use Rattle.rpki_ca.specs.declared.receiving.Kind.{Kind}
use Rattle.rpki_ca.specs.declared.receiving.ReceiveError.{ReceiveError}
use Rattle.rpki_ca.specs.declared.receiving.ReceiveError.TheVariants as receive
use Rattle.rpki_ca.specs.declared.receiving.Received.{Received}
use Rattle.rpki_ca.specs.declared.refusals.Refusal.{Refusal}
use Rattle.rpki_ca.specs.declared.refusals.Refusal.TheVariants as refusals
use Rattle.rpki_ca.proofs.Ended.{no_eleven, no_refusal}
use Rattle.rpki_ca.proofs.Laws.{one_answer, one_signed}
use Rattle.rpki_replay.specs.Admission.{judged}
use Rattle.rpki_replay.specs.declared.guard.GuardError.{GuardError}
use Rattle.rpki_replay.specs.declared.guard.GuardError.TheVariants as guard
use Rattle.rpki_external.specs.Answers.{AnswersFields, AreTo}
use Rattle.rpki_external.specs.Question.{QuestionsFields}
use Rattle.rpki_external.specs.Receiving.{AreAskedOf, IsGuardRefusal, IsLater, RefusesUnder}
use Rattle.rpki_external.specs.Running.{AreRightIn, AreToIn, DeliversReceipt, EndsAsVerified, EndsKeysTask, EndsOn, EndsWell, IsLaterIn, IsReceiveAnswerUnder, OfSpelled, Written, refusal_of_answered}
use Rattle.rpki_external.specs.declared.keys_refusal.KeysRefusal.{KeysRefusal}
use Rattle.rpki_external.specs.declared.keys_refusal.KeysRefusal.TheVariants as keys_refusals
use Rattle.rpki_external.specs.declared.receiving.AnsweredError.{AnsweredError}
use Rattle.rpki_external.specs.declared.receiving.AnsweredError.TheVariants as errors
use Rattle.rpki_external.specs.declared.task.Task.TheVariants.{Verify}
use Rattle.rpki_external.specs.declared.task.Verified.{Verified}
use Rattle.rpki_external.specs.declared.task.Verified.TheVariants.{Message}
use Rattle.rpki_external.proofs.Accepted.{never}
use Rattle.rpki_external.proofs.EndingWell.{memory_ends, of_memory, well}
use Rattle.rpki_external.proofs.Receipts.{refused_judged}
use Rattle.rpki_external.proofs.Under.{told_under}

module _ (scheme : Relation) (fits : (kind : SigningAlgorithm) (key : KeyFields) (message signature : List ℕ) → scheme kind key message signature → key.format ≡ format_of kind)
    (answers : AnswersFields) (input : List ℕ) (sink : Seen) where
  pub answered_so : (what : Verified) (status : ℕ) → EndsKeysTask (Verify what answers) input status sink → AreRightIn scheme what input answers → EndsAsVerified scheme what answers input status sink
  answered_so what status (inr memory) right = inr memory
  answered_so what status (inl ended) right =
      inl (record { answer = ended.answer; is = told_under scheme fits answers what input right ended.answer ended.is; ends = ended.ends })

  -- ---- with 0

  module _ (kind : Kind) (list : List KeyFields) (when : ℤ) (last : Option ℤ) where
    given : (o : Option (List ℕ)) → hexadecimal input ≡ o → (answer : Written) → OfSpelled (λ octets. IsReceiveAnswerUnder scheme kind octets list when last answers) o answer
        → EndsOn answer 0 sink → DeliversReceipt scheme kind list when last input sink
    given o spells (Err refusal) is ends = absurd (never refusal sink ends)
    given None spells (Ok output) is ends = absurd (unlike is)
      where
        unlike : ◌≡◌ {A = Written} (Ok output) (Err (keys_refusals.General refusals.Hex)) → ⊥
        unlike e = cc
    given (Some octets) spells (Ok output) is (inr e) = absurd (no_eleven e.0)
    given (Some octets) spells (Ok output) is (inl e) =
        record { octets = octets; spells = spells; receipt = is.0; is = is.1; written = rw is.2 at e.1 }

    delivered_by : EndsAsVerified scheme (Message kind when last list) answers input 0 sink → DeliversReceipt scheme kind list when last input sink
    delivered_by (inr memory) = absurd (no_refusal refusals.OutOfMemory sink memory)
    delivered_by (inl ended) = given (hexadecimal input) refl ended.answer ended.is ended.ends

    pub delivered : EndsKeysTask (Verify (Message kind when last list) answers) input 0 sink → AreRightIn scheme (Message kind when last list) input answers
        → DeliversReceipt scheme kind list when last input sink
    delivered ends right = delivered_by (answered_so (Message kind when last list) 0 ends right)

-- ---- where a message is accepted

-- what the guard answers to a later signing time
later_judged : (last seen : ℤ) → last <ℤ seen → judged (Some last) (Some seen) ≡ Ok seen
later_judged last seen less = ap (λ (b : Bool). if b then Ok seen else Err (guard.Replayed last seen)) (yes (lt_z last seen) less.lt)
  where
    yes : (b : Bool) → T b → b ≡ true
    yes true t = refl
    yes false t = absurd t

never_both : (seen : ℤ) (error : GuardError) → ◌≡◌ {A = Result ℤ GuardError} (Err error) (Ok seen) → ⊥
never_both seen error e = cc

module _ (scheme : Relation) (kind : Kind) (list : List KeyFields) (when : ℤ) (octets : List ℕ) (message : Received) (accepted : Accepted scheme kind octets list when message) where
  taken : IsAcceptedAnswer scheme kind octets list when (Ok (accepted_text message))
  taken = record { message = message; accepted = accepted; written = refl }

  unlike : (refusal : Refusal) → IsAcceptedAnswer scheme kind octets list when (Err refusal) → ⊥
  unlike refusal is = differ (one_answer scheme (commands.Receive kind when list) (Some octets) (Ok (accepted_text message)) (Err refusal) taken is)
    where
      differ : ◌≡◌ {A = Result (List ℕ) Refusal} (Ok (accepted_text message)) (Err refusal) → ⊥
      differ e = cc

  not_refused : (e : ReceiveError) → RefusesReceipt scheme kind octets list when e → (e ≡ receive.OutOfMemory)
  not_refused receive.CmsDecode r = absurd (unlike refusals.CmsDecode r)
  not_refused receive.XmlError r = absurd (unlike refusals.XmlError r)
  not_refused receive.CertSyntax r = absurd (unlike refusals.CertSyntax r)
  not_refused receive.InvalidCsrSyntax r = absurd (unlike refusals.InvalidCsrSyntax r)
  not_refused (receive.Validation v) r = absurd (unlike (refusals.Validation v.check) (record { error = v; fails = r; number = refl }))
  not_refused receive.OutOfMemory r = refl

  module _ (last : Option ℤ) (later : IsLater last accepted.signed) where
    -- the guard doesn't refuse it
    never_guarded : (error : GuardError) → IsGuardRefusal scheme kind octets list when last error → ⊥
    never_guarded error r = by_last (refused_judged scheme kind octets list when last error r)
        (subst (λ (l : Option ℤ). IsLater l r.signed) r.handed (subst (λ (m : MessageFields). IsLater last m) (one_signed octets accepted.signed r.signed accepted.begins r.begins) later))
      where
        by_last : judged (Some r.admitted) r.signed.signing_time ≡ Err error → IsLater (Some r.admitted) r.signed → ⊥
        by_last is (seen, says, less) =
            never_both seen error (sym is ∙ ap (judged (Some r.admitted)) says ∙ later_judged r.admitted seen less)

    only_memory : (answers : AnswersFields) → ((q : QuestionsFields) → AreAskedOf octets list q → AreTo answers q) → (e : AnsweredError)
        → RefusesUnder scheme kind octets list when answers last e → e ≡ errors.Receive receive.OutOfMemory
    only_memory answers to errors.OtherQuestions r = absurd (r.refused (to r.q r.asked).digest)
    only_memory answers to errors.Number r = absurd (r.refused.1 (to r.q r.asked).number)
    only_memory answers to (errors.Receive e) r = ap (λ (x : ReceiveError). errors.Receive x) (not_refused e r)
    only_memory answers to errors.NoTime r = absurd (never_guarded guard.NoTime r)
    only_memory answers to (errors.Replayed before seen) r = absurd (never_guarded (guard.Replayed before seen) r)

module _ (scheme : Relation) (fits : (kind : SigningAlgorithm) (key : KeyFields) (message signature : List ℕ) → scheme kind key message signature → key.format ≡ format_of kind)
    (kind : Kind) (list : List KeyFields) (when : ℤ) (last : Option ℤ) (answers : AnswersFields) (input : List ℕ) (sink : Seen) (status : ℕ) (h : BringsAccepted scheme kind list when input)
    (later : IsLaterIn last input) where
  only : AreToIn (Message kind when last list) input answers → (answer : Written) → IsReceiveAnswerUnder scheme kind h.octets list when last answers answer
      → (refusal : KeysRefusal) → answer ≡ Err refusal → refusal ≡ of_memory
  only to (Ok output) is refusal e = absurd (differ e)
    where
      differ : ◌≡◌ {A = Written} (Ok output) (Err refusal) → ⊥
      differ k = cc
  only to (Err refusal) is other e =
      let same : refusal ≡ other = cc in
      let error : is.0 ≡ errors.Receive receive.OutOfMemory =
      only_memory scheme kind list when h.octets h.message h.accepted last (later h.octets h.spells h.accepted.signed h.accepted.begins) answers
      (λ q asked. to q (record { octets = h.octets; spells = h.spells; are = asked })) is.0 is.1 in
      sym same ∙ is.2 ∙ ap refusal_of_answered error

  by_end : AreToIn (Message kind when last list) input answers → EndsAsVerified scheme (Message kind when last list) answers input status sink → EndsWell status sink
  by_end to (inr memory) = memory_ends status sink memory
  by_end to (inl ended) =
      well status sink ended.answer
      (only to ended.answer (subst (λ (o : Option (List ℕ)). OfSpelled (λ octets. IsReceiveAnswerUnder scheme kind octets list when last answers) o ended.answer) h.spells ended.is)) ended.ends

  pub always : EndsKeysTask (Verify (Message kind when last list) answers) input status sink → AreRightIn scheme (Message kind when last list) input answers
      → AreToIn (Message kind when last list) input answers → EndsWell status sink
  always ends right to = by_end to (answered_so scheme fits answers input sink (Message kind when last list) status ends right)
