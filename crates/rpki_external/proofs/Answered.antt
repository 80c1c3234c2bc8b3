-- What a call answers that receives by answers.
use Rattle.std.proofs.Common.{◌≡◌, ℕ, ℤ, Bool, true, false, if◌then◌else◌, Option, None, Some, Result, Ok, Err, List, [], ◌∷◌, refl, sym, ap, subst, ◌∙◌}
use Rattle.std.specs.Prelude.{MatchResult}
use Rattle.std.specs.Int.Signed.{lt_z}
use Rattle.rpki_base.specs.PublicKey.{KeyFields}
use Rattle.rpki_der.specs.declared.error.DecodeError.{DecodeError}
use Rattle.rpki_der.specs.declared.error.DecodeError.TheVariants as decode
use Rattle.rpki_der.specs.declared.mode.Mode.TheVariants.{Ber}
use Rattle.rpki_der.specs.Takes.{RefusesOctets}
use Rattle.rpki_publication.proofs.Refused.{no_signed}
use Rattle.rpki_sigmsg.specs.Message.{signed_message}
use Rattle.rpki_ca.specs.Acceptance.{HoldsNoSigned, IsReceivedUnder}
use Rattle.rpki_ca.specs.declared.receiving.Kind.{Kind}
use Rattle.rpki_ca.specs.declared.receiving.ReceiveError.{ReceiveError}
use Rattle.rpki_ca.specs.declared.receiving.ReceiveError.TheVariants as receive
use Rattle.rpki_ca.specs.declared.receiving.Received.{Received}
use Rattle.rpki_external.specs.Answers.{AnswersFields, CountFor, RefusesAnswers, answered_scheme}
use Rattle.rpki_external.specs.Question.{QuestionsFields}
use Rattle.rpki_external.specs.Receiving.{AreAskedOf, ByAnswers, IsReceiptBy, RefusesByAnswers, RefusesChecks, guarded, judged_answered, of_answers, of_decode, receipt_of}
use Rattle.rpki_external.specs.declared.answers.AnswersError.{AnswersError}
use Rattle.rpki_external.specs.declared.answers.AnswersError.TheVariants as answers_errors
use Rattle.rpki_external.specs.declared.receiving.AnsweredError.{AnsweredError}
use Rattle.rpki_external.specs.declared.receiving.AnsweredError.TheVariants as errors
use Rattle.rpki_external.specs.declared.receiving.Receipt.{Receipt}
use Rattle.rpki_external.proofs.Receipts.{receipt_is, refusal_no_time, refusal_replayed}

module _ (kind : Kind) (octets : List ℕ) (keys : List KeyFields) (when : ℤ) (answers : AnswersFields) (last : Option ℤ) where
  -- the octets begin with no signed message
  pub none_begins : HoldsNoSigned octets → RefusesByAnswers kind octets keys when answers last (errors.Receive receive.CmsDecode)
  none_begins none = none

  pub decode_refused : (e : DecodeError) → RefusesOctets (signed_message Ber) Ber octets e → RefusesByAnswers kind octets keys when answers last (of_decode e)
  decode_refused decode.Malformed r = no_signed decode.Malformed octets r
  decode_refused decode.OutOfMemory r = tt

  module _ (q : QuestionsFields) (asked : AreAskedOf octets keys q) where
    -- the answers aren't to the questions
    pub unmatched_so : (e : AnswersError) → RefusesAnswers answers q e → RefusesByAnswers kind octets keys when answers last (of_answers e)
    unmatched_so answers_errors.OtherQuestions r = record { q = q; asked = asked; refused = r }
    unmatched_so answers_errors.Number r = record { q = q; asked = asked; refused = r }
    unmatched_so answers_errors.OutOfMemory r = tt

    module _ (count : CountFor answers q) where
      -- the message isn't received
      pub refused_so : (e : ReceiveError) → IsReceivedUnder (answered_scheme q answers) kind octets keys when (Err e) → RefusesByAnswers kind octets keys when answers last (errors.Receive e)
      refused_so receive.CmsDecode r = r
      refused_so receive.XmlError r = record { q = q; asked = asked; answered = record { count = count; so = r } }
      refused_so receive.InvalidCsrSyntax r = record { q = q; asked = asked; answered = record { count = count; so = r } }
      refused_so receive.CertSyntax r = record { q = q; asked = asked; answered = record { count = count; so = r } }
      refused_so (receive.Validation v) r = record { q = q; asked = asked; answered = record { count = count; so = r } }
      refused_so receive.OutOfMemory r = tt

      module _ (message : Received) (place : ℕ) (received : IsReceivedUnder (answered_scheme q answers) kind octets keys when (Ok (message, place))) where
        -- it is received, and the guard refuses it
        pub guarded_so : (e : AnsweredError) → judged_answered last asked.signed.signing_time ≡ Err e → RefusesByAnswers kind octets keys when answers last e
        guarded_so errors.NoTime e = record {
          q = q;
          asked = asked;
          answered = record {
            count = count;
            so = refusal_no_time (answered_scheme q answers) kind octets keys when last asked.signed message place asked.begins received e;
          };
        }
        guarded_so (errors.Replayed before after) e = record {
          q = q;
          asked = asked;
          answered = record {
            count = count;
            so = refusal_replayed (answered_scheme q answers) kind octets keys when last asked.signed message place before after asked.begins received e;
          };
        }
        guarded_so errors.OtherQuestions e = absurd (never last asked.signed.signing_time e)
          where
            never : (l s : Option ℤ) → judged_answered l s ≡ Err errors.OtherQuestions → ⊥
            never None s k = cc
            never (Some x) None k = cc
            never (Some x) (Some y) k = chosen (lt_z x y) k
              where
                chosen : (b : Bool) → ◌≡◌ {A = Result (Unit {0}) AnsweredError} (if b then Ok tt else Err (errors.Replayed x y)) (Err errors.OtherQuestions) → ⊥
                chosen true k = cc
                chosen false k = cc
        guarded_so errors.Number e = absurd (never last asked.signed.signing_time e)
          where
            never : (l s : Option ℤ) → judged_answered l s ≡ Err errors.Number → ⊥
            never None s k = cc
            never (Some x) None k = cc
            never (Some x) (Some y) k = chosen (lt_z x y) k
              where
                chosen : (b : Bool) → ◌≡◌ {A = Result (Unit {0}) AnsweredError} (if b then Ok tt else Err (errors.Replayed x y)) (Err errors.Number) → ⊥
                chosen true k = cc
                chosen false k = cc
        guarded_so (errors.Receive r) e = absurd (never last asked.signed.signing_time e)
          where
            never : (l s : Option ℤ) → judged_answered l s ≡ Err (errors.Receive r) → ⊥
            never None s k = cc
            never (Some x) None k = cc
            never (Some x) (Some y) k = chosen (lt_z x y) k
              where
                chosen : (b : Bool) → ◌≡◌ {A = Result (Unit {0}) AnsweredError} (if b then Ok tt else Err (errors.Replayed x y)) (Err (errors.Receive r)) → ⊥
                chosen true k = cc
                chosen false k = cc

      -- it is received, and the guard lets it pass
      pub receipt_so : (r : Receipt) → IsReceivedUnder (answered_scheme q answers) kind octets keys when (Ok (r.message, r.place)) → r.signing_time ≡ asked.signed.signing_time
          → judged_answered last asked.signed.signing_time ≡ Ok tt → IsReceiptBy kind octets keys when answers last r
      receipt_so r received time e = record {
        q = q;
        asked = asked;
        answered = record { count = count; so = receipt_is (answered_scheme q answers) kind octets keys when last asked.signed r asked.begins received time e };
      }

      judged_so : (message : Received) (place : ℕ) → IsReceivedUnder (answered_scheme q answers) kind octets keys when (Ok (message, place))
          → (j : Result (Unit {0}) AnsweredError) → judged_answered last asked.signed.signing_time ≡ j
          → MatchResult (guarded (receipt_of (Ok (message, place)) asked.signed.signing_time) j) (IsReceiptBy kind octets keys when answers last) (RefusesByAnswers kind octets keys when answers last)
      judged_so message place received (Ok tt) e = receipt_so (record { message = message; place = place; signing_time = asked.signed.signing_time }) received refl e
      judged_so message place received (Err error) e = guarded_so message place received error e

      -- all that comes of the message
      pub received_so : (r : Result (Received × ℕ) ReceiveError) → IsReceivedUnder (answered_scheme q answers) kind octets keys when r
          → MatchResult (guarded (receipt_of r asked.signed.signing_time) (judged_answered last asked.signed.signing_time)) (IsReceiptBy kind octets keys when answers last) (RefusesByAnswers kind octets keys when answers last)
      received_so (Ok (message, place)) r = judged_so message place r (judged_answered last asked.signed.signing_time) refl
      received_so (Err error) r = refused_so error r

-- of a message's checks
pub checks_undecoded : (octets : List ℕ) (key : KeyFields) (answers : AnswersFields) (e : DecodeError) → RefusesOctets (signed_message Ber) Ber octets e → RefusesChecks octets key answers (of_decode e)
checks_undecoded octets key answers decode.Malformed r = no_signed decode.Malformed octets r
checks_undecoded octets key answers decode.OutOfMemory r = tt

pub checks_unmatched : (octets : List ℕ) (key : KeyFields) (answers : AnswersFields) (q : QuestionsFields) → AreAskedOf octets (key ∷ []) q
    → (e : AnswersError) → RefusesAnswers answers q e → RefusesChecks octets key answers (of_answers e)
checks_unmatched octets key answers q asked answers_errors.OtherQuestions r = record { q = q; asked = asked; refused = r }
checks_unmatched octets key answers q asked answers_errors.Number r = record { q = q; asked = asked; refused = r }
checks_unmatched octets key answers q asked answers_errors.OutOfMemory r = tt
