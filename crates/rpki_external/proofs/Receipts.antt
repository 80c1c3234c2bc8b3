-- What the replay guard says of a message that is received.
use Rattle.std.proofs.Common.{◌≡◌, ℕ, zero, suc, ℤ, Bool, true, false, if◌then◌else◌, Option, None, Some, Result, Ok, Err, List, [], ◌∷◌, ◌++◌, length, refl, sym, ap, subst, ◌∙◌}
use Rattle.std.specs.Prelude.{slice_get}
use Rattle.std.specs.List.{AllByRecursion}
use Rattle.std.specs.Int.Signed.{lt_z}
use Rattle.rpki_base.specs.Checks.{failing, first_failure}
use Rattle.rpki_base.specs.PublicKey.{KeyFields}
use Rattle.rpki_base.specs.Scheme.{Relation}
use Rattle.rpki_base.specs.declared.validation.ValidationError.{ValidationError}
use Rattle.rpki_sigmsg.specs.Beginning.{BeginsSigned}
use Rattle.rpki_sigmsg.specs.Checks.{Asked, IsBelieved, IsFirstBelieved, IsValidation, SameAnswers, SameAnswersUnder, checks, kind_of}
use Rattle.rpki_sigmsg.specs.Message.{MessageFields}
use Rattle.rpki_sigmsg.proofs.Meaning.{same_validation}
use Rattle.rpki_ca.specs.Acceptance.{AcceptedAt, IsReceivedUnder}
use Rattle.rpki_ca.specs.Keys.{same_key}
use Rattle.rpki_ca.specs.declared.receiving.Kind.{Kind}
use Rattle.rpki_ca.specs.declared.receiving.ReceiveError.{ReceiveError}
use Rattle.rpki_ca.specs.declared.receiving.Received.{Received}
use Rattle.rpki_ca.proofs.Keys.{key_itself}
use Rattle.rpki_ca.proofs.Laws.{one_signed}
use Rattle.rpki_replay.specs.Admission.{IsAdmission, answer_behind, judged}
use Rattle.rpki_replay.specs.State.{last_of}
use Rattle.rpki_replay.specs.declared.guard.GuardError.{GuardError}
use Rattle.rpki_replay.specs.declared.guard.GuardError.TheVariants as guard
use Rattle.rpki_replay.specs.declared.peers.Peer.{Peer}
use Rattle.rpki_external.specs.Receiving.{IsGuarded, IsGuardRefusal, IsReceipt, PassesGuard, judged_answered}
use Rattle.rpki_external.specs.declared.receiving.AnsweredError.{AnsweredError}
use Rattle.rpki_external.specs.declared.receiving.AnsweredError.TheVariants as errors
use Rattle.rpki_external.specs.declared.receiving.Receipt.{Receipt}

-- ---- what is believed is validated

pub believed_validation : (scheme : Relation) (m : MessageFields) (key : KeyFields) (when : ℤ) → IsBelieved scheme m key when → IsValidation scheme m key when (Ok tt)
believed_validation scheme m key when b = record {
  believed = (λ e. b, λ x. refl);
  first_failing = λ q.
      let outcome : Bool → Bool → Bool → Result (Unit {0}) ValidationError = λ x y z. failing kind_of (first_failure 1 (checks m key when x y z)) in
      let three : q.q3 ≡ true = q.attributes.1 b.signatures.attributes in
      let eight : q.q8 ≡ true = q.certificate.1 b.signatures.certificate in
      let ten : q.q10 ≡ true = q.crls.1 b.signatures.crls in
      sym (ap (λ (x : Bool). outcome x q.q8 q.q10) three ∙ ap (λ (y : Bool). outcome true y q.q10) eight ∙ ap (λ (z : Bool). outcome true true z) ten ∙ ap (failing kind_of) b.passes);
}

-- ---- the key at a place

at_length : (before : List KeyFields) (key : KeyFields) (behind : List KeyFields) → slice_get (before ++ key ∷ behind) (length before) ≡ Some key
at_length [] key behind = refl
at_length (x ∷ before) key behind = at_length before key behind

one_key : (a b : KeyFields) → Some a ≡ Some b → a ≡ b
one_key a b e = cc

first_at : (scheme : Relation) (m : MessageFields) (keys : List KeyFields) (when : ℤ) (place : ℕ) → (f : IsFirstBelieved scheme m keys when place) → slice_get keys place ≡ Some f.key
first_at scheme m keys when place f =
    ap (λ (l : List KeyFields). slice_get l place) f.parts ∙ ap (slice_get (f.before ++ f.key ∷ f.behind)) f.number ∙ at_length f.before f.key f.behind

believed_there : (scheme : Relation) (m : MessageFields) (keys : List KeyFields) (when : ℤ) (place : ℕ) → IsFirstBelieved scheme m keys when place
    → (key : KeyFields) → slice_get keys place ≡ Some key → IsBelieved scheme m key when
believed_there scheme m keys when place f key at =
    subst (λ (k : KeyFields). IsBelieved scheme m k when) (one_key f.key key (sym (first_at scheme m keys when place f) ∙ at)) f.believed

pub found_at : (P : KeyFields → Type 0) (keys : List KeyFields) (place : ℕ) (key : KeyFields) → slice_get keys place ≡ Some key → AllByRecursion P keys → P key
found_at P [] place key e all = absurd (none_some e)
  where
    none_some : None ≡ Some key → ⊥
    none_some k = cc
found_at P (x ∷ keys) zero key e all = subst P (one_key x key e) all.0
found_at P (x ∷ keys) (suc n) key e all = found_at P keys n key e all.1

-- ---- the guard

abbrev peer : KeyFields → ℤ → List Peer
peer key last = record { key = key; last = last } ∷ []

held : (key : KeyFields) (last : ℤ) → last_of (peer key last) key ≡ Some last
held key last = ap (λ (b : Bool). if b then Some last else None) (key_itself key)

-- what it answers to a message that is believed
guarded : (scheme : Relation) (m : MessageFields) (key : KeyFields) (when last : ℤ) (seen : Option ℤ) → m.signing_time ≡ seen → IsBelieved scheme m key when
    → (answer : Result ℤ GuardError) → answer ≡ judged (Some last) seen → IsGuarded scheme key last m when answer
guarded scheme m key when last seen says b answer is = record {
  validation = Ok tt;
  validates = believed_validation scheme m key when b;
  is = is ∙ ap (judged (Some last)) (sym says) ∙ ap (λ (l : Option ℤ). answer_behind (Ok tt) l m.signing_time) (sym (held key last));
}

module _ (scheme : Relation) (m : MessageFields) (keys : List KeyFields) (when : ℤ) (place : ℕ) (first : IsFirstBelieved scheme m keys when place) where
  passed_at : (last seen : ℤ) → m.signing_time ≡ Some seen → (later : Bool) → lt_z last seen ≡ later → judged_answered (Some last) (Some seen) ≡ Ok tt → PassesGuard scheme keys (Some last) m when place
  passed_at last seen says true later e = λ key at. (
    seen,
    says,
    guarded scheme m key when last (Some seen) says (believed_there scheme m keys when place first key at) (Ok seen)
        (sym (ap (λ (b : Bool). if b then Ok seen else Err (guard.Replayed last seen)) later)),
  )
  passed_at last seen says false later e = absurd (no (sym (ap (λ (b : Bool). if b then Ok tt else Err (errors.Replayed last seen)) later) ∙ e))
    where
      no : ◌≡◌ {A = Result (Unit {0}) AnsweredError} (Err (errors.Replayed last seen)) (Ok tt) → ⊥
      no k = cc

  passed_so : (last seen : Option ℤ) → m.signing_time ≡ seen → judged_answered last seen ≡ Ok tt → PassesGuard scheme keys last m when place
  passed_so None seen says e = tt
  passed_so (Some last) None says e = absurd (no e)
    where
      no : ◌≡◌ {A = Result (Unit {0}) AnsweredError} (Err errors.NoTime) (Ok tt) → ⊥
      no k = cc
  passed_so (Some last) (Some seen) says e = passed_at last seen says (lt_z last seen) refl e

  -- where it doesn't pass, a last time was handed in, and the guard that holds it refuses the message
  abbrev Refused : Option ℤ → GuardError → Type 0
  Refused last error = (admitted : ℤ) × (last ≡ Some admitted)
      × ((key : KeyFields) → slice_get keys place ≡ Some key → IsGuarded scheme key admitted m when (Err error))

  no_time : (last seen : Option ℤ) → m.signing_time ≡ seen → judged_answered last seen ≡ Err errors.NoTime → Refused last guard.NoTime
  no_time None seen says e = absurd (no e)
    where
      no : ◌≡◌ {A = Result (Unit {0}) AnsweredError} (Ok tt) (Err errors.NoTime) → ⊥
      no k = cc
  no_time (Some last) None says e =
      (last, refl, λ key at. guarded scheme m key when last None says (believed_there scheme m keys when place first key at) (Err guard.NoTime) refl)
  no_time (Some last) (Some seen) says e = absurd (no (lt_z last seen) e)
    where
      no : (b : Bool) → ◌≡◌ {A = Result (Unit {0}) AnsweredError} (if b then Ok tt else Err (errors.Replayed last seen)) (Err errors.NoTime) → ⊥
      no true k = cc
      no false k = cc

  replayed_at : (last seen before after : ℤ) → m.signing_time ≡ Some seen → (later : Bool) → lt_z last seen ≡ later
      → judged_answered (Some last) (Some seen) ≡ Err (errors.Replayed before after) → Refused (Some last) (guard.Replayed before after)
  replayed_at last seen before after says true later e = absurd (no (sym (ap (λ (b : Bool). if b then Ok tt else Err (errors.Replayed last seen)) later) ∙ e))
    where
      no : ◌≡◌ {A = Result (Unit {0}) AnsweredError} (Ok tt) (Err (errors.Replayed before after)) → ⊥
      no k = cc
  replayed_at last seen before after says false later e =
      let is : ◌≡◌ {A = Result (Unit {0}) AnsweredError} (Err (errors.Replayed last seen)) (Err (errors.Replayed before after)) =
      sym (ap (λ (b : Bool). if b then Ok tt else Err (errors.Replayed last seen)) later) ∙ e in
      let one : last ≡ before = cc in
      let two : seen ≡ after = cc in
      let same : ◌≡◌ {A = Result ℤ GuardError} (Err (guard.Replayed before after)) (Err (guard.Replayed last seen)) = λ i. Err (guard.Replayed (sym one i) (sym two i)) in (
        last,
        refl,
        λ key at. guarded scheme m key when last (Some seen) says (believed_there scheme m keys when place first key at) (Err (guard.Replayed before after))
            (same ∙ sym (ap (λ (b : Bool). if b then Ok seen else Err (guard.Replayed last seen)) later)),
      )

  replayed : (last seen : Option ℤ) (before after : ℤ) → m.signing_time ≡ seen → judged_answered last seen ≡ Err (errors.Replayed before after) → Refused last (guard.Replayed before after)
  replayed None seen before after says e = absurd (no e)
    where
      no : ◌≡◌ {A = Result (Unit {0}) AnsweredError} (Ok tt) (Err (errors.Replayed before after)) → ⊥
      no k = cc
  replayed (Some last) None before after says e = absurd (no e)
    where
      no : ◌≡◌ {A = Result (Unit {0}) AnsweredError} (Err errors.NoTime) (Err (errors.Replayed before after)) → ⊥
      no k = cc
  replayed (Some last) (Some seen) before after says e = replayed_at last seen before after says (lt_z last seen) refl e

-- ---- a receipt

first_of : (scheme : Relation) (kind : Kind) (octets : List ℕ) (keys : List KeyFields) (when : ℤ) (signed : MessageFields) (message : Received) (place : ℕ)
    → BeginsSigned octets signed → IsReceivedUnder scheme kind octets keys when (Ok (message, place)) → IsFirstBelieved scheme signed keys when place
first_of scheme kind octets keys when signed message place begins r =
    subst (λ (m : MessageFields). IsFirstBelieved scheme m keys when place) (one_signed octets r.signed signed r.begins begins) r.believed

pub receipt_is : (scheme : Relation) (kind : Kind) (octets : List ℕ) (keys : List KeyFields) (when : ℤ) (last : Option ℤ) (signed : MessageFields) (r : Receipt)
    → BeginsSigned octets signed → IsReceivedUnder scheme kind octets keys when (Ok (r.message, r.place)) → r.signing_time ≡ signed.signing_time
    → judged_answered last signed.signing_time ≡ Ok tt → IsReceipt scheme kind octets keys when last r
receipt_is scheme kind octets keys when last signed r begins received time e = record {
  signed = signed;
  begins = begins;
  received = received;
  time = time;
  guarded = passed_so scheme signed keys when r.place (first_of scheme kind octets keys when signed r.message r.place begins received) last signed.signing_time refl e;
}

pub refusal_no_time : (scheme : Relation) (kind : Kind) (octets : List ℕ) (keys : List KeyFields) (when : ℤ) (last : Option ℤ) (signed : MessageFields) (message : Received) (place : ℕ)
    → BeginsSigned octets signed → IsReceivedUnder scheme kind octets keys when (Ok (message, place))
    → judged_answered last signed.signing_time ≡ Err errors.NoTime → IsGuardRefusal scheme kind octets keys when last guard.NoTime
refusal_no_time scheme kind octets keys when last signed message place begins received e =
    let told = no_time scheme signed keys when place (first_of scheme kind octets keys when signed message place begins received) last signed.signing_time refl e in
    record { signed = signed; begins = begins; message = message; place = place; received = received; admitted = told.0; handed = told.1; refused = told.2 }

pub refusal_replayed : (scheme : Relation) (kind : Kind) (octets : List ℕ) (keys : List KeyFields) (when : ℤ) (last : Option ℤ) (signed : MessageFields) (message : Received) (place : ℕ) (before after : ℤ)
    → BeginsSigned octets signed → IsReceivedUnder scheme kind octets keys when (Ok (message, place))
    → judged_answered last signed.signing_time ≡ Err (errors.Replayed before after) → IsGuardRefusal scheme kind octets keys when last (guard.Replayed before after)
refusal_replayed scheme kind octets keys when last signed message place before after begins received e =
    let told = replayed scheme signed keys when place (first_of scheme kind octets keys when signed message place begins received) last signed.signing_time before after refl e in
    record { signed = signed; begins = begins; message = message; place = place; received = received; admitted = told.0; handed = told.1; refused = told.2 }

-- what the guard refuses isn't later than what it holds
pub refused_judged : (scheme : Relation) (kind : Kind) (octets : List ℕ) (keys : List KeyFields) (when : ℤ) (last : Option ℤ) (error : GuardError) → (r : IsGuardRefusal scheme kind octets keys when last error)
    → judged (Some r.admitted) r.signed.signing_time ≡ Err error
refused_judged scheme kind octets keys when last error r =
    let first = first_of scheme kind octets keys when r.signed r.message r.place r.begins r.received in
    let at : slice_get keys r.place ≡ Some first.key = first_at scheme r.signed keys when r.place first in
    let told = r.refused first.key at in
    let passed : told.validation ≡ Ok tt = told.validates.believed.1 (believed_there scheme r.signed keys when r.place first first.key at) in
    sym (told.is ∙ ap (λ (v : Result (Unit {0}) ValidationError). answer_behind v (last_of (peer first.key r.admitted) first.key) r.signed.signing_time) passed
    ∙ ap (λ (l : Option ℤ). answer_behind (Ok tt) l r.signed.signing_time) (held first.key r.admitted))

-- ---- two schemes

pub guarded_too : (s t : Relation) (key : KeyFields) (last : ℤ) (m : MessageFields) (when : ℤ) (answer : Result ℤ GuardError) → SameAnswers s t m key
    → IsGuarded s key last m when answer → IsGuarded t key last m when answer
guarded_too s t key last m when answer same g = record {
  validation = g.validation;
  validates = same_validation s t m key when g.validation same g.validates;
  is = g.is;
}

pub passes_too : (s t : Relation) (keys : List KeyFields) (last : Option ℤ) (m : MessageFields) (when : ℤ) (place : ℕ) → SameAnswersUnder s t m keys
    → PassesGuard s keys last m when place → PassesGuard t keys last m when place
passes_too s t keys None m when place same p = tt
passes_too s t keys (Some last) m when place same p = λ key at.
    let g = p key at in
    (g.0, g.1, guarded_too s t key last m when (Ok g.0) (found_at (SameAnswers s t m) keys place key at same) g.2)
