-- How a run ends.
use Rattle.std.proofs.Common.{◌≡◌, ◌≢◌, ◌^◌, ◌⊎◌, inl, inr, ℕ, ℤ, Option, Some, None, Result, Ok, Err, List, [], ◌∷◌, ◌++◌, length, ◌≤◌, refl, sym, ap, subst, ◌∙◌, arith, lit<}
use Rattle.std.specs.Prelude.{IfSome, IfOk, IfErr, IsErrOf, MatchResult, ◌<◌, ◌==◌, if◌then◌else◌}
use Rattle.std.specs.Io.KnownBytes.{Appends, IsAtEnd}
use Rattle.std.proofs.lemmas.Bool.Decides.{leb_tells}
use Rattle.rpki_common.proofs.Truths.{none_some, same_some}
use Rattle.rpki_base.specs.Algorithm.{format_of}
use Rattle.rpki_base.specs.PublicKey.{KeyFields}
use Rattle.rpki_base.specs.declared.algorithm.SigningAlgorithm.{SigningAlgorithm}
use Rattle.rpki_ca.specs.declared.command.Command.{Command}
use Rattle.rpki_ca.specs.declared.command.Command.TheVariants.{Receive, Setup}
use Rattle.rpki_ca.specs.declared.setup_message.SetupKind.{SetupKind}
use Rattle.rpki_ca.specs.declared.receiving.Kind.{Kind}
use Rattle.rpki_ca.specs.declared.receiving.Kind.TheVariants as kinds
use Rattle.rpki_ca.specs.declared.refusals.Refusal.{Refusal}
use Rattle.rpki_ca.specs.declared.refusals.Refusal.TheVariants as refusals
use Rattle.rpki_ca.specs.Command.{IsReceive, IsCreate, IsSetup, IsNoCommand}
use Rattle.rpki_ca.specs.Setup.{IsSetUp}
use Rattle.rpki_ca.specs.Creation.{Creates, CanCreate, CanSign}
use Rattle.rpki_ca.specs.Summary.{made_at, made_message, IsMakeAnswer, Makes}
use Rattle.rpki_ca.specs.Hexadecimal.{hexadecimal}
use Rattle.rpki_ca.specs.Refusal.{status_of}
use Rattle.rpki_base.specs.Scheme.{Relation}
use Rattle.rpki_ca.specs.Acceptance.{accepted_text}
use Rattle.rpki_text.specs.Source.{OfInput}
use Rattle.rpki_ca.specs.Seen.{Seen, SignerSeen, HasFailed, IsSteady}
use Rattle.rpki_ca.specs.Answer.{AnswersSpelled, AnswersSigned, IsAnswer, IsGiven, IsShown, IsAdmitted, IsLineOf, Ends, EndsAs, ReadsAll, Delivers, BringsAccepted, Succeeds}
use Rattle.rpki_ca.proofs.Commands.{is_command, is_setup, one_command}
use Rattle.rpki_ca.proofs.Answering.{always_some, answers, each_input, sort_of, to_shown, told_input}
use Rattle.rpki_ca.proofs.Laws.{one_answer_to_words, from_signer_alone}
use Rattle.rpki_ca.proofs.Creating.{creates, text_from_signer, not_refused, no_signed}

-- an admitted answer with which the call ended
pub record Answered {I : Type 0} (scheme : Relation) (words : List (List ℕ)) (source sink : Seen) (signer : SignerSeen I) (status : ℕ) : Type 0 where
  pub answer : Result (List ℕ) Refusal
  pub admitted : IsAdmitted scheme words source signer answer
  pub ends : Ends answer status sink

pub answered : {L I : Type 0} (E : L → List ℕ → Type 0) (scheme : Relation) (words : List (List ℕ)) (source sink : Seen) (signer : SignerSeen I) (status : ℕ) (r : Result L Refusal)
    → IfOk r (λ line. (text : List ℕ) × IsShown scheme words source signer (Ok text) × E line text) → IfErr r (λ e. IsAdmitted scheme words source signer (Err e))
    → IfOk r (λ line. (text : List ℕ) → E line text → Ends (Ok text) status sink) → IfErr r (λ e. Ends (Err e) status sink) → Answered scheme words source sink signer status
answered E scheme words source sink signer status (Ok line) told a ends b = record { answer = Ok told.0; admitted = told.1; ends = ends told.0 told.2 }
answered E scheme words source sink signer status (Err e) a told b ends = record { answer = Err e; admitted = told; ends = ends }

-- a status is one number
not_both : (s m n : ℕ) → s ≡ m → s ≡ n → m < n ⊎ n < m → ⊥
not_both s m n a b (inl l) = omega (arith, a, b, l)
not_both s m n a b (inr l) = omega (arith, a, b, l)

-- how a status comes from what was answered
abbrev Status : {L : Type 0} → Result L Refusal → ℕ → Type 0
Status r s = MatchResult r (λ _. (s ≡ 0) ⊎ (s ≡ 11)) (λ e. (s ≡ status_of e) ⊎ (s ≡ 11))

-- ---- status 0

-- an answer that ends with 0 is a text, and it was written
pub record Written {I : Type 0} (scheme : Relation) (words : List (List ℕ)) (source sink : Seen) (signer : SignerSeen I) : Type 0 where
  pub text : List ℕ
  pub shown : OfInput source.before (λ input. IsGiven scheme words signer input (Ok text))
  pub written : Appends sink.before sink.after (text ++ 10 ∷ [])

no_zero : (r : Refusal) → 0 ≡ status_of r → ⊥
no_zero refusals.Usage k = cc
no_zero refusals.Hex k = cc
no_zero refusals.CmsDecode k = cc
no_zero refusals.XmlError k = cc
no_zero refusals.CertSyntax k = cc
no_zero refusals.InvalidCsrSyntax k = cc
no_zero refusals.InvalidTaCertEncoding k = cc
no_zero refusals.InvalidTaCert k = cc
no_zero (refusals.Validation n) k = cc
no_zero refusals.TooLong k = cc
no_zero refusals.KeyNotFound k = cc
no_zero refusals.IncompatibleKey k = cc
no_zero refusals.KeyReused k = cc
no_zero refusals.Signer k = cc
no_zero refusals.Moment k = cc
no_zero refusals.ReadFault k = cc
no_zero refusals.OutOfMemory k = cc

by_answer : {I : Type 0} (scheme : Relation) (words : List (List ℕ)) (source sink : Seen) (signer : SignerSeen I) (a : Result (List ℕ) Refusal) → IsAdmitted scheme words source signer a → Ends a 0 sink → Written scheme words source sink signer
by_answer scheme words source sink signer (Ok text) h (inl w) = record { text = text; shown = h.shown; written = w.1 }
by_answer scheme words source sink signer (Err r) h (inl w) = absurd (no_zero r w.0)
by_answer scheme words source sink signer a h (inr w) = absurd (not_both 0 0 11 refl w.0 (inl (lit< tt)))

pub written : {I : Type 0} (scheme : Relation) (words : List (List ℕ)) (source sink : Seen) (signer : SignerSeen I) (status : ℕ) → Answered scheme words source sink signer status → status ≡ 0 → Written scheme words source sink signer
written scheme words source sink signer status a zero = by_answer scheme words source sink signer a.answer a.admitted (subst (λ (s : ℕ). Ends a.answer s sink) zero a.ends)

pub done : {I : Type 0} (scheme : Relation) (words : List (List ℕ)) (source sink : Seen) (signer : SignerSeen I) (status : ℕ) → Answered scheme words source sink signer status → status ≡ 0
    → OfInput source.before (λ rest. (text : List ℕ) × IsGiven scheme words signer rest (Ok text) × Appends sink.before sink.after (text ++ 10 ∷ []))
done scheme words source sink signer status a zero =
    let w = written scheme words source sink signer status a zero in each_input source.before _ _ (λ rest is. (w.text, is, w.written)) w.shown

-- ---- what `receive` delivers

abbrev ok_text : List ℕ → Result (List ℕ) Refusal
ok_text text = Ok text

unlike : (text : List ℕ) (r : Refusal) → ok_text text ≡ Err r → ⊥
unlike text r e = cc

spelled : (scheme : Relation) (kind : Kind) (keys : List KeyFields) (when : ℤ) (input text : List ℕ) (octets : Option (List ℕ)) (sink : Seen) → hexadecimal input ≡ octets
    → AnswersSpelled scheme (Receive kind when keys) octets (Ok text) → Appends sink.before sink.after (text ++ 10 ∷ []) → Delivers scheme kind keys when input sink
spelled scheme kind keys when input text None sink h a w = absurd (unlike text refusals.Hex a)
spelled scheme kind keys when input text (Some octets) sink h a w =
    record { octets = octets; spells = h; message = a.message; accepted = a.accepted; written = subst (λ (t : List ℕ). Appends sink.before sink.after (t ++ 10 ∷ [])) a.written w }

delivers : (scheme : Relation) (words : List (List ℕ)) (kind : Kind) (keys : List KeyFields) (when : ℤ) (input text : List ℕ) (sink : Seen) → IsReceive words kind when keys
    → Appends sink.before sink.after (text ++ 10 ∷ []) → IsAnswer scheme words input (Ok text) → Delivers scheme kind keys when input sink
delivers scheme words kind keys when input text sink is w a =
    elim (leb_tells (length input) (2 ^ 26)) [
      | inl within ↦ spelled scheme kind keys when input text (hexadecimal input) sink refl (a.answers (Receive kind when keys) (is_command words kind when keys is) (λ reads. within.1)) w
      | inr longer ↦ absurd (unlike text refusals.TooLong (a.long (Receive kind when keys) (is_command words kind when keys is) tt longer.1))
    ]

-- words of `receive` ask for no signer
unsigned : {I : Type 0} (scheme : Relation) (c : Command) (kind : Kind) (when : ℤ) (keys : List KeyFields) (input : List ℕ) (signer : SignerSeen I) (a : Result (List ℕ) Refusal) → c ≡ Receive kind when keys → AnswersSigned scheme c input signer a → ⊥
unsigned scheme c kind when keys input signer a e = rw e (λ h. h)

given_delivers : {I : Type 0} (scheme : Relation) (words : List (List ℕ)) (signer : SignerSeen I) (kind : Kind) (keys : List KeyFields) (when : ℤ) (input text : List ℕ) (sink : Seen) → IsReceive words kind when keys
    → Appends sink.before sink.after (text ++ 10 ∷ []) → IsGiven scheme words signer input (Ok text) → Delivers scheme kind keys when input sink
given_delivers scheme words signer kind keys when input text sink is w (inl a) = delivers scheme words kind keys when input text sink is w a
given_delivers scheme words signer kind keys when input text sink is w (inr a) =
    absurd (unsigned scheme a.command kind when keys input signer (Ok text) (one_command words a.command (Receive kind when keys) a.is (is_command words kind when keys is)) a.answers)

pub received : {I : Type 0} (scheme : Relation) (words : List (List ℕ)) (source sink : Seen) (signer : SignerSeen I) (status : ℕ) → Answered scheme words source sink signer status → (kind : Kind) (when : ℤ) (keys : List KeyFields)
    → IsReceive words kind when keys → status ≡ 0 → OfInput source.before (λ rest. Delivers scheme kind keys when rest sink)
received scheme words source sink signer status a kind when keys is zero =
    let w = written scheme words source sink signer status a zero in
    each_input source.before _ _ (λ rest said. given_delivers scheme words signer kind keys when rest w.text sink is w.written said) w.shown

-- ---- the answer that words and input show

-- the call ended with the one answer that words and input show, where they show one
shown_once : {I : Type 0} (scheme : Relation) (words : List (List ℕ)) (source sink : Seen) (signer : SignerSeen I) (status : ℕ) (here a : Result (List ℕ) Refusal) (rest : List ℕ) → Ends here status sink → IsGiven scheme words signer rest here → IsAnswer scheme words rest a → EndsAs a status source sink
shown_once scheme words source sink signer status here a rest ends (inl x) y = inl (subst (λ (b : Result (List ℕ) Refusal). Ends b status sink) (one_answer_to_words scheme words rest here a x y) ends)
shown_once scheme words source sink signer status here a rest ends (inr x) y = absurd (from_signer_alone scheme words signer rest a here y x)

by_admitted : {I : Type 0} (scheme : Relation) (words : List (List ℕ)) (source sink : Seen) (signer : SignerSeen I) (status : ℕ) (here a : Result (List ℕ) Refusal) → IsAdmitted scheme words source signer here → Ends here status sink
    → IfSome source.before (λ rest. IsAnswer scheme words rest a → EndsAs a status source sink)
by_admitted scheme words source sink signer status (Ok text) a h ends = told_input source.before _ _ (λ rest x y. shown_once scheme words source sink signer status (Ok text) a rest ends x y) h.shown
by_admitted scheme words source sink signer status (Err r) a h ends =
    elim (sort_of r) [
      | inl fault ↦
          always_some source.before _ (λ rest y. inr (inr (subst (λ (e : Refusal). Ends (Err e) status sink) fault ends, subst (λ (e : Refusal). IsAdmitted scheme words source signer (Err e)) fault h)))
      | inr (inl memory) ↦ always_some source.before _ (λ rest y. inr (inl (subst (λ (e : Refusal). Ends (Err e) status sink) memory ends)))
      | inr (inr other) ↦
          told_input source.before _ _ (λ rest x y. shown_once scheme words source sink signer status (Err r) a rest ends x y)
          (to_shown scheme words source signer r other.0 other.1 h).shown
    ]

pub ends_as : {I : Type 0} (scheme : Relation) (words : List (List ℕ)) (source sink : Seen) (signer : SignerSeen I) (status : ℕ) → Answered scheme words source sink signer status → (a : Result (List ℕ) Refusal)
    → IfSome source.before (λ rest. IsAnswer scheme words rest a → EndsAs a status source sink)
ends_as scheme words source sink signer status h a = by_admitted scheme words source sink signer status h.answer a h.admitted h.ends

if_each : {X A : Type 0} (o : Option X) (P : A → X → Type 0) (Q : X → Type 0) → ((x : X) → ((a : A) → P a x) → Q x) → ((a : A) → IfSome o (P a)) → IfSome o Q
if_each None P Q f p = tt
if_each (Some x) P Q f p = f x p

text_succeeds : (text : List ℕ) (status : ℕ) (source sink : Seen) → EndsAs (Ok text) status source sink → Succeeds status source sink
text_succeeds text status source sink (inl (inl w)) = inl w.0
text_succeeds text status source sink (inl (inr w)) = inr (inr (inr (w.0, w.2)))
text_succeeds text status source sink (inr (inl (inl w))) = inr (inl w.0)
text_succeeds text status source sink (inr (inl (inr w))) = inr (inr (inr (w.0, w.2)))
text_succeeds text status source sink (inr (inr (inl w, failed))) = inr (inr (inl (w.0, failed)))
text_succeeds text status source sink (inr (inr (inr w, failed))) = inr (inr (inr (w.0, w.2)))

holds_text : (scheme : Relation) (words : List (List ℕ)) (kind : Kind) (keys : List KeyFields) (when : ℤ) (input : List ℕ) (h : BringsAccepted scheme kind keys when input) → IsReceive words kind when keys
    → IsAnswer scheme words input (Ok (accepted_text h.message))
holds_text scheme words kind keys when input h is =
    let said : AnswersSpelled scheme (Receive kind when keys) (Some h.octets) (Ok (accepted_text h.message)) = record { message = h.message; accepted = h.accepted; written = refl } in
    answers scheme words input (Receive kind when keys) (Ok (accepted_text h.message)) (is_command words kind when keys is) (λ reads. h.short)
    (subst (λ (o : Option (List ℕ)). AnswersSpelled scheme (Receive kind when keys) o (Ok (accepted_text h.message))) (sym h.spells) said)

pub succeeds : {I : Type 0} (scheme : Relation) (words : List (List ℕ)) (source sink : Seen) (signer : SignerSeen I) (status : ℕ) → Answered scheme words source sink signer status → (kind : Kind) (when : ℤ) (keys : List KeyFields)
    → IsReceive words kind when keys → IfSome source.before (λ rest. BringsAccepted scheme kind keys when rest → Succeeds status source sink)
succeeds scheme words source sink signer status a kind when keys is =
    if_each source.before (λ (b : Result (List ℕ) Refusal) rest. IsAnswer scheme words rest b → EndsAs b status source sink) _
    (λ rest each h. text_succeeds (accepted_text h.message) status source sink (each (Ok (accepted_text h.message)) (holds_text scheme words kind keys when rest h is)))
    (ends_as scheme words source sink signer status a)

-- ---- what `create` creates

pub created : {I : Type 0} (scheme : Relation) → ((kind : SigningAlgorithm) (key : KeyFields) (message signature : List ℕ) → scheme kind key message signature → key.format ≡ format_of kind) → (words : List (List ℕ)) (source sink : Seen) (signer : SignerSeen I) (status : ℕ)
    → Answered scheme words source sink signer status → (kind : Kind) (when : ℤ) → IsCreate words kind when → status ≡ 0 → OfInput source.before (λ rest. Creates scheme kind when rest signer sink)
created scheme fit words source sink signer status a kind when is zero =
    let w = written scheme words source sink signer status a zero in
    each_input source.before _ _ (λ rest said. creates scheme fit kind when rest w.text signer sink (text_from_signer scheme words kind when rest w.text signer is said) w.written) w.shown

ended : (text : List ℕ) (status : ℕ) (source sink : Seen) → Ends (Ok text) status sink → Succeeds status source sink
ended text status source sink (inl w) = inl w.0
ended text status source sink (inr w) = inr (inr (inr (w.0, w.2)))

ended_memory : (status : ℕ) (source sink : Seen) → Ends (Err refusals.OutOfMemory) status sink → Succeeds status source sink
ended_memory status source sink (inl w) = inr (inl w.0)
ended_memory status source sink (inr w) = inr (inr (inr (w.0, w.2)))

ended_fault : (status : ℕ) (source sink : Seen) → HasFailed source → Ends (Err refusals.ReadFault) status sink → Succeeds status source sink
ended_fault status source sink failed (inl w) = inr (inr (inl (w.0, failed)))
ended_fault status source sink failed (inr w) = inr (inr (inr (w.0, w.2)))

can_succeed : {I : Type 0} (scheme : Relation) (words : List (List ℕ)) (source sink : Seen) (signer : SignerSeen I) (status : ℕ) (here : Result (List ℕ) Refusal) → IsAdmitted scheme words source signer here → Ends here status sink
    → (kind : Kind) (when : ℤ) → IsCreate words kind when → IfSome source.before (λ rest. CanCreate kind when rest signer → Succeeds status source sink)
can_succeed scheme words source sink signer status (Ok text) h ends kind when is = always_some source.before _ (λ rest can. ended text status source sink ends)
can_succeed scheme words source sink signer status (Err r) h ends kind when is =
    elim (sort_of r) [
      | inl fault ↦
          always_some source.before _ (λ rest can.
          ended_fault status source sink (subst (λ (e : Refusal). IsAdmitted scheme words source signer (Err e)) fault h) (subst (λ (e : Refusal). Ends (Err e) status sink) fault ends))
      | inr (inl memory) ↦ always_some source.before _ (λ rest can. ended_memory status source sink (subst (λ (e : Refusal). Ends (Err e) status sink) memory ends))
      | inr (inr other) ↦
          told_input source.before _ _ (λ rest said can. absurd (not_refused scheme words kind when rest signer r is can said))
          (to_shown scheme words source signer r other.0 other.1 h).shown
    ]

pub can_create : {I : Type 0} (scheme : Relation) (words : List (List ℕ)) (source sink : Seen) (signer : SignerSeen I) (status : ℕ) → Answered scheme words source sink signer status → (kind : Kind) (when : ℤ)
    → IsCreate words kind when → IfSome source.before (λ rest. CanCreate kind when rest signer → Succeeds status source sink)
can_create scheme words source sink signer status a kind when is = can_succeed scheme words source sink signer status a.answer a.admitted a.ends kind when is

-- ---- what `setup` shows

set_up_text : {I : Type 0} (scheme : Relation) (words : List (List ℕ)) (signer : SignerSeen I) (kind : SetupKind) (when : ℤ) (input text : List ℕ) → IsSetup words kind when → IsGiven scheme words signer input (Ok text) → IsSetUp scheme kind input when text
set_up_text scheme words signer kind when input text is (inl a) =
    elim (leb_tells (length input) (2 ^ 26)) [
      | inl within ↦ a.answers (Setup kind when) (is_setup words kind when is) (λ reads. within.1)
      | inr longer ↦ absurd (unlike text refusals.TooLong (a.long (Setup kind when) (is_setup words kind when is) tt longer.1))
    ]
set_up_text scheme words signer kind when input text is (inr a) =
    absurd (no_signer scheme a.command kind when input signer (Ok text) (one_command words a.command (Setup kind when) a.is (is_setup words kind when is)) a.answers)
  where
    no_signer : {I : Type 0} (scheme : Relation) (c : Command) (kind : SetupKind) (when : ℤ) (input : List ℕ) (signer : SignerSeen I) (a : Result (List ℕ) Refusal) → c ≡ Setup kind when → AnswersSigned scheme c input signer a → ⊥
    no_signer scheme c kind when input signer a e = rw e (λ h. h)

pub set_up : {I : Type 0} (scheme : Relation) (words : List (List ℕ)) (source sink : Seen) (signer : SignerSeen I) (status : ℕ) → Answered scheme words source sink signer status → (kind : SetupKind) (when : ℤ)
    → IsSetup words kind when → status ≡ 0 → OfInput source.before (λ rest. (text : List ℕ) × IsSetUp scheme kind rest when text × Appends sink.before sink.after (text ++ 10 ∷ []))
set_up scheme words source sink signer status a kind when is zero =
    let w = written scheme words source sink signer status a zero in
    each_input source.before _ _ (λ rest said. (w.text, set_up_text scheme words signer kind when rest w.text is said, w.written)) w.shown

-- ---- what `make` makes

-- what a line or a refusal was answered with the status comes of
abbrev Finished : {L : Type 0} → (L → List ℕ) → Result L Refusal → ℕ → Seen → Type 0
Finished items r status sink = IfOk r (λ line. (text : List ℕ) → items line ≡ text ++ 10 ∷ [] → Ends (Ok text) status sink)

pub made : {L I : Type 0} (items : L → List ℕ) (scheme : Relation) (count seed : ℕ) (signer : SignerSeen I) (sink : Seen) (r : Result L Refusal) (status : ℕ)
    → MatchResult r (λ line. IsLineOf (IsMakeAnswer scheme count seed signer) (items line)) (λ e. e ≢ refusals.OutOfMemory → IsMakeAnswer scheme count seed signer (Err e))
    → Finished items r status sink → Status r status → status ≡ 0 → Makes scheme count seed signer sink
made items scheme count seed signer sink (Ok line) status told ends st zero = whole (subst (λ s. Ends (Ok told.0) s sink) zero (ends told.0 told.2))
  where
    whole : Ends (Ok told.0) 0 sink → Makes scheme count seed signer sink
    whole (inl w) = record { text = told.0; summed = told.1; written = w.1 }
    whole (inr w) = absurd (not_both 0 0 11 refl w.0 (inl (lit< tt)))
made items scheme count seed signer sink (Err e) status told ends (inl is) zero = absurd (no_zero e (sym zero ∙ is))
made items scheme count seed signer sink (Err e) status told ends (inr is) zero = absurd (not_both status 0 11 zero is (inl (lit< tt)))

pub makes : {L I : Type 0} (items : L → List ℕ) (scheme : Relation) (count seed : ℕ) (signer : SignerSeen I) (r : Result L Refusal) (status : ℕ)
    → MatchResult r (λ line. IsLineOf (IsMakeAnswer scheme count seed signer) (items line)) (λ e. e ≢ refusals.OutOfMemory → IsMakeAnswer scheme count seed signer (Err e))
    → Status r status → CanSign signer → (status ≡ 0) ⊎ ((status ≡ 12) ⊎ (status ≡ 11))
makes items scheme count seed signer (Ok line) status told (inl is) can = inl is
makes items scheme count seed signer (Ok line) status told (inr is) can = inr (inr is)
makes items scheme count seed signer (Err e) status told (inr is) can = inr (inr is)
makes items scheme count seed signer (Err e) status told (inl is) can =
    elim (sort_of e) [
      | inl fault ↦ absurd (subst (λ (x : Refusal). IsMakeAnswer scheme count seed signer (Err x)) fault (told (λ k. unlike_memory (sym fault ∙ k)))).0
      | inr (inl memory) ↦ inr (inl (is ∙ ap status_of memory))
      | inr (inr other) ↦ absurd (no_signed scheme kinds.Publication made_at signer (made_message seed count) e can (told other.1).0)
    ]
  where
    unlike_memory : refusals.ReadFault ≡ refusals.OutOfMemory → ⊥
    unlike_memory k = cc

-- ---- faults of the source

-- the refusals that have a status of which a clause speaks
abbrev with_status : ℕ → Option Refusal
with_status s = if s == 2 then Some refusals.Usage else if s == 9 then Some refusals.TooLong else if s == 10 then Some refusals.ReadFault else None

alone : (r x : Refusal) → with_status (status_of r) ≡ Some x → r ≡ x
alone refusals.Usage x e = same_some _ x e
alone refusals.Hex x e = absurd (none_some x e)
alone refusals.CmsDecode x e = absurd (none_some x e)
alone refusals.XmlError x e = absurd (none_some x e)
alone refusals.CertSyntax x e = absurd (none_some x e)
alone refusals.InvalidCsrSyntax x e = absurd (none_some x e)
alone refusals.InvalidTaCertEncoding x e = absurd (none_some x e)
alone refusals.InvalidTaCert x e = absurd (none_some x e)
alone (refusals.Validation n) x e = absurd (none_some x e)
alone refusals.TooLong x e = same_some _ x e
alone refusals.KeyNotFound x e = absurd (none_some x e)
alone refusals.IncompatibleKey x e = absurd (none_some x e)
alone refusals.KeyReused x e = absurd (none_some x e)
alone refusals.Signer x e = absurd (none_some x e)
alone refusals.Moment x e = absurd (none_some x e)
alone refusals.ReadFault x e = same_some _ x e
alone refusals.OutOfMemory x e = absurd (none_some x e)

ten : {I : Type 0} (scheme : Relation) (words : List (List ℕ)) (source sink : Seen) (signer : SignerSeen I) (a : Result (List ℕ) Refusal) → IsAdmitted scheme words source signer a → Ends a 10 sink → HasFailed source
ten scheme words source sink signer (Ok text) h (inl w) = absurd (not_both 10 10 0 refl w.0 (inr (lit< tt)))
ten scheme words source sink signer (Err r) h (inl w) = subst (λ (e : Refusal). IsAdmitted scheme words source signer (Err e)) (alone r refusals.ReadFault (ap with_status (sym w.0))) h
ten scheme words source sink signer a h (inr w) = absurd (not_both 10 10 11 refl w.0 (inl (lit< tt)))

pub read_fault : {I : Type 0} (scheme : Relation) (words : List (List ℕ)) (source sink : Seen) (signer : SignerSeen I) (status : ℕ) → Answered scheme words source sink signer status → status ≡ 10 → HasFailed source
read_fault scheme words source sink signer status a e = ten scheme words source sink signer a.answer a.admitted (subst (λ (s : ℕ). Ends a.answer s sink) e a.ends)

steady : {I : Type 0} (scheme : Relation) (words : List (List ℕ)) (source sink : Seen) (signer : SignerSeen I) (status : ℕ) (a : Result (List ℕ) Refusal) → IsAdmitted scheme words source signer a → Ends a status sink
    → status ≢ 10 → status ≢ 11 → IsSteady source
steady scheme words source sink signer status a h (inr w) ten eleven = absurd (eleven w.0)
steady scheme words source sink signer status (Ok text) h (inl w) ten eleven = h.steady
steady scheme words source sink signer status (Err r) h (inl w) ten eleven =
    elim (sort_of r) [
      | inl fault ↦ absurd (ten (w.0 ∙ ap status_of fault))
      | inr (inl memory) ↦ subst (λ (e : Refusal). IsAdmitted scheme words source signer (Err e)) memory h
      | inr (inr other) ↦ (to_shown scheme words source signer r other.0 other.1 h).steady
    ]

pub no_read_fault : {I : Type 0} (scheme : Relation) (words : List (List ℕ)) (source sink : Seen) (signer : SignerSeen I) (status : ℕ) → Answered scheme words source sink signer status → status ≢ 10 → status ≢ 11 → IsSteady source
no_read_fault scheme words source sink signer status a ten eleven = steady scheme words source sink signer status a.answer a.admitted a.ends ten eleven

-- ---- statuses of refusals

pub usage : {L : Type 0} (words : List (List ℕ)) (r : Result L Refusal) (s : ℕ) → (IsErrOf r refusals.Usage → IsNoCommand words) → Status r s → s ≡ 2 → IsNoCommand words
usage words (Ok line) s f (inl e) two = absurd (not_both s 2 0 two e (inr (lit< tt)))
usage words (Ok line) s f (inr e) two = absurd (not_both s 2 11 two e (inl (lit< tt)))
usage words (Err r) s f (inl e) two = f (ap (λ (x : Refusal). Err x) (alone r refusals.Usage (ap with_status (sym e ∙ two))))
usage words (Err r) s f (inr e) two = absurd (not_both s 2 11 two e (inl (lit< tt)))

pub usage_status : {L : Type 0} (r : Result L Refusal) (s : ℕ) → IsErrOf r refusals.Usage ⊎ IsErrOf r refusals.OutOfMemory → Status r s → (s ≡ 2) ⊎ ((s ≡ 11) ⊎ (s ≡ 12))
usage_status {L = L} r s (inl u) st = elim (subst (λ (x : Result L Refusal). Status x s) u st) [
  | inl e ↦ inl e
  | inr e ↦ inr (inl e)
]
usage_status {L = L} r s (inr u) st = elim (subst (λ (x : Result L Refusal). Status x s) u st) [
  | inl e ↦ inr (inr e)
  | inr e ↦ inr (inl e)
]

neither : ReadsAll 11 → ⊥
neither (inl k) = cc
neither (inr k) = let most : 11 ≤ 8 = k.1 in omega (arith, most)

pub read_to_end : {L M : Type 0} (r : Result L Refusal) (s : ℕ) (rest : Option (List ℕ)) → (M → MatchResult r (λ _. IsAtEnd rest) (λ e. ReadsAll (status_of e) → IsAtEnd rest)) → Status r s → M → ReadsAll s → IsAtEnd rest
read_to_end (Ok line) s rest f st m all = f m
read_to_end (Err r) s rest f (inl e) m all = f m (subst ReadsAll e all)
read_to_end (Err r) s rest f (inr e) m all = absurd (neither (subst ReadsAll e all))

pub long_to_end : {L : Type 0} (r : Result L Refusal) (s : ℕ) (before after : Option (List ℕ)) → (IsErrOf r refusals.TooLong → IfSome before (λ rest. length rest ≤ 2 ^ 26 → IsAtEnd after)) → Status r s → s ≡ 9
    → IfSome before (λ rest. length rest ≤ 2 ^ 26 → IsAtEnd after)
long_to_end (Ok line) s before after f (inl e) nine = absurd (not_both s 9 0 nine e (inr (lit< tt)))
long_to_end (Ok line) s before after f (inr e) nine = absurd (not_both s 9 11 nine e (inl (lit< tt)))
long_to_end (Err r) s before after f (inl e) nine = f (ap (λ (x : Refusal). Err x) (alone r refusals.TooLong (ap with_status (sym e ∙ nine))))
long_to_end (Err r) s before after f (inr e) nine = absurd (not_both s 9 11 nine e (inl (lit< tt)))
