-- One answer to octets, and what it asks of a scheme.
use Rattle.std.proofs.Common.{◌≡◌, ◌≢◌, ◌^◌, ◌<◌, ◌≤◌, ◌==◌, if◌then◌else◌, length, arith, ℕ, ℤ, ◌⊎◌, inl, inr, Bool, true, false, Option, Some, None, Result, Ok, Err, List, [], ◌∷◌, ◌++◌, refl, sym, ap, subst, ◌∙◌}
use Rattle.std.specs.Prelude.{◌↔◌, Decides, bytes_eq}
use Rattle.std.proofs.lemmas.Bool.Decides.{eqb_tells, leb_tells}
use Rattle.std.proofs.lemmas.Slice.Eq.{bytes_eq-Decides}
use Rattle.sha2.specs.Sha256.{sha256}
use Rattle.rpki_base.specs.PublicKey.{KeyFields}
use Rattle.rpki_der.specs.declared.mode.Mode.TheVariants.{Ber}
use Rattle.rpki_der.proofs.Decoding.{decoded_ok}
use Rattle.rpki_base.specs.Checks.{first_failure, failing}
use Rattle.rpki_base.specs.declared.validation.ValidationError.{ValidationError}
use Rattle.rpki_base.specs.declared.validation.ValidationKind.{ValidationKind}
use Rattle.rpki_base.specs.declared.validation.ValidationKind.TheVariants.{Inspection, Verification}
use Rattle.rpki_sigmsg.specs.Checks.{checks, kind_of, Asked, IsBelieved, IsBelievedUnder, IsUnbelieved, AreAmong, AreOutcomes, IsFirstBelieved, ranked, SameAnswersUnder, IsInSpan}
use Rattle.rpki_sigmsg.proofs.AnyKey.{at_one, under_more, one_place, one_span_under, first_too, unbelieved_too, outcomes_too}
use Rattle.rpki_sigmsg.specs.Message.{MessageFields, signed_message}
use Rattle.rpki_sigmsg.specs.Spelling.{rewritten, CanSpellMessage}
use Rattle.rpki_sigmsg.proofs.Again.{begins_loosely}
use Rattle.rpki_sigmsg.proofs.HeldMessages.{message_held}
use Rattle.rpki_sigmsg.specs.Beginning.{BeginsSigned, HoldsContent}
use Rattle.rpki_publication.specs.Message as publication
use Rattle.rpki_provisioning.specs.Message as provisioning
use Rattle.rpki_ca.specs.declared.command.Command.{Command}
use Rattle.rpki_ca.specs.declared.command.Command.TheVariants.{Content, Receive, Create, Setup, Make}
use Rattle.rpki_ca.specs.declared.receiving.Kind.{Kind}
use Rattle.rpki_ca.specs.declared.receiving.Kind.TheVariants as kinds
use Rattle.rpki_ca.specs.declared.receiving.Received.{Received}
use Rattle.rpki_ca.specs.declared.receiving.Received.TheVariants as received
use Rattle.rpki_ca.specs.declared.receiving.ReceiveError.{ReceiveError}
use Rattle.rpki_ca.specs.declared.receiving.ReceiveError.TheVariants as errors
use Rattle.rpki_ca.specs.declared.refusals.Refusal.{Refusal}
use Rattle.rpki_ca.specs.declared.refusals.Refusal.TheVariants as refusals
use Rattle.rpki_ca.specs.Refusal.{status_of}
use Rattle.rpki_ca.specs.Answer.{IsContent, FailsDigest, IsContentAnswer, FailsAt, IsTextAccepted, IsReceiveAnswer, octets_in, AnswersSpelled, AnswersSigned, IsAnswer, IsFromSigner}
use Rattle.rpki_ca.specs.Command.{IsCommand, IsNoCommand}
use Rattle.rpki_ca.specs.Creation.{RefusesInput, HasNoWindow, HasLongText, IsCreateRefusal, IsSignersAnswer}
use Rattle.rpki_ca.specs.Seen.{SignerSeen}
use Rattle.rpki_ca.specs.Setup.{ReadsSetup, certificate_octets, setup_text, IsAnchored, RefusesAnchor, IsSetUp, IsNoSetup, HoldsNoAnchor, IsSetupAnswer}
use Rattle.rpki_ca.specs.declared.setup_message.SetupKind.{SetupKind}
use Rattle.rpki_ca.specs.declared.setup_message.SetupKind.TheVariants as setups
use Rattle.rpki_ca.specs.declared.setup_message.SetupMessage.{SetupMessage}
use Rattle.rpki_ca.specs.declared.setup_message.SetupMessage.TheVariants as setup_messages
use Rattle.rpki_der.specs.declared.mode.Mode.TheVariants.{Der}
use Rattle.rpki_idcert.specs.Checks.{IsTaBelieved}
use Rattle.rpki_idcert.specs.IdCert.{CertificateFields, identity_certificate}
use Rattle.rpki_setup.specs.Answers.{BeginsCertificate, HoldsUnbelieved}
use Rattle.rpki_setup.specs.ChildRequest.{child_request_in}
use Rattle.rpki_setup.specs.ParentResponse.{parent_response_in}
use Rattle.rpki_setup.specs.PublisherRequest.{publisher_request_in}
use Rattle.rpki_setup.specs.RepositoryResponse.{repository_response_in}
use Rattle.rpki_xmltext.proofs.Read.{one_message}
use Rattle.rpki_base.specs.Scheme.{Relation}
use Rattle.rpki_ca.specs.Acceptance.{ReadsAs, Accepted, AcceptedAt, HoldsNoSigned, FailsCheck, RefusesReceipt, IsReceived, IsReceivedUnder, accepted_text, refusal_of}
use Rattle.rpki_ca.proofs.Reasons.{reason, no_reason, one_reason}
use Rattle.rpki_base.proofs.Believing.{decides_yes}

-- ---- what octets begin with, and what content reads as, is one

abbrev some_signed : MessageFields → Option MessageFields
some_signed m = Some m

pub one_signed : (octets : List ℕ) (m n : MessageFields) → BeginsSigned octets m → BeginsSigned octets n → m ≡ n
one_signed octets m n p q = same (sym (decoded_ok (signed_message Ber) Ber octets m p) ∙ decoded_ok (signed_message Ber) Ber octets n q)
  where
    same : some_signed m ≡ some_signed n → m ≡ n
    same e = cc

pub one_reading : (kind : Kind) (content : List ℕ) (m n : Received) → ReadsAs kind content m → ReadsAs kind content n → m ≡ n
one_reading kinds.Publication content (received.Publication m) (received.Publication n) p q = ap received.Publication (one_message publication.message_of content m n p q)
one_reading kinds.Publication content (received.Publication m) (received.Provisioning n) p q = absurd q
one_reading kinds.Publication content (received.Provisioning m) n p q = absurd p
one_reading kinds.Provisioning content (received.Provisioning m) (received.Provisioning n) p q = ap received.Provisioning (one_message provisioning.message_of content m n p q)
one_reading kinds.Provisioning content (received.Provisioning m) (received.Publication n) p q = absurd q
one_reading kinds.Provisioning content (received.Publication m) n p q = absurd p

-- ---- what is believed under a key is not unbelieved

not_failing : (scheme : Relation) (m : MessageFields) (keys : List KeyFields) (when : ℤ) → IsBelievedUnder scheme m keys when → IsUnbelieved scheme m keys when → ⊥
not_failing scheme m keys when b none =
    at_one (λ k. IsBelieved scheme m k when → ⊥) b.among.before b.key b.among.behind (subst (λ (ks : List KeyFields). IsUnbelieved scheme m ks when) b.among.parts none) b.believed

-- ---- the check that is named is one

undecided : {X : Type 0} → ((b : Bool) → Decides b X → ⊥) → ⊥
undecided k = k false (λ e. absurd (unlike e), λ x. absurd (k true (decides_yes x)))
  where
    unlike : false ≡ true → ⊥
    unlike e = cc

-- under each key something comes of the checks
some_outcomes : (scheme : Relation) (m : MessageFields) (keys : List KeyFields) (when : ℤ) → ((os : List (Result (Unit {0}) ℕ)) → AreOutcomes scheme m keys when os → ⊥) → ⊥
some_outcomes scheme m [] when k = k [] tt
some_outcomes scheme m (key ∷ keys) when k =
    some_outcomes scheme m keys when (λ os h. undecided (λ x a. undecided (λ y b. undecided (λ z c.
    let q : Asked scheme m key = record { q3 = x; q8 = y; q10 = z; attributes = a; certificate = b; crls = c } in
    k (first_failure 1 (checks m key when x y z) ∷ os) (record { asked = q; is = refl }, h)))))

abbrev err_of : ValidationError → Result ℕ ValidationError
err_of e = Err e

one_check : (scheme : Relation) (m : MessageFields) (keys : List KeyFields) (when : ℤ) (d e : ValidationError) → ((os : List (Result (Unit {0}) ℕ)) → AreOutcomes scheme m keys when os → failing kind_of (ranked os) ≡ Err d)
    → ((os : List (Result (Unit {0}) ℕ)) → AreOutcomes scheme m keys when os → failing kind_of (ranked os) ≡ Err e) → d.check ≡ e.check
one_check scheme m keys when d e f g =
    elim (eqb_tells d.check e.check) [
      | inl same ↦ same.1
      | inr other ↦ absurd (some_outcomes scheme m keys when (λ os h. other.1 (number (sym (f os h) ∙ g os h))))
    ]
  where
    number : err_of d ≡ err_of e → d.check ≡ e.check
    number p = cc

-- ---- one answer

-- what a receipt is
abbrev View : (scheme : Relation) (kind : Kind) (octets : List ℕ) (keys : List KeyFields) (when : ℤ) → Result (List ℕ) Refusal → Type 0
View scheme kind octets keys when a =
    ((text : List ℕ) × (a ≡ Ok text) × IsTextAccepted scheme kind octets keys when text)
    ⊎ (((a ≡ Err refusals.CmsDecode) × HoldsNoSigned octets)
    ⊎ (((e : Refusal) × (a ≡ Err e) × HoldsContent (λ o. RefusesInput kind o e) octets)
    ⊎ ((n : ℕ) × (a ≡ Err (refusals.Validation n)) × FailsAt scheme kind octets keys when n)))

view : (scheme : Relation) (kind : Kind) (octets : List ℕ) (keys : List KeyFields) (when : ℤ) (a : Result (List ℕ) Refusal) → IsReceiveAnswer scheme kind octets keys when a → View scheme kind octets keys when a
view scheme kind octets keys when (Ok text) r = inl (text, refl, r)
view scheme kind octets keys when (Err refusals.CmsDecode) r = inr (inl (refl, r))
view scheme kind octets keys when (Err refusals.XmlError) r = inr (inr (inl (refusals.XmlError, refl, r)))
view scheme kind octets keys when (Err refusals.CertSyntax) r = inr (inr (inl (refusals.CertSyntax, refl, r)))
view scheme kind octets keys when (Err refusals.InvalidCsrSyntax) r = inr (inr (inl (refusals.InvalidCsrSyntax, refl, r)))
view scheme kind octets keys when (Err (refusals.Validation n)) r = inr (inr (inr (n, refl, r)))
view scheme kind octets keys when (Err refusals.Usage) r = absurd r
view scheme kind octets keys when (Err refusals.Hex) r = absurd r
view scheme kind octets keys when (Err refusals.InvalidTaCertEncoding) r = absurd r
view scheme kind octets keys when (Err refusals.InvalidTaCert) r = absurd r
view scheme kind octets keys when (Err refusals.TooLong) r = absurd r
view scheme kind octets keys when (Err refusals.KeyNotFound) r = absurd r
view scheme kind octets keys when (Err refusals.IncompatibleKey) r = absurd r
view scheme kind octets keys when (Err refusals.KeyReused) r = absurd r
view scheme kind octets keys when (Err refusals.Signer) r = absurd r
view scheme kind octets keys when (Err refusals.Moment) r = absurd r
view scheme kind octets keys when (Err refusals.ReadFault) r = absurd r
view scheme kind octets keys when (Err refusals.OutOfMemory) r = absurd r

-- one message is accepted, and nothing else is answered
pub one_accepted : (scheme : Relation) (kind : Kind) (octets : List ℕ) (keys : List KeyFields) (when : ℤ) (m n : Received) → Accepted scheme kind octets keys when m → Accepted scheme kind octets keys when n → m ≡ n
one_accepted scheme kind octets keys when m n p q =
    let signed = one_signed octets p.signed q.signed p.begins q.begins in
    one_reading kind q.signed.content m n (subst (λ (s : MessageFields). ReadsAs kind s.content m) signed p.reads) q.reads

one_text : (scheme : Relation) (kind : Kind) (octets : List ℕ) (keys : List KeyFields) (when : ℤ) (s t : List ℕ) → IsTextAccepted scheme kind octets keys when s → IsTextAccepted scheme kind octets keys when t → s ≡ t
one_text scheme kind octets keys when s t p q =
    let message = one_accepted scheme kind octets keys when p.message q.message p.accepted q.accepted in
    p.written ∙ ap accepted_text message ∙ sym q.written

no_reading : (kind : Kind) (octets : List ℕ) (signed : MessageFields) (m : Received) (e : Refusal) → BeginsSigned octets signed → ReadsAs kind signed.content m → HoldsContent (λ o. RefusesInput kind o e) octets → ⊥
no_reading kind octets signed m e b r h =
    no_reason kind h.signed.content m e (subst (λ (s : MessageFields). ReadsAs kind s.content m) (one_signed octets signed h.signed b h.begins) r) (reason kind h.signed.content e h.content)

one_content_reason : (kind : Kind) (octets : List ℕ) (d e : Refusal) → HoldsContent (λ o. RefusesInput kind o d) octets → HoldsContent (λ o. RefusesInput kind o e) octets → d ≡ e
one_content_reason kind octets d e p q =
    let same = one_signed octets p.signed q.signed p.begins q.begins in
    one_reason kind q.signed.content d e (reason kind q.signed.content d (subst (λ (s : MessageFields). RefusesInput kind s.content d) same p.content)) (reason kind q.signed.content e q.content)

accepted_fails : (scheme : Relation) (kind : Kind) (octets : List ℕ) (keys : List KeyFields) (when : ℤ) (text : List ℕ) (n : ℕ) → IsTextAccepted scheme kind octets keys when text → FailsAt scheme kind octets keys when n → ⊥
accepted_fails scheme kind octets keys when text n a f =
    not_failing scheme f.fails.signed keys when (subst (λ (m : MessageFields). IsBelievedUnder scheme m keys when) (one_signed octets a.accepted.signed f.fails.signed a.accepted.begins f.fails.begins) a.accepted.believed) f.fails.none

pub accepted_alone : (scheme : Relation) (kind : Kind) (octets : List ℕ) (keys : List KeyFields) (when : ℤ) (m : Received) (e : ReceiveError) → Accepted scheme kind octets keys when m → RefusesReceipt scheme kind octets keys when e → refusal_of e ≢ refusals.OutOfMemory → ⊥
accepted_alone scheme kind octets keys when m errors.CmsDecode a r other = r a.signed a.begins
accepted_alone scheme kind octets keys when m errors.XmlError a r other = no_reading kind octets a.signed m refusals.XmlError a.begins a.reads r
accepted_alone scheme kind octets keys when m errors.CertSyntax a r other = no_reading kind octets a.signed m refusals.CertSyntax a.begins a.reads r
accepted_alone scheme kind octets keys when m errors.InvalidCsrSyntax a r other = no_reading kind octets a.signed m refusals.InvalidCsrSyntax a.begins a.reads r
accepted_alone scheme kind octets keys when m (errors.Validation e) a r other =
    not_failing scheme r.signed keys when (subst (λ (s : MessageFields). IsBelievedUnder scheme s keys when) (one_signed octets a.signed r.signed a.begins r.begins) a.believed) r.none
accepted_alone scheme kind octets keys when m errors.OutOfMemory a r other = other refl

one_number : (scheme : Relation) (kind : Kind) (octets : List ℕ) (keys : List KeyFields) (when : ℤ) (n m : ℕ) → FailsAt scheme kind octets keys when n → FailsAt scheme kind octets keys when m → n ≡ m
one_number scheme kind octets keys when n m f g =
    let same = one_signed octets f.fails.signed g.fails.signed f.fails.begins g.fails.begins in
    let greatest = subst (λ (s : MessageFields). (os : List (Result (Unit {0}) ℕ)) → AreOutcomes scheme s keys when os → failing kind_of (ranked os) ≡ Err f.error) same f.fails.greatest in
    f.number ∙ one_check scheme g.fails.signed keys when f.error g.error greatest g.fails.greatest ∙ sym g.number

one_view : (scheme : Relation) (kind : Kind) (octets : List ℕ) (keys : List KeyFields) (when : ℤ) (a b : Result (List ℕ) Refusal) → View scheme kind octets keys when a → View scheme kind octets keys when b → a ≡ b
one_view scheme kind octets keys when a b (inl p) (inl q) = p.1 ∙ ap Ok (one_text scheme kind octets keys when p.0 q.0 p.2 q.2) ∙ sym q.1
one_view scheme kind octets keys when a b (inl p) (inr (inl q)) = absurd (q.1 p.2.accepted.signed p.2.accepted.begins)
one_view scheme kind octets keys when a b (inl p) (inr (inr (inl q))) = absurd (no_reading kind octets p.2.accepted.signed p.2.message q.0 p.2.accepted.begins p.2.accepted.reads q.2)
one_view scheme kind octets keys when a b (inl p) (inr (inr (inr q))) = absurd (accepted_fails scheme kind octets keys when p.0 q.0 p.2 q.2)
one_view scheme kind octets keys when a b (inr (inl p)) (inl q) = absurd (p.1 q.2.accepted.signed q.2.accepted.begins)
one_view scheme kind octets keys when a b (inr (inl p)) (inr (inl q)) = p.0 ∙ sym q.0
one_view scheme kind octets keys when a b (inr (inl p)) (inr (inr (inl q))) = absurd (p.1 q.2.signed q.2.begins)
one_view scheme kind octets keys when a b (inr (inl p)) (inr (inr (inr q))) = absurd (p.1 q.2.fails.signed q.2.fails.begins)
one_view scheme kind octets keys when a b (inr (inr (inl p))) (inl q) = absurd (no_reading kind octets q.2.accepted.signed q.2.message p.0 q.2.accepted.begins q.2.accepted.reads p.2)
one_view scheme kind octets keys when a b (inr (inr (inl p))) (inr (inl q)) = absurd (q.1 p.2.signed p.2.begins)
one_view scheme kind octets keys when a b (inr (inr (inl p))) (inr (inr (inl q))) = p.1 ∙ ap (λ (e : Refusal). Err e) (one_content_reason kind octets p.0 q.0 p.2 q.2) ∙ sym q.1
one_view scheme kind octets keys when a b (inr (inr (inl p))) (inr (inr (inr q))) = absurd (no_reading kind octets q.2.fails.signed q.2.fails.message p.0 q.2.fails.begins q.2.fails.reads p.2)
one_view scheme kind octets keys when a b (inr (inr (inr p))) (inl q) = absurd (accepted_fails scheme kind octets keys when q.0 p.0 q.2 p.2)
one_view scheme kind octets keys when a b (inr (inr (inr p))) (inr (inl q)) = absurd (q.1 p.2.fails.signed p.2.fails.begins)
one_view scheme kind octets keys when a b (inr (inr (inr p))) (inr (inr (inl q))) = absurd (no_reading kind octets p.2.fails.signed p.2.fails.message q.0 p.2.fails.begins p.2.fails.reads q.2)
one_view scheme kind octets keys when a b (inr (inr (inr p))) (inr (inr (inr q))) = p.1 ∙ ap (λ (n : ℕ). Err (refusals.Validation n)) (one_number scheme kind octets keys when p.0 q.0 p.2 q.2) ∙ sym q.1

-- what an answer of `content` is
abbrev ContentView : List ℕ → Result (List ℕ) Refusal → Type 0
ContentView octets a =
    ((text : List ℕ) × (a ≡ Ok text) × IsContent octets text)
    ⊎ (((a ≡ Err refusals.CmsDecode) × HoldsNoSigned octets)
    ⊎ ((a ≡ Err (refusals.Validation 2)) × FailsDigest octets))

content_view : (octets : List ℕ) (a : Result (List ℕ) Refusal) → IsContentAnswer octets a → ContentView octets a
content_view octets (Ok text) r = inl (text, refl, r)
content_view octets (Err refusals.CmsDecode) r = inr (inl (refl, r))
content_view octets (Err (refusals.Validation n)) r = inr (inr (ap (λ (m : ℕ). Err (refusals.Validation m)) r.0, r.1))
content_view octets (Err refusals.XmlError) r = absurd r
content_view octets (Err refusals.CertSyntax) r = absurd r
content_view octets (Err refusals.InvalidCsrSyntax) r = absurd r
content_view octets (Err refusals.Usage) r = absurd r
content_view octets (Err refusals.Hex) r = absurd r
content_view octets (Err refusals.InvalidTaCertEncoding) r = absurd r
content_view octets (Err refusals.InvalidTaCert) r = absurd r
content_view octets (Err refusals.TooLong) r = absurd r
content_view octets (Err refusals.KeyNotFound) r = absurd r
content_view octets (Err refusals.IncompatibleKey) r = absurd r
content_view octets (Err refusals.KeyReused) r = absurd r
content_view octets (Err refusals.Signer) r = absurd r
content_view octets (Err refusals.Moment) r = absurd r
content_view octets (Err refusals.ReadFault) r = absurd r
content_view octets (Err refusals.OutOfMemory) r = absurd r

one_digest : (octets text : List ℕ) → IsContent octets text → FailsDigest octets → ⊥
one_digest octets text c f = f.digest (subst (λ (m : MessageFields). sha256 m.content ≡ m.digest) (one_signed octets c.signed f.signed c.begins f.begins) c.digest)

one_content : (octets : List ℕ) (a b : Result (List ℕ) Refusal) → ContentView octets a → ContentView octets b → a ≡ b
one_content octets a b (inl p) (inl q) =
    p.1 ∙ ap Ok (p.2.content ∙ ap (λ (m : MessageFields). m.content) (one_signed octets p.2.signed q.2.signed p.2.begins q.2.begins) ∙ sym q.2.content) ∙ sym q.1
one_content octets a b (inl p) (inr (inl q)) = absurd (q.1 p.2.signed p.2.begins)
one_content octets a b (inl p) (inr (inr q)) = absurd (one_digest octets p.0 p.2 q.1)
one_content octets a b (inr (inl p)) (inl q) = absurd (p.1 q.2.signed q.2.begins)
one_content octets a b (inr (inl p)) (inr (inl q)) = p.0 ∙ sym q.0
one_content octets a b (inr (inl p)) (inr (inr q)) = absurd (p.1 q.1.signed q.1.begins)
one_content octets a b (inr (inr p)) (inl q) = absurd (one_digest octets q.0 q.2 p.1)
one_content octets a b (inr (inr p)) (inr (inl q)) = absurd (q.1 p.1.signed p.1.begins)
one_content octets a b (inr (inr p)) (inr (inr q)) = p.0 ∙ sym q.0

-- what a refusal of `create` is, where no signer is asked
abbrev pub CreateView : Kind → List ℕ → ℤ → Result (List ℕ) Refusal → Type 0
CreateView kind input when a =
    ((e : Refusal) × (a ≡ Err e) × RefusesInput kind input e)
    ⊎ (((a ≡ Err refusals.Moment) × HasNoWindow kind input when)
    ⊎ ((a ≡ Err refusals.TooLong) × HasLongText kind input when))

pub create_view : (kind : Kind) (input : List ℕ) (when : ℤ) (a : Result (List ℕ) Refusal) → IsCreateRefusal kind input when a → CreateView kind input when a
create_view kind input when (Ok text) r = absurd r
create_view kind input when (Err refusals.XmlError) r = inl (refusals.XmlError, refl, r)
create_view kind input when (Err refusals.CertSyntax) r = inl (refusals.CertSyntax, refl, r)
create_view kind input when (Err refusals.InvalidCsrSyntax) r = inl (refusals.InvalidCsrSyntax, refl, r)
create_view kind input when (Err refusals.Moment) r = inr (inl (refl, r))
create_view kind input when (Err refusals.TooLong) r = inr (inr (refl, r))
create_view kind input when (Err refusals.Usage) r = absurd r
create_view kind input when (Err refusals.Hex) r = absurd r
create_view kind input when (Err refusals.InvalidTaCertEncoding) r = absurd r
create_view kind input when (Err refusals.InvalidTaCert) r = absurd r
create_view kind input when (Err refusals.CmsDecode) r = absurd r
create_view kind input when (Err (refusals.Validation n)) r = absurd r
create_view kind input when (Err refusals.KeyNotFound) r = absurd r
create_view kind input when (Err refusals.IncompatibleKey) r = absurd r
create_view kind input when (Err refusals.KeyReused) r = absurd r
create_view kind input when (Err refusals.Signer) r = absurd r
create_view kind input when (Err refusals.ReadFault) r = absurd r
create_view kind input when (Err refusals.OutOfMemory) r = absurd r

one_refusal : (kind : Kind) (input : List ℕ) (when : ℤ) (a b : Result (List ℕ) Refusal) → CreateView kind input when a → CreateView kind input when b → a ≡ b
one_refusal kind input when a b (inl p) (inl q) = p.1 ∙ ap (λ (e : Refusal). Err e) (one_reason kind input p.0 q.0 (reason kind input p.0 p.2) (reason kind input q.0 q.2)) ∙ sym q.1
one_refusal kind input when a b (inl p) (inr (inl q)) = absurd (no_reason kind input q.1.message p.0 q.1.reads (reason kind input p.0 p.2))
one_refusal kind input when a b (inl p) (inr (inr q)) = absurd (no_reason kind input q.1.message p.0 q.1.reads (reason kind input p.0 p.2))
one_refusal kind input when a b (inr (inl p)) (inl q) = absurd (no_reason kind input p.1.message q.0 p.1.reads (reason kind input q.0 q.2))
one_refusal kind input when a b (inr (inl p)) (inr (inl q)) = p.0 ∙ sym q.0
one_refusal kind input when a b (inr (inl p)) (inr (inr q)) = absurd (p.1.none q.1.window_is)
one_refusal kind input when a b (inr (inr p)) (inl q) = absurd (no_reason kind input p.1.message q.0 p.1.reads (reason kind input q.0 q.2))
one_refusal kind input when a b (inr (inr p)) (inr (inl q)) = absurd (q.1.none p.1.window_is)
one_refusal kind input when a b (inr (inr p)) (inr (inr q)) = p.0 ∙ sym q.0

-- where a signer is asked, `create` has no refusal by its input
no_refusal : {I : Type 0} (scheme : Relation) (kind : Kind) (input : List ℕ) (when : ℤ) (signer : SignerSeen I) (a b : Result (List ℕ) Refusal) → CreateView kind input when a → IsSignersAnswer scheme kind input when signer b → ⊥
no_refusal scheme kind input when signer a b (inl p) s = no_reason kind input s.message p.0 s.reads (reason kind input p.0 p.2)
no_refusal scheme kind input when signer a b (inr (inl p)) s = p.1.none s.window_is
no_refusal scheme kind input when signer a b (inr (inr p)) s =
    never (length (accepted_text s.message)) (subst (λ (m : Received). 2 ^ 31 < length (accepted_text m)) (one_reading kind input p.1.message s.message p.1.reads s.reads) p.1.long) s.fits
  where
    never : (n : ℕ) → 2 ^ 31 < n → n ≤ 2 ^ 31 → ⊥
    never n l m = omega (arith, l, m)

-- what an answer of `setup` is
abbrev SetupView : Relation → SetupKind → List ℕ → ℤ → Result (List ℕ) Refusal → Type 0
SetupView scheme kind input when a =
    ((text : List ℕ) × (a ≡ Ok text) × IsSetUp scheme kind input when text)
    ⊎ (((a ≡ Err refusals.XmlError) × IsNoSetup kind input)
    ⊎ ((e : Refusal) × (a ≡ Err e) × HoldsNoAnchor scheme kind input when e))

setup_view : (scheme : Relation) (kind : SetupKind) (input : List ℕ) (when : ℤ) (a : Result (List ℕ) Refusal) → IsSetupAnswer scheme kind input when a → SetupView scheme kind input when a
setup_view scheme kind input when (Ok text) r = inl (text, refl, r)
setup_view scheme kind input when (Err refusals.XmlError) r = inr (inl (refl, r))
setup_view scheme kind input when (Err refusals.InvalidTaCertEncoding) r = inr (inr (refusals.InvalidTaCertEncoding, refl, r))
setup_view scheme kind input when (Err refusals.InvalidTaCert) r = inr (inr (refusals.InvalidTaCert, refl, r))
setup_view scheme kind input when (Err refusals.Usage) r = inr (inr (refusals.Usage, refl, r))
setup_view scheme kind input when (Err refusals.Hex) r = inr (inr (refusals.Hex, refl, r))
setup_view scheme kind input when (Err refusals.CertSyntax) r = inr (inr (refusals.CertSyntax, refl, r))
setup_view scheme kind input when (Err refusals.InvalidCsrSyntax) r = inr (inr (refusals.InvalidCsrSyntax, refl, r))
setup_view scheme kind input when (Err refusals.CmsDecode) r = inr (inr (refusals.CmsDecode, refl, r))
setup_view scheme kind input when (Err (refusals.Validation n)) r = inr (inr ((refusals.Validation n), refl, r))
setup_view scheme kind input when (Err refusals.KeyNotFound) r = inr (inr (refusals.KeyNotFound, refl, r))
setup_view scheme kind input when (Err refusals.IncompatibleKey) r = inr (inr (refusals.IncompatibleKey, refl, r))
setup_view scheme kind input when (Err refusals.KeyReused) r = inr (inr (refusals.KeyReused, refl, r))
setup_view scheme kind input when (Err refusals.Signer) r = inr (inr (refusals.Signer, refl, r))
setup_view scheme kind input when (Err refusals.Moment) r = inr (inr (refusals.Moment, refl, r))
setup_view scheme kind input when (Err refusals.TooLong) r = inr (inr (refusals.TooLong, refl, r))
setup_view scheme kind input when (Err refusals.ReadFault) r = inr (inr (refusals.ReadFault, refl, r))
setup_view scheme kind input when (Err refusals.OutOfMemory) r = inr (inr (refusals.OutOfMemory, refl, r))

one_setup_reading : (kind : SetupKind) (input : List ℕ) (m n : SetupMessage) → ReadsSetup kind input m → ReadsSetup kind input n → m ≡ n
one_setup_reading setups.ChildRequest input (setup_messages.ChildRequest m) (setup_messages.ChildRequest n) p q = ap setup_messages.ChildRequest (one_message child_request_in input m n p q)
one_setup_reading setups.ParentResponse input (setup_messages.ParentResponse m) (setup_messages.ParentResponse n) p q = ap setup_messages.ParentResponse (one_message parent_response_in input m n p q)
one_setup_reading setups.PublisherRequest input (setup_messages.PublisherRequest m) (setup_messages.PublisherRequest n) p q = ap setup_messages.PublisherRequest (one_message publisher_request_in input m n p q)
one_setup_reading setups.RepositoryResponse input (setup_messages.RepositoryResponse m) (setup_messages.RepositoryResponse n) p q = ap setup_messages.RepositoryResponse (one_message repository_response_in input m n p q)
one_setup_reading setups.ChildRequest input (setup_messages.ChildRequest m) (setup_messages.ParentResponse n) p q = absurd q
one_setup_reading setups.ChildRequest input (setup_messages.ChildRequest m) (setup_messages.PublisherRequest n) p q = absurd q
one_setup_reading setups.ChildRequest input (setup_messages.ChildRequest m) (setup_messages.RepositoryResponse n) p q = absurd q
one_setup_reading setups.ChildRequest input (setup_messages.ParentResponse m) n p q = absurd p
one_setup_reading setups.ChildRequest input (setup_messages.PublisherRequest m) n p q = absurd p
one_setup_reading setups.ChildRequest input (setup_messages.RepositoryResponse m) n p q = absurd p
one_setup_reading setups.ParentResponse input (setup_messages.ChildRequest m) n p q = absurd p
one_setup_reading setups.ParentResponse input (setup_messages.ParentResponse m) (setup_messages.ChildRequest n) p q = absurd q
one_setup_reading setups.ParentResponse input (setup_messages.ParentResponse m) (setup_messages.PublisherRequest n) p q = absurd q
one_setup_reading setups.ParentResponse input (setup_messages.ParentResponse m) (setup_messages.RepositoryResponse n) p q = absurd q
one_setup_reading setups.ParentResponse input (setup_messages.PublisherRequest m) n p q = absurd p
one_setup_reading setups.ParentResponse input (setup_messages.RepositoryResponse m) n p q = absurd p
one_setup_reading setups.PublisherRequest input (setup_messages.ChildRequest m) n p q = absurd p
one_setup_reading setups.PublisherRequest input (setup_messages.ParentResponse m) n p q = absurd p
one_setup_reading setups.PublisherRequest input (setup_messages.PublisherRequest m) (setup_messages.ChildRequest n) p q = absurd q
one_setup_reading setups.PublisherRequest input (setup_messages.PublisherRequest m) (setup_messages.ParentResponse n) p q = absurd q
one_setup_reading setups.PublisherRequest input (setup_messages.PublisherRequest m) (setup_messages.RepositoryResponse n) p q = absurd q
one_setup_reading setups.PublisherRequest input (setup_messages.RepositoryResponse m) n p q = absurd p
one_setup_reading setups.RepositoryResponse input (setup_messages.ChildRequest m) n p q = absurd p
one_setup_reading setups.RepositoryResponse input (setup_messages.ParentResponse m) n p q = absurd p
one_setup_reading setups.RepositoryResponse input (setup_messages.PublisherRequest m) n p q = absurd p
one_setup_reading setups.RepositoryResponse input (setup_messages.RepositoryResponse m) (setup_messages.ChildRequest n) p q = absurd q
one_setup_reading setups.RepositoryResponse input (setup_messages.RepositoryResponse m) (setup_messages.ParentResponse n) p q = absurd q
one_setup_reading setups.RepositoryResponse input (setup_messages.RepositoryResponse m) (setup_messages.PublisherRequest n) p q = absurd q

abbrev some_certificate : CertificateFields → Option CertificateFields
some_certificate c = Some c

one_certificate : (octets : List ℕ) (c d : CertificateFields) → BeginsCertificate octets c → BeginsCertificate octets d → c ≡ d
one_certificate octets c d p q = same (sym (decoded_ok (identity_certificate Der) Der octets c p) ∙ decoded_ok (identity_certificate Der) Der octets d q)
  where
    same : some_certificate c ≡ some_certificate d → c ≡ d
    same e = cc

-- a certificate is believed or refused, and refused in one way
anchored_alone : (scheme : Relation) (octets : List ℕ) (when : ℤ) (e : Refusal) → IsAnchored scheme octets when → RefusesAnchor scheme octets when e → ⊥
anchored_alone scheme octets when refusals.InvalidTaCertEncoding p q = q p.certificate p.believed.begins
anchored_alone scheme octets when refusals.InvalidTaCert p q =
    q.unbelieved (subst (λ (c : CertificateFields). IsTaBelieved scheme c when) (one_certificate octets p.certificate q.certificate p.believed.begins q.begins) p.believed.believed)
anchored_alone scheme octets when refusals.XmlError p q = q
anchored_alone scheme octets when refusals.CertSyntax p q = q
anchored_alone scheme octets when refusals.InvalidCsrSyntax p q = q
anchored_alone scheme octets when refusals.Usage p q = q
anchored_alone scheme octets when refusals.Hex p q = q
anchored_alone scheme octets when refusals.CmsDecode p q = q
anchored_alone scheme octets when (refusals.Validation n) p q = q
anchored_alone scheme octets when refusals.KeyNotFound p q = q
anchored_alone scheme octets when refusals.IncompatibleKey p q = q
anchored_alone scheme octets when refusals.KeyReused p q = q
anchored_alone scheme octets when refusals.Signer p q = q
anchored_alone scheme octets when refusals.Moment p q = q
anchored_alone scheme octets when refusals.TooLong p q = q
anchored_alone scheme octets when refusals.ReadFault p q = q
anchored_alone scheme octets when refusals.OutOfMemory p q = q

-- the two ways in which a certificate is refused
abbrev AnchorView : Relation → List ℕ → ℤ → Refusal → Type 0
AnchorView scheme octets when e =
    ((e ≡ refusals.InvalidTaCertEncoding) × ((c : CertificateFields) → BeginsCertificate octets c → ⊥))
    ⊎ ((e ≡ refusals.InvalidTaCert) × HoldsUnbelieved scheme octets when)

anchor_view : (scheme : Relation) (octets : List ℕ) (when : ℤ) (e : Refusal) → RefusesAnchor scheme octets when e → AnchorView scheme octets when e
anchor_view scheme octets when refusals.InvalidTaCertEncoding q = inl (refl, q)
anchor_view scheme octets when refusals.InvalidTaCert q = inr (refl, q)
anchor_view scheme octets when refusals.XmlError q = absurd q
anchor_view scheme octets when refusals.Usage q = absurd q
anchor_view scheme octets when refusals.Hex q = absurd q
anchor_view scheme octets when refusals.CertSyntax q = absurd q
anchor_view scheme octets when refusals.InvalidCsrSyntax q = absurd q
anchor_view scheme octets when refusals.CmsDecode q = absurd q
anchor_view scheme octets when (refusals.Validation n) q = absurd q
anchor_view scheme octets when refusals.KeyNotFound q = absurd q
anchor_view scheme octets when refusals.IncompatibleKey q = absurd q
anchor_view scheme octets when refusals.KeyReused q = absurd q
anchor_view scheme octets when refusals.Signer q = absurd q
anchor_view scheme octets when refusals.Moment q = absurd q
anchor_view scheme octets when refusals.TooLong q = absurd q
anchor_view scheme octets when refusals.ReadFault q = absurd q
anchor_view scheme octets when refusals.OutOfMemory q = absurd q

one_anchor_refusal : (scheme : Relation) (octets : List ℕ) (when : ℤ) (d e : Refusal) → AnchorView scheme octets when d → AnchorView scheme octets when e → d ≡ e
one_anchor_refusal scheme octets when d e (inl p) (inl q) = p.0 ∙ sym q.0
one_anchor_refusal scheme octets when d e (inl p) (inr q) = absurd (p.1 q.1.certificate q.1.begins)
one_anchor_refusal scheme octets when d e (inr p) (inl q) = absurd (q.1 p.1.certificate p.1.begins)
one_anchor_refusal scheme octets when d e (inr p) (inr q) = p.0 ∙ sym q.0

-- what is said of the certificate of a message is said of that of the input
of_same : (scheme : Relation) (kind : SetupKind) (input : List ℕ) (when : ℤ) (e : Refusal) (m : SetupMessage) → ReadsSetup kind input m → (h : HoldsNoAnchor scheme kind input when e) → RefusesAnchor scheme (certificate_octets m) when e
of_same scheme kind input when e m r h = subst (λ (n : SetupMessage). RefusesAnchor scheme (certificate_octets n) when e) (one_setup_reading kind input h.message m h.reads r) h.refused

one_set_up : (scheme : Relation) (kind : SetupKind) (input : List ℕ) (when : ℤ) (a b : Result (List ℕ) Refusal) → SetupView scheme kind input when a → SetupView scheme kind input when b → a ≡ b
one_set_up scheme kind input when a b (inl p) (inl q) =
    p.1 ∙ ap Ok (p.2.written ∙ ap setup_text (one_setup_reading kind input p.2.message q.2.message p.2.reads q.2.reads) ∙ sym q.2.written) ∙ sym q.1
one_set_up scheme kind input when a b (inl p) (inr (inl q)) = absurd (q.1 p.2.message p.2.reads)
one_set_up scheme kind input when a b (inl p) (inr (inr q)) = absurd (anchored_alone scheme (certificate_octets p.2.message) when q.0 p.2.anchored (of_same scheme kind input when q.0 p.2.message p.2.reads q.2))
one_set_up scheme kind input when a b (inr (inl p)) (inl q) = absurd (p.1 q.2.message q.2.reads)
one_set_up scheme kind input when a b (inr (inl p)) (inr (inl q)) = p.0 ∙ sym q.0
one_set_up scheme kind input when a b (inr (inl p)) (inr (inr q)) = absurd (p.1 q.2.message q.2.reads)
one_set_up scheme kind input when a b (inr (inr p)) (inl q) = absurd (anchored_alone scheme (certificate_octets q.2.message) when p.0 q.2.anchored (of_same scheme kind input when p.0 q.2.message q.2.reads p.2))
one_set_up scheme kind input when a b (inr (inr p)) (inr (inl q)) = absurd (q.1 p.2.message p.2.reads)
one_set_up scheme kind input when a b (inr (inr p)) (inr (inr q)) =
    p.1 ∙ ap (λ (e : Refusal). Err e)
    (one_anchor_refusal scheme (certificate_octets p.2.message) when p.0 q.0 (anchor_view scheme (certificate_octets p.2.message) when p.0 p.2.refused)
    (anchor_view scheme (certificate_octets p.2.message) when q.0 (of_same scheme kind input when q.0 p.2.message p.2.reads q.2)))
    ∙ sym q.1

pub one_answer : (scheme : Relation) (command : Command) (octets : Option (List ℕ)) (a b : Result (List ℕ) Refusal) → AnswersSpelled scheme command octets a → AnswersSpelled scheme command octets b → a ≡ b
one_answer scheme command None a b p q = p ∙ sym q
one_answer scheme Content (Some octets) a b p q = one_content octets a b (content_view octets a p) (content_view octets b q)
one_answer scheme (Receive kind when keys) (Some octets) a b p q = one_view scheme kind octets keys when a b (view scheme kind octets keys when a p) (view scheme kind octets keys when b q)
one_answer scheme (Setup kind when) (Some octets) a b p q = one_set_up scheme kind octets when a b (setup_view scheme kind octets when a p) (setup_view scheme kind octets when b q)
one_answer scheme (Make count seed) (Some octets) a b p q = absurd p
one_answer scheme (Create kind when) (Some octets) a b p q = one_refusal kind octets when a b (create_view kind octets when a p) (create_view kind octets when b q)

-- where the signer is asked, words and input show no answer
signed_alone : {I : Type 0} (scheme : Relation) (c : Command) (input : List ℕ) (signer : SignerSeen I) (a b : Result (List ℕ) Refusal) → AnswersSpelled scheme c (octets_in c input) a → AnswersSigned scheme c input signer b → ⊥
signed_alone scheme Content input signer a b p q = q
signed_alone scheme (Receive kind when keys) input signer a b p q = q
signed_alone scheme (Setup kind when) input signer a b p q = q
signed_alone scheme (Make count seed) input signer a b p q = p
signed_alone scheme (Create kind when) input signer a b p q = no_refusal scheme kind input when signer a b (create_view kind input when a p) q

pub from_signer_alone : {I : Type 0} (scheme : Relation) (words : List (List ℕ)) (signer : SignerSeen I) (input : List ℕ) (a b : Result (List ℕ) Refusal) → IsAnswer scheme words input a → IsFromSigner scheme words signer input b → ⊥
from_signer_alone scheme words signer input a b p q = signed_alone scheme q.command input signer a b (p.answers q.command q.is q.within) q.answers

-- ---- two answers are the same or not

number_of : Refusal → ℕ
number_of (refusals.Validation n) = n
number_of refusals.InvalidTaCertEncoding = 1
number_of refusals.InvalidTaCert = 2
number_of refusals.CertSyntax = 3
number_of refusals.InvalidCsrSyntax = 4
number_of refusals.IncompatibleKey = 1
number_of refusals.KeyReused = 2
number_of refusals.Signer = 3
number_of other = 0

with_five : ℕ → Refusal
with_five number =
    if number == 0 then refusals.XmlError
    else if number == 1 then refusals.InvalidTaCertEncoding
    else if number == 2 then refusals.InvalidTaCert
    else if number == 3 then refusals.CertSyntax
    else refusals.InvalidCsrSyntax

with_seven : ℕ → Refusal
with_seven number =
    if number == 0 then refusals.KeyNotFound
    else if number == 1 then refusals.IncompatibleKey
    else if number == 2 then refusals.KeyReused
    else refusals.Signer

refusal_with : ℕ → ℕ → Refusal
refusal_with status number =
    if status == 2 then refusals.Usage
    else if status == 3 then refusals.Hex
    else if status == 4 then refusals.CmsDecode
    else if status == 5 then with_five number
    else if status == 6 then refusals.Validation number
    else if status == 7 then with_seven number
    else if status == 8 then refusals.Moment
    else if status == 9 then refusals.TooLong
    else if status == 10 then refusals.ReadFault
    else refusals.OutOfMemory

again : (r : Refusal) → refusal_with (status_of r) (number_of r) ≡ r
unfolding refusal_with with_five with_seven number_of
again refusals.Usage = refl
again refusals.Hex = refl
again refusals.CmsDecode = refl
again refusals.XmlError = refl
again refusals.CertSyntax = refl
again refusals.InvalidCsrSyntax = refl
again refusals.InvalidTaCertEncoding = refl
again refusals.InvalidTaCert = refl
again (refusals.Validation n) = refl
again refusals.TooLong = refl
again refusals.KeyNotFound = refl
again refusals.IncompatibleKey = refl
again refusals.KeyReused = refl
again refusals.Signer = refl
again refusals.Moment = refl
again refusals.ReadFault = refl
again refusals.OutOfMemory = refl

told_refusal : (r s : Refusal) → (r ≡ s) ⊎ (r ≢ s)
told_refusal r s =
    elim (eqb_tells (status_of r) (status_of s)) [
      | inl a ↦
          elim (eqb_tells (number_of r) (number_of s)) [
            | inl b ↦ inl (sym (again r) ∙ ap (λ (n : ℕ). refusal_with n (number_of r)) a.1 ∙ ap (λ (n : ℕ). refusal_with (status_of s) n) b.1 ∙ again s)
            | inr b ↦ inr (λ k. b.1 (ap number_of k))
          ]
      | inr a ↦ inr (λ k. a.1 (ap status_of k))
    ]

told_text : (s t : List ℕ) (b : Bool) → Decides b (s ≡ t) → (s ≡ t) ⊎ (s ≢ t)
told_text s t true d = inl (d.0 refl)
told_text s t false d = inr (λ k. unlike (d.1 k))
  where
    unlike : false ≡ true → ⊥
    unlike e = cc

abbrev ok_of : List ℕ → Result (List ℕ) Refusal
ok_of text = Ok text

abbrev refused_of : Refusal → Result (List ℕ) Refusal
refused_of r = Err r

same_text : (s t : List ℕ) → ok_of s ≡ ok_of t → s ≡ t
same_text s t k = cc

same_refusal : (r s : Refusal) → refused_of r ≡ refused_of s → r ≡ s
same_refusal r s k = cc

told_answer : (a b : Result (List ℕ) Refusal) → (a ≡ b) ⊎ (a ≢ b)
told_answer (Ok s) (Ok t) =
    elim (told_text s t (bytes_eq s t) (bytes_eq-Decides s t)) [
      | inl e ↦ inl (ap Ok e)
      | inr n ↦ inr (λ k. n (same_text s t k))
    ]
told_answer (Ok s) (Err r) = inr (λ k. unlike k)
  where
    unlike : ok_of s ≡ refused_of r → ⊥
    unlike k = cc
told_answer (Err r) (Ok s) = inr (λ k. unlike k)
  where
    unlike : refused_of r ≡ ok_of s → ⊥
    unlike k = cc
told_answer (Err r) (Err s) =
    elim (told_refusal r s) [
      | inl e ↦ inl (ap Err e)
      | inr n ↦ inr (λ k. n (same_refusal r s k))
    ]

-- ---- one answer to words and input

one_where_command : (scheme : Relation) (words : List (List ℕ)) (input : List ℕ) (a b : Result (List ℕ) Refusal) → IsAnswer scheme words input a → IsAnswer scheme words input b
    → (c : Command) → IsCommand words c → a ≡ b
one_where_command scheme words input a b p q c is =
    elim (leb_tells (length input) (2 ^ 26)) [
      | inl within ↦ one_answer scheme c (octets_in c input) a b (p.answers c is (λ reads. within.1)) (q.answers c is (λ reads. within.1))
      | inr longer ↦ of_long c is longer.1
    ]
  where
    of_long : (c : Command) → IsCommand words c → 2 ^ 26 < length input → a ≡ b
    of_long Content is l = p.long Content is tt l ∙ sym (q.long Content is tt l)
    of_long (Receive kind when keys) is l = p.long (Receive kind when keys) is tt l ∙ sym (q.long (Receive kind when keys) is tt l)
    of_long (Create kind when) is l = p.long (Create kind when) is tt l ∙ sym (q.long (Create kind when) is tt l)
    of_long (Setup kind when) is l = p.long (Setup kind when) is tt l ∙ sym (q.long (Setup kind when) is tt l)
    of_long (Make count seed) is l = absurd (p.answers (Make count seed) is (λ reads. absurd reads))

pub one_answer_to_words : (scheme : Relation) (words : List (List ℕ)) (input : List ℕ) (a b : Result (List ℕ) Refusal) → IsAnswer scheme words input a → IsAnswer scheme words input b → a ≡ b
one_answer_to_words scheme words input a b p q =
    elim (told_answer a b) [
      | inl e ↦ e
      | inr n ↦
          let none : IsNoCommand words = λ c is. n (one_where_command scheme words input a b p q c is) in
          p.usage none ∙ sym (q.usage none)
    ]

-- ---- the questions

pub same_receipt : (s t : Relation) (kind : Kind) (octets : List ℕ) (keys : List KeyFields) (when : ℤ) (a : Result (Received × ℕ) ReceiveError) → ((m : MessageFields) → BeginsSigned octets m → SameAnswersUnder s t m keys) → IsReceivedUnder s kind octets keys when a → IsReceivedUnder t kind octets keys when a
same_receipt s t kind octets keys when (Ok (m, place)) w r =
    record { signed = r.signed; begins = r.begins; believed = first_too s t r.signed keys when place (w r.signed r.begins) r.believed; reads = r.reads }
same_receipt s t kind octets keys when (Err errors.CmsDecode) w r = r
same_receipt s t kind octets keys when (Err errors.XmlError) w r = r
same_receipt s t kind octets keys when (Err errors.CertSyntax) w r = r
same_receipt s t kind octets keys when (Err errors.InvalidCsrSyntax) w r = r
same_receipt s t kind octets keys when (Err (errors.Validation e)) w r =
    let same = w r.signed r.begins in
    record {
      signed = r.signed;
      begins = r.begins;
      message = r.message;
      reads = r.reads;
      none = unbelieved_too s t r.signed keys when same r.none;
      greatest = λ os h. r.greatest os (outcomes_too s t r.signed keys when os same h);
    }
same_receipt s t kind octets keys when (Err errors.OutOfMemory) w r = tt

-- ---- more keys, and other moments

pub more_accept : (scheme : Relation) (kind : Kind) (octets : List ℕ) (keys more : List KeyFields) (when : ℤ) (m : Received) → AreAmong keys more → Accepted scheme kind octets keys when m → Accepted scheme kind octets more when m
more_accept scheme kind octets keys more when m a r =
    record { signed = r.signed; begins = r.begins; believed = under_more scheme r.signed keys more when a r.believed; reads = r.reads }

pub accepted_span : (scheme : Relation) (kind : Kind) (octets : List ℕ) (keys : List KeyFields) (one : ℤ) (message : Received) → Accepted scheme kind octets keys one message
    → (m : MessageFields) × BeginsSigned octets m × ((when : ℤ) → Accepted scheme kind octets keys when message ↔ IsInSpan m when)
accepted_span scheme kind octets keys one message r =
    let span : (when : ℤ) → IsBelievedUnder scheme r.signed keys when ↔ IsInSpan r.signed when = λ when. one_span_under scheme r.signed keys one when r.believed in (
      r.signed,
      r.begins,
      λ when. (
        (λ b. (span when).0 (subst (λ (m : MessageFields). IsBelievedUnder scheme m keys when) (one_signed octets b.signed r.signed b.begins r.begins) b.believed)),
        (λ i. record { signed = r.signed; begins = r.begins; believed = (span when).1 i; reads = r.reads }),
      ),
    )

-- ---- other octets with the same message

same_content : {is : List ℕ → Type 0} (octets others : List ℕ) (signed : MessageFields) → BeginsSigned octets signed → BeginsSigned others signed → HoldsContent is octets → HoldsContent is others
same_content octets others signed b c r =
    record { signed = r.signed; begins = subst (λ (s : MessageFields). BeginsSigned others s) (one_signed octets signed r.signed b r.begins) c; content = r.content }

pub same_message : (scheme : Relation) (kind : Kind) (octets others : List ℕ) (signed : MessageFields) (keys : List KeyFields) (when : ℤ) (a : Result (Received × ℕ) ReceiveError)
    → BeginsSigned octets signed → BeginsSigned others signed → IsReceivedUnder scheme kind octets keys when a → IsReceivedUnder scheme kind others keys when a
same_message scheme kind octets others signed keys when (Ok (m, place)) b c r =
    record { signed = r.signed; begins = subst (λ (s : MessageFields). BeginsSigned others s) (one_signed octets signed r.signed b r.begins) c; believed = r.believed; reads = r.reads }
same_message scheme kind octets others signed keys when (Err errors.CmsDecode) b c r = absurd (r signed b)
same_message scheme kind octets others signed keys when (Err errors.XmlError) b c r = same_content octets others signed b c r
same_message scheme kind octets others signed keys when (Err errors.CertSyntax) b c r = same_content octets others signed b c r
same_message scheme kind octets others signed keys when (Err errors.InvalidCsrSyntax) b c r = same_content octets others signed b c r
same_message scheme kind octets others signed keys when (Err (errors.Validation e)) b c r =
    record {
      signed = r.signed;
      begins = subst (λ (s : MessageFields). BeginsSigned others s) (one_signed octets signed r.signed b r.begins) c;
      message = r.message;
      reads = r.reads;
      none = r.none;
      greatest = r.greatest;
    }
same_message scheme kind octets others signed keys when (Err errors.OutOfMemory) b c r = tt

-- the DER of a message with which octets begin, whatever stands behind it
written_begins : (octets rest : List ℕ) (signed : MessageFields) → BeginsSigned octets signed → CanSpellMessage signed → BeginsSigned (rewritten signed ++ rest) signed
written_begins octets rest signed b k = begins_loosely Ber signed rest (message_held Ber b.value signed b.begins.lawful b.reads) k

pub written_alike : (scheme : Relation) (kind : Kind) (octets rest : List ℕ) (signed : MessageFields) (keys : List KeyFields) (when : ℤ) (a : Result (Received × ℕ) ReceiveError)
    → BeginsSigned octets signed → CanSpellMessage signed → IsReceivedUnder scheme kind octets keys when a ↔ IsReceivedUnder scheme kind (rewritten signed ++ rest) keys when a
written_alike scheme kind octets rest signed keys when a b k =
    let c = written_begins octets rest signed b k in
    (same_message scheme kind octets (rewritten signed ++ rest) signed keys when a b c, same_message scheme kind (rewritten signed ++ rest) octets signed keys when a c b)

-- ---- one receipt

accepted_never : (scheme : Relation) (kind : Kind) (octets : List ℕ) (keys : List KeyFields) (when : ℤ) (m : Received) (e : ReceiveError) → Accepted scheme kind octets keys when m → RefusesReceipt scheme kind octets keys when e → e ≢ errors.OutOfMemory → ⊥
accepted_never scheme kind octets keys when m errors.CmsDecode a r other = accepted_alone scheme kind octets keys when m errors.CmsDecode a r (λ k. cc)
accepted_never scheme kind octets keys when m errors.XmlError a r other = accepted_alone scheme kind octets keys when m errors.XmlError a r (λ k. cc)
accepted_never scheme kind octets keys when m errors.CertSyntax a r other = accepted_alone scheme kind octets keys when m errors.CertSyntax a r (λ k. cc)
accepted_never scheme kind octets keys when m errors.InvalidCsrSyntax a r other = accepted_alone scheme kind octets keys when m errors.InvalidCsrSyntax a r (λ k. cc)
accepted_never scheme kind octets keys when m (errors.Validation e) a r other = accepted_alone scheme kind octets keys when m (errors.Validation e) a r (λ k. cc)
accepted_never scheme kind octets keys when m errors.OutOfMemory a r other = other refl

same_kind : (a b : ValidationKind) → ((a ≡ b → ⊥) → ⊥) → a ≡ b
same_kind Inspection Inspection n = refl
same_kind Inspection Verification n = absurd (n (λ e. cc))
same_kind Verification Inspection n = absurd (n (λ e. cc))
same_kind Verification Verification n = refl

abbrev fault : ValidationKind → ℕ → ValidationError
fault kind check = record { kind = kind; check = check }

-- the check that is named, with its kind
one_fault : (scheme : Relation) (m : MessageFields) (keys : List KeyFields) (when : ℤ) (d e : ValidationError) → ((os : List (Result (Unit {0}) ℕ)) → AreOutcomes scheme m keys when os → failing kind_of (ranked os) ≡ Err d)
    → ((os : List (Result (Unit {0}) ℕ)) → AreOutcomes scheme m keys when os → failing kind_of (ranked os) ≡ Err e) → d ≡ e
one_fault scheme m keys when d e f g =
    let same : (d ≡ e → ⊥) → ⊥ = λ k. some_outcomes scheme m keys when (λ os h. k (told (sym (f os h) ∙ g os h))) in
    let kind = same_kind d.kind e.kind (λ k. same (λ is. k (ap (λ (x : ValidationError). x.kind) is))) in
    ap (λ (k : ValidationKind). fault k d.check) kind ∙ ap (λ (n : ℕ). fault e.kind n) (one_check scheme m keys when d e f g)
  where
    told : err_of d ≡ err_of e → d ≡ e
    told p = cc

-- what an error of receipt is
abbrev error_from : Refusal → ReceiveError
error_from refusals.XmlError = errors.XmlError
error_from refusals.CertSyntax = errors.CertSyntax
error_from refusals.InvalidCsrSyntax = errors.InvalidCsrSyntax
error_from other = errors.OutOfMemory

abbrev ErrorView : (scheme : Relation) (kind : Kind) (octets : List ℕ) (keys : List KeyFields) (when : ℤ) → ReceiveError → Type 0
ErrorView scheme kind octets keys when e =
    ((e ≡ errors.CmsDecode) × HoldsNoSigned octets)
    ⊎ (((r : Refusal) × (e ≡ error_from r) × HoldsContent (λ o. RefusesInput kind o r) octets)
    ⊎ ((v : ValidationError) × (e ≡ errors.Validation v) × FailsCheck scheme kind octets keys when v))

error_view : (scheme : Relation) (kind : Kind) (octets : List ℕ) (keys : List KeyFields) (when : ℤ) (e : ReceiveError) → RefusesReceipt scheme kind octets keys when e → e ≢ errors.OutOfMemory → ErrorView scheme kind octets keys when e
error_view scheme kind octets keys when errors.CmsDecode r other = inl (refl, r)
error_view scheme kind octets keys when errors.XmlError r other = inr (inl (refusals.XmlError, refl, r))
error_view scheme kind octets keys when errors.CertSyntax r other = inr (inl (refusals.CertSyntax, refl, r))
error_view scheme kind octets keys when errors.InvalidCsrSyntax r other = inr (inl (refusals.InvalidCsrSyntax, refl, r))
error_view scheme kind octets keys when (errors.Validation e) r other = inr (inr (e, refl, r))
error_view scheme kind octets keys when errors.OutOfMemory r other = absurd (other refl)

fails_once : (scheme : Relation) (kind : Kind) (octets : List ℕ) (keys : List KeyFields) (when : ℤ) (d e : ValidationError) → FailsCheck scheme kind octets keys when d → FailsCheck scheme kind octets keys when e → d ≡ e
fails_once scheme kind octets keys when d e f g =
    let same = one_signed octets f.signed g.signed f.begins g.begins in
    let greatest = subst (λ (s : MessageFields). (os : List (Result (Unit {0}) ℕ)) → AreOutcomes scheme s keys when os → failing kind_of (ranked os) ≡ Err d) same f.greatest in
    one_fault scheme g.signed keys when d e greatest g.greatest

one_error : (scheme : Relation) (kind : Kind) (octets : List ℕ) (keys : List KeyFields) (when : ℤ) (d e : ReceiveError) → ErrorView scheme kind octets keys when d → ErrorView scheme kind octets keys when e → d ≡ e
one_error scheme kind octets keys when d e (inl p) (inl q) = p.0 ∙ sym q.0
one_error scheme kind octets keys when d e (inl p) (inr (inl q)) = absurd (p.1 q.2.signed q.2.begins)
one_error scheme kind octets keys when d e (inl p) (inr (inr q)) = absurd (p.1 q.2.signed q.2.begins)
one_error scheme kind octets keys when d e (inr (inl p)) (inl q) = absurd (q.1 p.2.signed p.2.begins)
one_error scheme kind octets keys when d e (inr (inl p)) (inr (inl q)) = p.1 ∙ ap error_from (one_content_reason kind octets p.0 q.0 p.2 q.2) ∙ sym q.1
one_error scheme kind octets keys when d e (inr (inl p)) (inr (inr q)) = absurd (no_reading kind octets q.2.signed q.2.message p.0 q.2.begins q.2.reads p.2)
one_error scheme kind octets keys when d e (inr (inr p)) (inl q) = absurd (q.1 p.2.signed p.2.begins)
one_error scheme kind octets keys when d e (inr (inr p)) (inr (inl q)) = absurd (no_reading kind octets p.2.signed p.2.message q.0 p.2.begins p.2.reads q.2)
one_error scheme kind octets keys when d e (inr (inr p)) (inr (inr q)) = p.1 ∙ ap (λ (v : ValidationError). errors.Validation v) (fails_once scheme kind octets keys when p.0 q.0 p.2 q.2) ∙ sym q.1

one_refused : (scheme : Relation) (kind : Kind) (octets : List ℕ) (keys : List KeyFields) (when : ℤ) (d e : ReceiveError) → RefusesReceipt scheme kind octets keys when d → RefusesReceipt scheme kind octets keys when e → d ≢ errors.OutOfMemory → e ≢ errors.OutOfMemory → d ≡ e
one_refused scheme kind octets keys when d e p q dm em = one_error scheme kind octets keys when d e (error_view scheme kind octets keys when d p dm) (error_view scheme kind octets keys when e q em)

abbrev err_in : {T : Type 0} → ReceiveError → Result T ReceiveError
err_in e = Err e

abbrev memory_only : {T : Type 0} → Result T ReceiveError
memory_only = Err errors.OutOfMemory

not_memory : {T : Type 0} (e : ReceiveError) → (◌≡◌ {A = Result T ReceiveError} (Err e) memory_only → ⊥) → e ≢ errors.OutOfMemory
not_memory {T = T} e n k = n (ap (λ (x : ReceiveError). err_in {T = T} x) k)

pub one_received : (scheme : Relation) (kind : Kind) (octets : List ℕ) (keys : List KeyFields) (when : ℤ) (a b : Result Received ReceiveError) → IsReceived scheme kind octets keys when a → IsReceived scheme kind octets keys when b → a ≢ memory_only → b ≢ memory_only → a ≡ b
one_received scheme kind octets keys when (Ok m) (Ok n) p q am bm = ap (λ (x : Received). Ok x) (one_accepted scheme kind octets keys when m n p q)
one_received scheme kind octets keys when (Ok m) (Err e) p q am bm = absurd (accepted_never scheme kind octets keys when m e p q (not_memory e bm))
one_received scheme kind octets keys when (Err d) (Ok n) p q am bm = absurd (accepted_never scheme kind octets keys when n d q p (not_memory d am))
one_received scheme kind octets keys when (Err d) (Err e) p q am bm = ap (λ (x : ReceiveError). Err x) (one_refused scheme kind octets keys when d e p q (not_memory d am) (not_memory e bm))

accepted_at : (scheme : Relation) (kind : Kind) (octets : List ℕ) (keys : List KeyFields) (when : ℤ) (m : Received) (place : ℕ) → AcceptedAt scheme kind octets keys when m place → Accepted scheme kind octets keys when m
accepted_at scheme kind octets keys when m place a = record {
  signed = a.signed;
  begins = a.begins;
  believed = record { key = a.believed.key; among = record { before = a.believed.before; behind = a.believed.behind; parts = a.believed.parts }; believed = a.believed.believed };
  reads = a.reads;
}

one_at : (scheme : Relation) (kind : Kind) (octets : List ℕ) (keys : List KeyFields) (when : ℤ) (m n : Received) (i j : ℕ) → AcceptedAt scheme kind octets keys when m i → AcceptedAt scheme kind octets keys when n j → (m ≡ n) × (i ≡ j)
one_at scheme kind octets keys when m n i j p q = (
  one_accepted scheme kind octets keys when m n (accepted_at scheme kind octets keys when m i p) (accepted_at scheme kind octets keys when n j q),
  one_place scheme q.signed keys when i j (subst (λ (s : MessageFields). IsFirstBelieved scheme s keys when i) (one_signed octets p.signed q.signed p.begins q.begins) p.believed) q.believed,
)

abbrev found : Received → ℕ → Result (Received × ℕ) ReceiveError
found m i = Ok (m, i)

pub one_received_under : (scheme : Relation) (kind : Kind) (octets : List ℕ) (keys : List KeyFields) (when : ℤ) (a b : Result (Received × ℕ) ReceiveError) → IsReceivedUnder scheme kind octets keys when a → IsReceivedUnder scheme kind octets keys when b → a ≢ memory_only → b ≢ memory_only → a ≡ b
one_received_under scheme kind octets keys when (Ok (m, i)) (Ok (n, j)) p q am bm =
    let same = one_at scheme kind octets keys when m n i j p q in
    ap (λ (x : Received). found x i) same.0 ∙ ap (λ (x : ℕ). found n x) same.1
one_received_under scheme kind octets keys when (Ok (m, i)) (Err e) p q am bm = absurd (accepted_never scheme kind octets keys when m e (accepted_at scheme kind octets keys when m i p) q (not_memory e bm))
one_received_under scheme kind octets keys when (Err d) (Ok (n, j)) p q am bm = absurd (accepted_never scheme kind octets keys when n d (accepted_at scheme kind octets keys when n j q) p (not_memory d am))
one_received_under scheme kind octets keys when (Err d) (Err e) p q am bm = ap (λ (x : ReceiveError). Err x) (one_refused scheme kind octets keys when d e p q (not_memory d am) (not_memory e bm))
