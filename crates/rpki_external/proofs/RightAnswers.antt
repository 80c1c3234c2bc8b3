-- What is received by right answers is what is received under the scheme for which they are right.
use Rattle.std.proofs.Common.{◌≡◌, ℕ, ◌+◌, Bool, true, false, List, [], ◌∷◌, ◌++◌, map, refl, sym, ap, subst, ◌∙◌, inl, inr}
use Rattle.std.specs.Prelude.{◌⊎◌, ◌↔◌, ◌&&◌, if◌then◌else◌, Decides, ℤ, Option, Result, Ok, Err, not, ◌||◌, is_some}
use Rattle.std.proofs.lemmas.Slice.Eq.{bytes_eq-Decides}
use Rattle.rpki_base.specs.Algorithm.{format_of}
use Rattle.rpki_base.specs.PublicKey.{KeyFields}
use Rattle.rpki_base.specs.Scheme.{Relation}
use Rattle.rpki_base.specs.declared.algorithm.SigningAlgorithm.{SigningAlgorithm}
use Rattle.rpki_base.specs.declared.algorithm.SigningAlgorithm.TheVariants.{RsaSha256}
use Rattle.rpki_sigmsg.specs.Beginning.{BeginsSigned}
use Rattle.rpki_base.specs.Checks.{IsSigned, failing, first_failure}
use Rattle.rpki_base.specs.declared.validation.ValidationError.{ValidationError}
use Rattle.rpki_cert.specs.Making.{CaRequest}
use Rattle.rpki_idcert.specs.Checks.{has_own_identifier, is_true, is_within, names_itself, ta_checks, ta_kind}
use Rattle.rpki_idcert.specs.IdCert.{CertificateFields}
use Rattle.rpki_replay.specs.declared.guard.GuardError.{GuardError}
use Rattle.rpki_sigmsg.specs.Checks.{AreAttributesSigned, AreChecks, SameAnswers, SameAnswersUnder}
use Rattle.rpki_sigmsg.specs.Crl.{CrlFields}
use Rattle.rpki_sigmsg.specs.CrlChecks.{AreCrlsSigned}
use Rattle.rpki_sigmsg.specs.Message.{MessageFields}
use Rattle.rpki_sigmsg.proofs.AnyKey.{backwards}
use Rattle.rpki_sigmsg.proofs.Meaning.{moved, same_back, turned}
use Rattle.rpki_ca.specs.Acceptance.{IsReceivedUnder}
use Rattle.rpki_ca.specs.declared.receiving.Kind.{Kind}
use Rattle.rpki_ca.specs.declared.receiving.ReceiveError.{ReceiveError}
use Rattle.rpki_ca.specs.declared.receiving.Received.{Received}
use Rattle.rpki_ca.specs.Keys.{same_key}
use Rattle.rpki_ca.proofs.Keys.{key_is, key_itself}
use Rattle.rpki_ca.proofs.Laws.{one_signed, same_receipt}
use Rattle.rpki_external.specs.Answers.{AnswersFields, AreRight, answer_to, answered_scheme, asks, by_answers}
use Rattle.rpki_external.specs.Receiving.{AreAskedOf, IsGuardRefusal, IsReceipt}
use Rattle.rpki_external.specs.Verifying.{AreChecksOf, IsRequestSigned, IsTaValidation}
use Rattle.rpki_external.specs.declared.receiving.Receipt.{Receipt}
use Rattle.rpki_external.proofs.Receipts.{found_at, guarded_too, passes_too}
use Rattle.rpki_external.specs.Question.{QuestionFields, QuestionsFields, SignatureHolds, anchor_asked, anchor_question, anchor_questions, attributes_question, certificate_part, crl_part, listed, message_questions, own_question, request_question, request_questions, under, under_each}

-- ---- the question that asks for something

both : {P Q : Type 0} (a b : Bool) → Decides a P → Decides b Q → Decides (a && b) (P × Q)
both true true d e = (λ t. (d.0 refl, e.0 refl), λ w. refl)
both true false d e = (λ t. cc, λ w. e.1 w.1)
both false b d e = (λ t. cc, λ w. d.1 w.0)

same_key_is : (a b : KeyFields) → Decides (same_key a b) (a ≡ b)
same_key_is a b = (λ e. key_is a b e, λ e. subst (λ (k : KeyFields). same_key a k ≡ true) e (key_itself a))

asks_is : (q : QuestionFields) (key : KeyFields) (message signature : List ℕ)
    → Decides (asks q key message signature) ((q.key ≡ key) × ((q.octets ≡ message) × (q.signature ≡ signature)))
asks_is q key message signature =
    both _ _ (same_key_is q.key key) (both _ _ (bytes_eq-Decides q.octets message) (bytes_eq-Decides q.signature signature))

asks_itself : (q : QuestionFields) → asks q q.key q.octets q.signature ≡ true
asks_itself q = (asks_is q q.key q.octets q.signature).1 (refl, (refl, refl))

-- what it asks is what the other asks
asks_same : (scheme : Relation) (x : QuestionFields) (key : KeyFields) (message signature : List ℕ) → asks x key message signature ≡ true
    → SignatureHolds scheme x ↔ scheme RsaSha256 key message signature
asks_same scheme x key message signature e =
    let is = (asks_is x key message signature).0 e in (
      (λ h. subst (λ s. scheme RsaSha256 key message s) is.1.1 (subst (λ m. scheme RsaSha256 key m x.signature) is.1.0 (subst (λ y. scheme RsaSha256 y x.octets x.signature) is.0 h))),
      (λ h. subst (λ y. scheme RsaSha256 y x.octets x.signature) (sym is.0) (subst (λ m. scheme RsaSha256 key m x.signature) (sym is.1.0) (subst (λ s. scheme RsaSha256 key message s) (sym is.1.1) h))),
    )

-- ---- the answer to a question

abbrev pub IsIn : QuestionFields → List QuestionFields → Type 0
IsIn q [] = ⊥
IsIn q (x ∷ xs) = (x ≡ q) ⊎ IsIn q xs

chosen : (P : Type 0) (b a rest : Bool) → (b ≡ true → Decides a P) → (b ≡ false → Decides rest P) → Decides (if b then a else rest) P
chosen P true a rest d e = d refl
chosen P false a rest d e = e refl

behind : (x q : QuestionFields) (xs : List QuestionFields) → asks x q.key q.octets q.signature ≡ false → (x ≡ q) ⊎ IsIn q xs → IsIn q xs
behind x q xs f (inl e) =
    let yes : asks x q.key q.octets q.signature ≡ true = subst (λ (y : QuestionFields). asks y q.key q.octets q.signature ≡ true) (sym e) (asks_itself q) in
    absurd (no_both _ f yes)
  where
    no_both : (b : Bool) → b ≡ false → b ≡ true → ⊥
    no_both b f t = cc
behind x q xs f (inr i) = i

pub found : (scheme : Relation) (list : List QuestionFields) (answers : List Bool) (q : QuestionFields) → AreRight scheme list answers → IsIn q list
    → Decides (answer_to list answers q.key q.octets q.signature) (SignatureHolds scheme q)
found scheme [] answers q right i = absurd i
found scheme (x ∷ xs) [] q right i = absurd right
found scheme (x ∷ xs) (a ∷ answers) q right i =
    chosen (SignatureHolds scheme q) (asks x q.key q.octets q.signature) a (answer_to xs answers q.key q.octets q.signature)
    (λ e. moved a (asks_same scheme x q.key q.octets q.signature e) right.0)
    (λ e. found scheme xs answers q right.1 (behind x q xs e i))

-- the scheme that the answers are says the same of it
pub told : (scheme : Relation) → ((kind : SigningAlgorithm) (key : KeyFields) (message signature : List ℕ) → scheme kind key message signature → key.format ≡ format_of kind)
    → (list : List QuestionFields) (answers : List Bool) (q : QuestionFields) → AreRight scheme list answers → IsIn q list
    → SignatureHolds (by_answers list answers) q ↔ SignatureHolds scheme q
told scheme fits list answers q right i =
    let d = found scheme list answers q right i in
    (λ h. d.0 h.2, λ h. (fits RsaSha256 q.key q.octets q.signature h, refl, d.1 h))

-- ---- all questions of a message

abbrev Agree : Relation → Relation → List QuestionFields → Type 0
Agree s t list = (q : QuestionFields) → IsIn q list → SignatureHolds s q ↔ SignatureHolds t q

in_left : (q : QuestionFields) (xs ys : List QuestionFields) → IsIn q xs → IsIn q (xs ++ ys)
in_left q [] ys i = absurd i
in_left q (x ∷ xs) ys (inl e) = inl e
in_left q (x ∷ xs) ys (inr i) = inr (in_left q xs ys i)

in_right : (q : QuestionFields) (xs ys : List QuestionFields) → IsIn q ys → IsIn q (xs ++ ys)
in_right q [] ys i = i
in_right q (x ∷ xs) ys i = inr (in_right q xs ys i)

crls_too : (s t : Relation) (key : KeyFields) (crls : List CrlFields) → Agree s t (map (under key) (map crl_part crls))
    → AreCrlsSigned s crls key ↔ AreCrlsSigned t crls key
crls_too s t key [] w = (λ u. tt, λ u. tt)
crls_too s t key (c ∷ crls) w =
    let one = w (under key (crl_part c)) (inl refl) in
    let more = crls_too s t key crls (λ q i. w q (inr i)) in
    (λ a. (one.0 a.0, more.0 a.1), λ a. (one.1 a.0, more.1 a.1))

keys_too : (s t : Relation) (m : MessageFields) (keys : List KeyFields) → (AreAttributesSigned s m ↔ AreAttributesSigned t m)
    → Agree s t (under_each (certificate_part m.certificate ∷ map crl_part m.crls) keys) → SameAnswersUnder s t m keys
keys_too s t m [] own w = tt
keys_too s t m (key ∷ keys) own w =
    let here : List QuestionFields = map (under key) (certificate_part m.certificate ∷ map crl_part m.crls) in
    let behind : List QuestionFields = under_each (certificate_part m.certificate ∷ map crl_part m.crls) keys in (
      record {
        attributes = own;
        certificate = w (under key (certificate_part m.certificate)) (inl refl);
        crls = crls_too s t key m.crls (λ q i. w q (in_left q here behind (inr i)));
      },
      keys_too s t m keys own (λ q i. w q (in_right q here behind i)),
    )

pub same_answers : (scheme : Relation) → ((kind : SigningAlgorithm) (key : KeyFields) (message signature : List ℕ) → scheme kind key message signature → key.format ≡ format_of kind)
    → (m : MessageFields) (keys : List KeyFields) (answers : List Bool) → AreRight scheme (listed (message_questions m keys)) answers
    → SameAnswersUnder (by_answers (listed (message_questions m keys)) answers) scheme m keys
same_answers scheme fits m keys answers right =
    let list : List QuestionFields = listed (message_questions m keys) in
    let agree : Agree (by_answers list answers) scheme list = λ q i. told scheme fits list answers q right i in
    keys_too (by_answers list answers) scheme m keys (agree (attributes_question m) (inl refl)) (λ q i. agree q (inr i))

-- ---- what is received

-- of each message with which the octets begin
pub agree_begun : (scheme : Relation) → ((kind : SigningAlgorithm) (key : KeyFields) (message signature : List ℕ) → scheme kind key message signature → key.format ≡ format_of kind)
    → (octets : List ℕ) (keys : List KeyFields) (q : QuestionsFields) (answers : AnswersFields) → AreAskedOf octets keys q → AreRight scheme (listed q) answers.values
    → (m : MessageFields) → BeginsSigned octets m → SameAnswersUnder (answered_scheme q answers) scheme m keys
agree_begun scheme fits octets keys q answers h right m begins =
    let e : q ≡ message_questions m keys = h.are ∙ ap (λ (n : MessageFields). message_questions n keys) (one_signed octets h.signed m h.begins begins) in
    let same : SameAnswersUnder (answered_scheme (message_questions m keys) answers) scheme m keys =
    same_answers scheme fits m keys answers.values (subst (λ (l : QuestionsFields). AreRight scheme (listed l) answers.values) e right) in
    subst (λ (l : QuestionsFields). SameAnswersUnder (answered_scheme l answers) scheme m keys) (sym e) same

pub decided : (scheme : Relation) → ((kind : SigningAlgorithm) (key : KeyFields) (message signature : List ℕ) → scheme kind key message signature → key.format ≡ format_of kind)
    → (kind : Kind) (octets : List ℕ) (keys : List KeyFields) (when : ℤ) (q : QuestionsFields) (answers : AnswersFields) (answer : Result (Received × ℕ) ReceiveError)
    → AreAskedOf octets keys q → AreRight scheme (listed q) answers.values
    → IsReceivedUnder (answered_scheme q answers) kind octets keys when answer ↔ IsReceivedUnder scheme kind octets keys when answer
decided scheme fits kind octets keys when q answers answer h right =
    let same = agree_begun scheme fits octets keys q answers h right in (
      (λ r. same_receipt (answered_scheme q answers) scheme kind octets keys when answer same r),
      (λ r. same_receipt scheme (answered_scheme q answers) kind octets keys when answer (λ m b. backwards (answered_scheme q answers) scheme m keys (same m b)) r),
    )

pub receipt_too : (scheme : Relation) → ((kind : SigningAlgorithm) (key : KeyFields) (message signature : List ℕ) → scheme kind key message signature → key.format ≡ format_of kind)
    → (kind : Kind) (octets : List ℕ) (keys : List KeyFields) (when : ℤ) (last : Option ℤ) (q : QuestionsFields) (answers : AnswersFields) (r : Receipt)
    → AreAskedOf octets keys q → AreRight scheme (listed q) answers.values
    → IsReceipt (answered_scheme q answers) kind octets keys when last r → IsReceipt scheme kind octets keys when last r
receipt_too scheme fits kind octets keys when last q answers r h right p = record {
  signed = p.signed;
  begins = p.begins;
  received = (decided scheme fits kind octets keys when q answers (Ok (r.message, r.place)) h right).0 p.received;
  time = p.time;
  guarded = passes_too (answered_scheme q answers) scheme keys last p.signed when r.place (agree_begun scheme fits octets keys q answers h right p.signed p.begins) p.guarded;
}

pub refusal_too : (scheme : Relation) → ((kind : SigningAlgorithm) (key : KeyFields) (message signature : List ℕ) → scheme kind key message signature → key.format ≡ format_of kind)
    → (kind : Kind) (octets : List ℕ) (keys : List KeyFields) (when : ℤ) (last : Option ℤ) (q : QuestionsFields) (answers : AnswersFields) (error : GuardError)
    → AreAskedOf octets keys q → AreRight scheme (listed q) answers.values
    → IsGuardRefusal (answered_scheme q answers) kind octets keys when last error → IsGuardRefusal scheme kind octets keys when last error
refusal_too scheme fits kind octets keys when last q answers error h right p =
    let same = agree_begun scheme fits octets keys q answers h right p.signed p.begins in
    record {
      signed = p.signed;
      begins = p.begins;
      message = p.message;
      place = p.place;
      received = (decided scheme fits kind octets keys when q answers (Ok (p.message, p.place)) h right).0 p.received;
      admitted = p.admitted;
      handed = p.handed;
      refused = λ key at.
          guarded_too (answered_scheme q answers) scheme key p.admitted p.signed when (Err error)
          (found_at (SameAnswers (answered_scheme q answers) scheme p.signed) keys p.place key at same) (p.refused key at);
    }

-- ---- the checks of a message

checks_too : (s t : Relation) (m : MessageFields) (key : KeyFields) (when : ℤ) (list : List Bool) → SameAnswers s t m key → AreChecks s m key when list → AreChecks t m key when list
checks_too s t m key when list same c = record {
  asked = record {
    q3 = c.asked.q3;
    q8 = c.asked.q8;
    q10 = c.asked.q10;
    attributes = moved c.asked.q3 same.attributes c.asked.attributes;
    certificate = moved c.asked.q8 same.certificate c.asked.certificate;
    crls = moved c.asked.q10 same.crls c.asked.crls;
  };
  are = c.are;
}

pub checks_decided : (scheme : Relation) → ((kind : SigningAlgorithm) (key : KeyFields) (message signature : List ℕ) → scheme kind key message signature → key.format ≡ format_of kind)
    → (octets : List ℕ) (key : KeyFields) (when : ℤ) (q : QuestionsFields) (answers : AnswersFields) (list : List Bool)
    → AreAskedOf octets (key ∷ []) q → AreRight scheme (listed q) answers.values
    → AreChecksOf (answered_scheme q answers) octets key when list ↔ AreChecksOf scheme octets key when list
checks_decided scheme fits octets key when q answers list h right =
    let same : (m : MessageFields) → BeginsSigned octets m → SameAnswers (answered_scheme q answers) scheme m key =
    λ m begins. (agree_begun scheme fits octets (key ∷ []) q answers h right m begins).0 in (
      (λ c. record { signed = c.signed; begins = c.begins; are = checks_too (answered_scheme q answers) scheme c.signed key when list (same c.signed c.begins) c.are }),
      (λ c. record {
        signed = c.signed;
        begins = c.begins;
        are = checks_too scheme (answered_scheme q answers) c.signed key when list (same_back (answered_scheme q answers) scheme c.signed key (same c.signed c.begins)) c.are;
      }),
    )

-- ---- a trust anchor's certificate and a request

-- the scheme that right answers are says the same of the one question
pub own_told : (scheme : Relation) → ((kind : SigningAlgorithm) (key : KeyFields) (message signature : List ℕ) → scheme kind key message signature → key.format ≡ format_of kind)
    → (q : QuestionFields) (answers : List Bool) → AreRight scheme (q ∷ []) answers → SignatureHolds (by_answers (q ∷ []) answers) q ↔ SignatureHolds scheme q
own_told scheme fits q answers right = told scheme fits (q ∷ []) answers q right (inl refl)

ta_asked : (s t : Relation) (c : CertificateFields) (when : ℤ) (answer : Result (Unit {0}) ValidationError)
    → (IsSigned s c c.tbs.key ↔ IsSigned t c c.tbs.key) → IsTaValidation s c when answer → IsTaValidation t c when answer
ta_asked s t c when answer w v = record {
  believed = (
    (λ e. let b = v.believed.0 e in record { signed = λ k. w.0 (b.signed k); passes = b.passes }),
    (λ b. v.believed.1 (record { signed = λ k. w.1 (b.signed k); passes = b.passes })),
  );
  first_failing = λ q d. v.first_failing q (moved q (turned w) d);
  unasked = v.unasked;
}

-- where no signature is asked
ta_unasked : (s t : Relation) (c : CertificateFields) (when : ℤ) (answer : Result (Unit {0}) ValidationError)
    → names_itself c.tbs ≡ false → IsTaValidation s c when answer → IsTaValidation t c when answer
ta_unasked s t c when answer other v =
    let never : (x : Relation) → names_itself c.tbs ≡ true → IsSigned x c c.tbs.key = λ x k. absurd (no (sym other ∙ k)) in
    record {
      believed = (
        (λ e. record { signed = never t; passes = (v.believed.0 e).passes }),
        (λ b. v.believed.1 (record { signed = never s; passes = b.passes })),
      );
      first_failing = λ q d. v.unasked other ∙ ap (λ (l : List Bool). failing ta_kind (first_failure 1 l)) (sym (alike q));
      unasked = v.unasked;
    }
  where
    no : false ≡ true → ⊥
    no k = cc

    fifth : (b q : Bool) → b ≡ false → (not b || q) ≡ true
    fifth false q e = refl
    fifth true q e = cc

    alike : (q : Bool) → ta_checks c when q ≡ ta_checks c when true
    alike q =
        ap (λ (b : Bool). has_own_identifier c.tbs ∷ is_some c.tbs.basic_ca ∷ is_true c.tbs.basic_ca ∷ is_within c.tbs.validity when ∷ b ∷ [])
        (fifth (names_itself c.tbs) q other ∙ sym (fifth (names_itself c.tbs) true other))

ta_by_case : (scheme : Relation) → ((kind : SigningAlgorithm) (key : KeyFields) (message signature : List ℕ) → scheme kind key message signature → key.format ≡ format_of kind)
    → (c : CertificateFields) (when : ℤ) (answers : List Bool) (answer : Result (Unit {0}) ValidationError) (own : Bool) → names_itself c.tbs ≡ own
    → AreRight scheme (own_question (anchor_asked own c) ++ []) answers
    → IsTaValidation (by_answers (own_question (anchor_asked own c) ++ []) answers) c when answer ↔ IsTaValidation scheme c when answer
ta_by_case scheme fits c when answers answer true is right =
    let w = own_told scheme fits (anchor_question c) answers right in (
      (λ v. ta_asked (by_answers (anchor_question c ∷ []) answers) scheme c when answer w v),
      (λ v. ta_asked scheme (by_answers (anchor_question c ∷ []) answers) c when answer (turned w) v),
    )
ta_by_case scheme fits c when answers answer false is right = (
  (λ v. ta_unasked (by_answers [] answers) scheme c when answer is v),
  (λ v. ta_unasked scheme (by_answers [] answers) c when answer is v),
)

pub anchor_decided : (scheme : Relation) → ((kind : SigningAlgorithm) (key : KeyFields) (message signature : List ℕ) → scheme kind key message signature → key.format ≡ format_of kind)
    → (c : CertificateFields) (when : ℤ) (answers : AnswersFields) (answer : Result (Unit {0}) ValidationError) → AreRight scheme (listed (anchor_questions c)) answers.values
    → IsTaValidation (answered_scheme (anchor_questions c) answers) c when answer ↔ IsTaValidation scheme c when answer
anchor_decided scheme fits c when answers answer right = ta_by_case scheme fits c when answers.values answer (names_itself c.tbs) refl right

pub request_decided : (scheme : Relation) → ((kind : SigningAlgorithm) (key : KeyFields) (message signature : List ℕ) → scheme kind key message signature → key.format ≡ format_of kind)
    → (r : CaRequest) (answers : AnswersFields) → AreRight scheme (listed (request_questions r)) answers.values
    → IsRequestSigned (answered_scheme (request_questions r) answers) r ↔ IsRequestSigned scheme r
request_decided scheme fits r answers right = own_told scheme fits (request_question r) answers.values right
