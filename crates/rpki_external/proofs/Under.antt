-- What is verified by right answers is verified under the scheme for which they are right.
use Rattle.std.proofs.Common.{◌≡◌, inl, inr, ℕ, ℤ, Option, None, Some, Result, Ok, Err, List, [], ◌∷◌, refl, sym, ap, subst, ◌∙◌}
use Rattle.rpki_base.specs.Algorithm.{format_of}
use Rattle.rpki_base.specs.PublicKey.{KeyFields}
use Rattle.rpki_base.specs.Scheme.{Relation}
use Rattle.rpki_base.specs.declared.algorithm.SigningAlgorithm.{SigningAlgorithm}
use Rattle.rpki_cert.specs.Making.{CaRequest}
use Rattle.rpki_der.specs.declared.mode.Mode.TheVariants.{Der}
use Rattle.rpki_der.proofs.Decoding.{decoded_ok}
use Rattle.rpki_idcert.specs.IdCert.{CertificateFields, identity_certificate}
use Rattle.rpki_setup.specs.Answers.{BeginsCertificate}
use Rattle.rpki_ca.specs.Acceptance.{IsReceivedUnder}
use Rattle.rpki_ca.specs.Setup.{ReadsSetup, certificate_octets}
use Rattle.rpki_ca.specs.declared.receiving.Kind.{Kind}
use Rattle.rpki_ca.specs.declared.receiving.ReceiveError.{ReceiveError}
use Rattle.rpki_ca.specs.declared.receiving.ReceiveError.TheVariants as receive
use Rattle.rpki_ca.specs.declared.setup_message.SetupKind.{SetupKind}
use Rattle.rpki_ca.specs.declared.setup_message.SetupKind.TheVariants as setups
use Rattle.rpki_ca.specs.declared.setup_message.SetupMessage.{SetupMessage}
use Rattle.rpki_ca.specs.declared.setup_message.SetupMessage.TheVariants as messages
use Rattle.rpki_ca.specs.Hexadecimal.{hexadecimal}
use Rattle.rpki_replay.specs.declared.guard.GuardError.TheVariants as guard
use Rattle.rpki_external.specs.Answers.{AnswersFields, AreRight}
use Rattle.rpki_external.specs.Question.{QuestionsFields, anchor_questions, listed, request_questions}
use Rattle.rpki_external.specs.Receiving.{AreAskedOf, ByAnswers, RefusesByAnswers, RefusesUnder}
use Rattle.rpki_external.specs.Running.{AreRightIn, IsExplainAnswer, IsExplainAnswerUnder, IsIssueAnswer, IsIssueAnswerUnder, IsReceiveAnswer, IsReceiveAnswerUnder, IsRequestAnswer, IsRequestAnswerUnder, IsSetupWritten, IsSetupWrittenUnder, IsVerifiedAnswer, IsVerifiedAnswerUnder, IsVerifiedSo, IsVerifiedUnder, OfSpelled, Written}
use Rattle.rpki_external.specs.Verifying.{AreSetupQuestions, HoldsAnchor, IsAnchorVerified, IsAnchorVerifiedUnder, IsRequestVerified, IsRequestVerifiedUnder, IsSetupAnswered, IsSetupAnsweredUnder, IsSetupVerified, IsSetupVerifiedUnder}
use Rattle.rpki_external.specs.declared.receiving.AnsweredError.{AnsweredError}
use Rattle.rpki_external.specs.declared.receiving.AnsweredError.TheVariants as errors
use Rattle.rpki_external.specs.declared.setting_up.SetupError.{SetupError}
use Rattle.rpki_external.specs.declared.setting_up.SetupError.TheVariants as setup_errors
use Rattle.rpki_external.specs.declared.task.Verified.{Verified}
use Rattle.rpki_external.specs.declared.task.Verified.TheVariants as verified
use Rattle.rpki_external.specs.declared.verifying.VerifyError.{VerifyError}
use Rattle.rpki_external.specs.declared.verifying.VerifyError.TheVariants as verify_errors
use Rattle.rpki_external.proofs.RightAnswers.{anchor_decided, checks_decided, decided, receipt_too, refusal_too, request_decided}

-- ---- one certificate in a setup message

-- octets are at most one message of a kind
abbrev AreOne : {M : Type 0} → SetupKind → (M → SetupMessage) → Type 0
AreOne {M} kind form = (octets : List ℕ) (m n : M) → ReadsSetup kind octets (form m) → ReadsSetup kind octets (form n) → m ≡ n

pub record AtMostOne : Type 0 where
  pub child : AreOne setups.ChildRequest messages.ChildRequest
  pub parent : AreOne setups.ParentResponse messages.ParentResponse
  pub publisher : AreOne setups.PublisherRequest messages.PublisherRequest
  pub repository : AreOne setups.RepositoryResponse messages.RepositoryResponse

one_setup : AtMostOne → (kind : SetupKind) (octets : List ℕ) (m n : SetupMessage) → ReadsSetup kind octets m → ReadsSetup kind octets n → m ≡ n
one_setup one setups.ChildRequest octets (messages.ChildRequest m) (messages.ChildRequest n) p q = ap messages.ChildRequest (one.child octets m n p q)
one_setup one setups.ParentResponse octets (messages.ParentResponse m) (messages.ParentResponse n) p q = ap messages.ParentResponse (one.parent octets m n p q)
one_setup one setups.PublisherRequest octets (messages.PublisherRequest m) (messages.PublisherRequest n) p q = ap messages.PublisherRequest (one.publisher octets m n p q)
one_setup one setups.RepositoryResponse octets (messages.RepositoryResponse m) (messages.RepositoryResponse n) p q = ap messages.RepositoryResponse (one.repository octets m n p q)
one_setup one kind octets m n p q = search

abbrev some_certificate : CertificateFields → Option CertificateFields
some_certificate c = Some c

one_certificate : (octets : List ℕ) (c d : CertificateFields) → BeginsCertificate octets c → BeginsCertificate octets d → c ≡ d
one_certificate octets c d p q = same (sym (decoded_ok (identity_certificate Der) Der octets c p) ∙ decoded_ok (identity_certificate Der) Der octets d q)
  where
    same : some_certificate c ≡ some_certificate d → c ≡ d
    same e = cc

one_anchor : AtMostOne → (kind : SetupKind) (octets : List ℕ) (m n : SetupMessage) (c d : CertificateFields) → HoldsAnchor kind octets m c → HoldsAnchor kind octets n d → c ≡ d
one_anchor one kind octets m n c d p q =
    one_certificate (certificate_octets n) c d (subst (λ (x : SetupMessage). BeginsCertificate (certificate_octets x) c) (one_setup one kind octets m n p.reads q.reads) p.begins) q.begins

module _ (scheme : Relation) (fits : (kind : SigningAlgorithm) (key : KeyFields) (message signature : List ℕ) → scheme kind key message signature → key.format ≡ format_of kind) (answers : AnswersFields) where
  -- ---- a trust anchor's certificate

  anchor_under : (c : CertificateFields) (when : ℤ) → AreRight scheme (listed (anchor_questions c)) answers.values
      → (answer : Result (Unit {0}) VerifyError) → IsAnchorVerified c when answers answer → IsAnchorVerifiedUnder scheme c when answers answer
  anchor_under c when right (Ok done) v = (anchor_decided scheme fits c when answers (Ok tt) right).0 v.so
  anchor_under c when right (Err verify_errors.OtherQuestions) v = v
  anchor_under c when right (Err verify_errors.Number) v = v
  anchor_under c when right (Err (verify_errors.Validation e)) v = (anchor_decided scheme fits c when answers (Err e) right).0 v.so
  anchor_under c when right (Err verify_errors.Signature) v = v
  anchor_under c when right (Err verify_errors.OutOfMemory) v = v

  -- ---- a setup message

  module _ (kind : SetupKind) (octets : List ℕ) (when : ℤ) (right : (m : SetupMessage) (c : CertificateFields) → HoldsAnchor kind octets m c → AreRight scheme (listed (anchor_questions c)) answers.values) where
    setup_verified : (m : SetupMessage) (answer : Result (Unit {0}) VerifyError) → IsSetupVerified kind octets when answers m answer → IsSetupVerifiedUnder scheme kind octets when answers m answer
    setup_verified m answer v =
        record { certificate = v.certificate; holds = v.holds; verified = anchor_under v.certificate when (right m v.certificate v.holds) answer v.verified }

    setup_told : (answer : Result SetupMessage SetupError) → IsSetupAnswered kind octets when answers answer → IsSetupAnsweredUnder scheme kind octets when answers answer
    setup_told (Ok m) v = setup_verified m (Ok tt) v
    setup_told (Err setup_errors.XmlError) v = v
    setup_told (Err setup_errors.InvalidTaCertEncoding) v = v
    setup_told (Err (setup_errors.Verify verify_errors.OtherQuestions)) v = (v.0, setup_verified v.0 (Err verify_errors.OtherQuestions) v.1)
    setup_told (Err (setup_errors.Verify verify_errors.Number)) v = (v.0, setup_verified v.0 (Err verify_errors.Number) v.1)
    setup_told (Err (setup_errors.Verify (verify_errors.Validation e))) v = (v.0, setup_verified v.0 (Err (verify_errors.Validation e)) v.1)
    setup_told (Err (setup_errors.Verify verify_errors.Signature)) v = (v.0, setup_verified v.0 (Err verify_errors.Signature) v.1)
    setup_told (Err (setup_errors.Verify verify_errors.OutOfMemory)) v = v
    setup_told (Err setup_errors.OutOfMemory) v = v

  pub setup_under : AtMostOne → (kind : SetupKind) (octets : List ℕ) (when : ℤ) (q : QuestionsFields) (answer : Result SetupMessage SetupError) → AreSetupQuestions kind octets q → AreRight scheme (listed q) answers.values
      → IsSetupAnswered kind octets when answers answer → IsSetupAnsweredUnder scheme kind octets when answers answer
  setup_under one kind octets when q answer asked right =
      setup_told kind octets when
      (λ m c holds. subst (λ (x : QuestionsFields). AreRight scheme (listed x) answers.values)
      (asked.are ∙ ap anchor_questions (one_anchor one kind octets asked.message m asked.certificate c asked.holds holds)) right)
      answer

  setup_written : (kind : SetupKind) (input : List ℕ) (when : ℤ) → AreRightIn scheme (verified.Setup kind when) input answers
      → (answer : Written) → IsSetupWritten kind input when answers answer → IsSetupWrittenUnder scheme kind input when answers answer
  setup_written kind input when right = by_answer
    where
      told : (answer : Result SetupMessage SetupError) → IsSetupAnswered kind input when answers answer → IsSetupAnsweredUnder scheme kind input when answers answer
      told = setup_told kind input when (λ m c holds. right (anchor_questions c) (record { message = m; certificate = c; holds = holds; are = refl }))

      by_answer : (answer : Written) → IsSetupWritten kind input when answers answer → IsSetupWrittenUnder scheme kind input when answers answer
      by_answer (Ok output) is = (is.0, told (Ok is.0) is.1, is.2)
      by_answer (Err refusal) is = (is.0, told (Err is.0) is.1, is.2)

  -- ---- a request

  request_under : (r : CaRequest) → AreRight scheme (listed (request_questions r)) answers.values
      → (answer : Result (Unit {0}) VerifyError) → IsRequestVerified r answers answer → IsRequestVerifiedUnder scheme r answers answer
  request_under r right (Ok done) v = (request_decided scheme fits r answers right).0 v.so
  request_under r right (Err verify_errors.OtherQuestions) v = v
  request_under r right (Err verify_errors.Number) v = v
  request_under r right (Err (verify_errors.Validation e)) v = v
  request_under r right (Err verify_errors.Signature) v = λ signed. v.so ((request_decided scheme fits r answers right).1 signed)
  request_under r right (Err verify_errors.OutOfMemory) v = v

  request_written : (r : CaRequest) → AreRight scheme (listed (request_questions r)) answers.values → (answer : Written) → IsVerifiedAnswer r answers answer → IsVerifiedAnswerUnder scheme r answers answer
  request_written r right (Ok output) is = (request_under r right (Ok tt) is.0, is.1)
  request_written r right (Err refusal) is = (is.0, request_under r right (Err is.0) is.1, is.2)

  -- ---- a message

  module _ (octets : List ℕ) (list : List KeyFields) (right : (q : QuestionsFields) → AreAskedOf octets list q → AreRight scheme (listed q) answers.values)
      (kind : Kind) (when : ℤ) (last : Option ℤ) where
    received_under : (e : ReceiveError) → ByAnswers octets list answers (λ s. IsReceivedUnder s kind octets list when (Err e)) → IsReceivedUnder scheme kind octets list when (Err e)
    received_under e w = (decided scheme fits kind octets list when w.q answers (Err e) w.asked (right w.q w.asked)).0 w.answered.so

    refused_under : (e : AnsweredError) → RefusesByAnswers kind octets list when answers last e → RefusesUnder scheme kind octets list when answers last e
    refused_under errors.OtherQuestions w = w
    refused_under errors.Number w = w
    refused_under (errors.Receive receive.CmsDecode) w = w
    refused_under (errors.Receive receive.OutOfMemory) w = tt
    refused_under (errors.Receive receive.XmlError) w = received_under receive.XmlError w
    refused_under (errors.Receive receive.InvalidCsrSyntax) w = received_under receive.InvalidCsrSyntax w
    refused_under (errors.Receive receive.CertSyntax) w = received_under receive.CertSyntax w
    refused_under (errors.Receive (receive.Validation v)) w = received_under (receive.Validation v) w
    refused_under errors.NoTime w = refusal_too scheme fits kind octets list when last w.q answers guard.NoTime w.asked (right w.q w.asked) w.answered.so
    refused_under (errors.Replayed before seen) w = refusal_too scheme fits kind octets list when last w.q answers (guard.Replayed before seen) w.asked (right w.q w.asked) w.answered.so

    receipt_written : (answer : Written) → IsReceiveAnswer kind octets list when last answers answer → IsReceiveAnswerUnder scheme kind octets list when last answers answer
    receipt_written (Ok output) is = (is.0, receipt_too scheme fits kind octets list when last is.1.q answers is.0 is.1.asked (right is.1.q is.1.asked) is.1.answered.so, is.2)
    receipt_written (Err refusal) is = (is.0, refused_under is.0 is.1, is.2)

  checks_written : (octets : List ℕ) (key : KeyFields) (when : ℤ) → ((q : QuestionsFields) → AreAskedOf octets (key ∷ []) q → AreRight scheme (listed q) answers.values)
      → (answer : Written) → IsExplainAnswer octets key when answers answer → IsExplainAnswerUnder scheme octets key when answers answer
  checks_written octets key when right (Ok output) is =
      (is.0, (checks_decided scheme fits octets key when is.1.q answers is.0 is.1.asked (right is.1.q is.1.asked)).0 is.1.answered.so, is.2)
  checks_written octets key when right (Err refusal) is = is

  -- ---- all of them

  spelled_too : (is under : List ℕ → Written → Type 0) (o : Option (List ℕ)) → ((octets : List ℕ) → o ≡ Some octets → (answer : Written) → is octets answer → under octets answer)
      → (answer : Written) → OfSpelled is o answer → OfSpelled under o answer
  spelled_too is under None f answer w = w
  spelled_too is under (Some octets) f answer w = f octets refl answer w

  pub told_under : (what : Verified) (input : List ℕ) → AreRightIn scheme what input answers → (answer : Written) → IsVerifiedSo what answers input answer → IsVerifiedUnder scheme what answers input answer
  told_under (verified.Message kind when last list) input right =
      spelled_too (λ octets. IsReceiveAnswer kind octets list when last answers) (λ octets. IsReceiveAnswerUnder scheme kind octets list when last answers) (hexadecimal input)
      (λ octets spells. receipt_written octets list (λ q asked. right q (record { octets = octets; spells = spells; are = asked })) kind when last)
  told_under (verified.Checks when key) input right =
      spelled_too (λ octets. IsExplainAnswer octets key when answers) (λ octets. IsExplainAnswerUnder scheme octets key when answers) (hexadecimal input)
      (λ octets spells. checks_written octets key when (λ q asked. right q (record { octets = octets; spells = spells; are = asked })))
  told_under (verified.Setup kind when) input right = setup_written kind input when right
  told_under verified.Request input right =
      spelled_too (λ octets. IsRequestAnswer octets answers) (λ octets. IsRequestAnswerUnder scheme octets answers) (hexadecimal input) by_octets
    where
      by_octets : (octets : List ℕ) → hexadecimal input ≡ Some octets → (answer : Written) → IsRequestAnswer octets answers answer → IsRequestAnswerUnder scheme octets answers answer
      by_octets octets spells answer (inl none) = inl none
      by_octets octets spells answer (inr (r, begins, is)) =
          inr (r, begins, request_written r (right (request_questions r) (record { octets = octets; spells = spells; are = record { request = r; begins = begins; are = refl } })) answer is)
  told_under verified.Issue input right = by_input
    where
      by_input : (answer : Written) → IsIssueAnswer input answers answer → IsIssueAnswerUnder scheme input answers answer
      by_input answer (inl none) = inl none
      by_input answer (inr (r, asks, is)) = inr (r, asks, request_written r (right (request_questions r) (record { request = r; asks = asks; are = refl })) answer is)
