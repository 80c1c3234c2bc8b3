-- What is verified by answers, beside the receipt of messages: a trust anchor's certificate, a
-- request, and each of a message's checks.
use Rattle.std.specs.Prelude.{◌≡◌, ◌↔◌, false, true, ℕ, ℤ, Bool, Decides, List, [], ◌∷◌, Result, Ok, Err, ⊤}
use Rattle.rpki_base.specs.Checks.{first_failure, failing, IsSigned}
use Rattle.rpki_base.specs.PublicKey.{KeyFields}
use Rattle.rpki_base.specs.Scheme.{Relation}
use Rattle.rpki_base.specs.declared.validation.ValidationError.{ValidationError}
use Rattle.rpki_base.specs.RpkiSignatureAlgorithm.{x509_algorithm}
use Rattle.rpki_cert.specs.Csr.{certification_request}
use Rattle.rpki_cert.specs.CsrAttributes.{ca_attributes}
use Rattle.rpki_cert.specs.Making.{CaRequest}
use Rattle.rpki_der.specs.declared.mode.Mode.TheVariants.{Der}
use Rattle.rpki_der.specs.Takes.{BeginsAs}
use Rattle.rpki_der.specs.Whole.{whole_of}
use Rattle.rpki_idcert.specs.Checks.{IsTaBelieved, names_itself, ta_checks, ta_kind}
use Rattle.rpki_idcert.specs.IdCert.{CertificateFields}
use Rattle.rpki_sigmsg.specs.Beginning.{BeginsSigned}
use Rattle.rpki_sigmsg.specs.Checks.{AreChecks}
use Rattle.rpki_sigmsg.specs.Message.{MessageFields}
use Rattle.rpki_setup.specs.Answers.{BeginsCertificate}
use Rattle.rpki_ca.specs.Setup.{IsNoSetup, ReadsSetup, certificate_octets}
use Rattle.rpki_ca.specs.declared.setup_message.SetupKind.{SetupKind}
use Rattle.rpki_ca.specs.declared.setup_message.SetupMessage.{SetupMessage}
use Rattle.rpki_external.specs.declared.setting_up.SetupError.{SetupError}
use Rattle.rpki_external.specs.declared.setting_up.SetupError.TheVariants as setup_errors
use Rattle.rpki_external.specs.declared.answers.AnswersError.{AnswersError}
use Rattle.rpki_external.specs.declared.answers.AnswersError.TheVariants as answers_errors
use Rattle.rpki_external.specs.declared.verifying.VerifyError.{VerifyError}
use Rattle.rpki_external.specs.declared.verifying.VerifyError.TheVariants as errors
use Rattle.rpki_external.specs.Answers.{AnswersFields, IsAnsweredSo, RefusesAnswers}
use Rattle.rpki_external.specs.Question.{QuestionsFields, anchor_questions, request_questions}
use Rattle.rpki_external.specs.Receiving.{ByAnswers}

-- ---- a trust anchor's certificate (RFC 8183, 5)

-- what the five checks answer: Ok exactly where it is believed, and else the first check that
-- fails, whatever the scheme answers; where it doesn't name itself as its issuer, the scheme isn't
-- asked
pub record IsTaValidation (scheme : Relation) (c : CertificateFields) (when : ℤ)
    (answer : Result (Unit {0}) ValidationError) : Type 0 where
  pub believed : (answer ≡ Ok tt) ↔ IsTaBelieved scheme c when
  pub first_failing : (q : Bool) → Decides q (IsSigned scheme c c.tbs.key)
      → answer ≡ failing ta_kind (first_failure 1 (ta_checks c when q))
  pub unasked : names_itself c.tbs ≡ false
      → answer ≡ failing ta_kind (first_failure 1 (ta_checks c when true))

-- it is verified by answers, or why it isn't: the answers are to other questions, or a check fails
abbrev pub IsAnchorVerified : CertificateFields → ℤ → AnswersFields
    → Result (Unit {0}) VerifyError → Type 0
IsAnchorVerified c when answers (Ok done) =
    IsAnsweredSo answers (anchor_questions c) (λ scheme. IsTaValidation scheme c when (Ok tt))
IsAnchorVerified c when answers (Err errors.OtherQuestions) =
    RefusesAnswers answers (anchor_questions c) answers_errors.OtherQuestions
IsAnchorVerified c when answers (Err errors.Number) =
    RefusesAnswers answers (anchor_questions c) answers_errors.Number
IsAnchorVerified c when answers (Err (errors.Validation e)) =
    IsAnsweredSo answers (anchor_questions c) (λ scheme. IsTaValidation scheme c when (Err e))
IsAnchorVerified c when answers (Err errors.Signature) = ⊥
IsAnchorVerified c when answers (Err errors.OutOfMemory) = ⊤

-- the same under a scheme for which the answers are right
abbrev pub IsAnchorVerifiedUnder : Relation → CertificateFields → ℤ → AnswersFields
    → Result (Unit {0}) VerifyError → Type 0
IsAnchorVerifiedUnder scheme c when answers (Ok done) = IsTaValidation scheme c when (Ok tt)
IsAnchorVerifiedUnder scheme c when answers (Err errors.OtherQuestions) =
    RefusesAnswers answers (anchor_questions c) answers_errors.OtherQuestions
IsAnchorVerifiedUnder scheme c when answers (Err errors.Number) =
    RefusesAnswers answers (anchor_questions c) answers_errors.Number
IsAnchorVerifiedUnder scheme c when answers (Err (errors.Validation e)) =
    IsTaValidation scheme c when (Err e)
IsAnchorVerifiedUnder scheme c when answers (Err errors.Signature) = ⊥
IsAnchorVerifiedUnder scheme c when answers (Err errors.OutOfMemory) = ⊤

-- ---- the certificate in a setup message (RFC 8183, 5)

-- the octets read as this setup message of the kind, and the octets that stand for its certificate
-- begin with this one
pub record HoldsAnchor (kind : SetupKind) (octets : List ℕ) (m : SetupMessage)
    (c : CertificateFields) : Type 0 where
  pub reads : ReadsSetup kind octets m
  pub begins : BeginsCertificate (certificate_octets m) c

-- the octets read as a setup message of the kind, and the octets that stand for its certificate
-- begin with none
pub record HoldsNoAnchorIn (kind : SetupKind) (octets : List ℕ) : Type 0 where
  pub message : SetupMessage
  pub reads : ReadsSetup kind octets message
  pub none : (c : CertificateFields) → BeginsCertificate (certificate_octets message) c → ⊥

-- why octets aren't read as a setup message of the kind, memory aside
abbrev pub RefusesSetup : SetupKind → List ℕ → SetupError → Type 0
RefusesSetup kind octets setup_errors.XmlError = IsNoSetup kind octets
RefusesSetup kind octets setup_errors.OutOfMemory = ⊤
RefusesSetup kind octets other = ⊥

-- why octets aren't read as a certificate, memory aside
abbrev pub RefusesCertificateOctets : List ℕ → SetupError → Type 0
RefusesCertificateOctets octets setup_errors.InvalidTaCertEncoding =
    (c : CertificateFields) → BeginsCertificate octets c → ⊥
RefusesCertificateOctets octets setup_errors.OutOfMemory = ⊤
RefusesCertificateOctets octets other = ⊥

-- these are what is asked of the certificate
pub record AreSetupQuestions (kind : SetupKind) (octets : List ℕ) (q : QuestionsFields) : Type 0
  where
    pub message : SetupMessage
    pub certificate : CertificateFields
    pub holds : HoldsAnchor kind octets message certificate
    pub are : q ≡ anchor_questions certificate

-- what is asked of the certificate, or why nothing is
abbrev pub IsSetupAsked : SetupKind → List ℕ → Result QuestionsFields SetupError → Type 0
IsSetupAsked kind octets (Ok q) = AreSetupQuestions kind octets q
IsSetupAsked kind octets (Err setup_errors.XmlError) = IsNoSetup kind octets
IsSetupAsked kind octets (Err setup_errors.InvalidTaCertEncoding) = HoldsNoAnchorIn kind octets
IsSetupAsked kind octets (Err (setup_errors.Verify e)) = ⊥
IsSetupAsked kind octets (Err setup_errors.OutOfMemory) = ⊤

-- the certificate of this message is verified so by answers
pub record IsSetupVerified (kind : SetupKind) (octets : List ℕ) (when : ℤ) (answers : AnswersFields)
    (m : SetupMessage) (answer : Result (Unit {0}) VerifyError) : Type 0 where
  pub certificate : CertificateFields
  pub holds : HoldsAnchor kind octets m certificate
  pub verified : IsAnchorVerified certificate when answers answer

-- the message, whose certificate is verified by answers, or why there is none; of want of memory
-- nothing is said
abbrev pub IsSetupAnswered : SetupKind → List ℕ → ℤ → AnswersFields
    → Result SetupMessage SetupError → Type 0
IsSetupAnswered kind octets when answers (Ok m) =
    IsSetupVerified kind octets when answers m (Ok tt)
IsSetupAnswered kind octets when answers (Err setup_errors.XmlError) = IsNoSetup kind octets
IsSetupAnswered kind octets when answers (Err setup_errors.InvalidTaCertEncoding) =
    HoldsNoAnchorIn kind octets
IsSetupAnswered kind octets when answers (Err (setup_errors.Verify errors.OutOfMemory)) = ⊥
IsSetupAnswered kind octets when answers (Err (setup_errors.Verify e)) =
    (m : SetupMessage) × IsSetupVerified kind octets when answers m (Err e)
IsSetupAnswered kind octets when answers (Err setup_errors.OutOfMemory) = ⊤

-- the certificate of this message is verified so under a scheme
pub record IsSetupVerifiedUnder (scheme : Relation) (kind : SetupKind) (octets : List ℕ)
    (when : ℤ) (answers : AnswersFields) (m : SetupMessage)
    (answer : Result (Unit {0}) VerifyError) : Type 0 where
  pub certificate : CertificateFields
  pub holds : HoldsAnchor kind octets m certificate
  pub verified : IsAnchorVerifiedUnder scheme certificate when answers answer

-- the same as by answers, under a scheme for which they are right
abbrev pub IsSetupAnsweredUnder : Relation → SetupKind → List ℕ → ℤ → AnswersFields
    → Result SetupMessage SetupError → Type 0
IsSetupAnsweredUnder scheme kind octets when answers (Ok m) =
    IsSetupVerifiedUnder scheme kind octets when answers m (Ok tt)
IsSetupAnsweredUnder scheme kind octets when answers (Err setup_errors.XmlError) =
    IsNoSetup kind octets
IsSetupAnsweredUnder scheme kind octets when answers (Err setup_errors.InvalidTaCertEncoding) =
    HoldsNoAnchorIn kind octets
IsSetupAnsweredUnder scheme kind octets when answers
    (Err (setup_errors.Verify errors.OutOfMemory)) = ⊥
IsSetupAnsweredUnder scheme kind octets when answers (Err (setup_errors.Verify e)) =
    (m : SetupMessage) × IsSetupVerifiedUnder scheme kind octets when answers m (Err e)
IsSetupAnsweredUnder scheme kind octets when answers (Err setup_errors.OutOfMemory) = ⊤

-- ---- a certificate request (RFC 2986, 4.2)

-- the octets begin with this request, in DER
abbrev pub BeginsRequest : List ℕ → CaRequest → Type 0
BeginsRequest octets r =
    BeginsAs (certification_request ca_attributes (whole_of x509_algorithm) Der) Der octets r

-- the request is signed under the key that it names
abbrev pub IsRequestSigned : Relation → CaRequest → Type 0
IsRequestSigned scheme r = IsSigned scheme r r.tbs.key

-- it is verified by answers, or why it isn't: the answers are to other questions, or the signature
-- doesn't hold
abbrev pub IsRequestVerified : CaRequest → AnswersFields → Result (Unit {0}) VerifyError → Type 0
IsRequestVerified r answers (Ok done) =
    IsAnsweredSo answers (request_questions r) (λ scheme. IsRequestSigned scheme r)
IsRequestVerified r answers (Err errors.OtherQuestions) =
    RefusesAnswers answers (request_questions r) answers_errors.OtherQuestions
IsRequestVerified r answers (Err errors.Number) =
    RefusesAnswers answers (request_questions r) answers_errors.Number
IsRequestVerified r answers (Err (errors.Validation e)) = ⊥
IsRequestVerified r answers (Err errors.Signature) =
    IsAnsweredSo answers (request_questions r) (λ scheme. IsRequestSigned scheme r → ⊥)
IsRequestVerified r answers (Err errors.OutOfMemory) = ⊤

-- the same under a scheme for which the answers are right
abbrev pub IsRequestVerifiedUnder : Relation → CaRequest → AnswersFields
    → Result (Unit {0}) VerifyError → Type 0
IsRequestVerifiedUnder scheme r answers (Ok done) = IsRequestSigned scheme r
IsRequestVerifiedUnder scheme r answers (Err errors.OtherQuestions) =
    RefusesAnswers answers (request_questions r) answers_errors.OtherQuestions
IsRequestVerifiedUnder scheme r answers (Err errors.Number) =
    RefusesAnswers answers (request_questions r) answers_errors.Number
IsRequestVerifiedUnder scheme r answers (Err (errors.Validation e)) = ⊥
IsRequestVerifiedUnder scheme r answers (Err errors.Signature) = IsRequestSigned scheme r → ⊥
IsRequestVerifiedUnder scheme r answers (Err errors.OutOfMemory) = ⊤

-- ---- the checks of a message

-- the octets begin with a signed message, and these are its fourteen checks
pub record AreChecksOf (scheme : Relation) (octets : List ℕ) (key : KeyFields) (when : ℤ)
    (list : List Bool) : Type 0 where
  pub signed : MessageFields
  pub begins : BeginsSigned octets signed
  pub are : AreChecks scheme signed key when list

-- these are told by answers to the message's questions under this key alone
abbrev pub AreChecksBy : List ℕ → KeyFields → ℤ → AnswersFields → List Bool → Type 0
AreChecksBy octets key when answers list =
    ByAnswers octets (key ∷ []) answers (λ scheme. AreChecksOf scheme octets key when list)

-- ---- errors that become others

-- how it is passed on that answers are to other questions
abbrev pub verify_error_of : AnswersError → VerifyError
verify_error_of answers_errors.OtherQuestions = errors.OtherQuestions
verify_error_of answers_errors.Number = errors.Number
verify_error_of answers_errors.OutOfMemory = errors.OutOfMemory

-- how it is passed on that a certificate or a request isn't verified
abbrev pub setup_error_of : VerifyError → SetupError
setup_error_of errors.OutOfMemory = setup_errors.OutOfMemory
setup_error_of error = setup_errors.Verify error
