-- What each call answers.
use Rattle.std.specs.Prelude.{◌≡◌, ◌⊎◌, ℕ, ℤ, Bool, Option, Result, Ok, Err, List, [], ◌∷◌, map}
use Rattle.hex.specs.Hex.{encode_lower}
use Rattle.sha1.specs.Sha1.{sha1}
use Rattle.rpki_base.specs.PublicKey.{KeyFields, spelled_key}
use Rattle.rpki_base.specs.RpkiSignatureAlgorithm.{spelled_x509}
use Rattle.rpki_base.specs.SignedData.{spelled_data}
use Rattle.rpki_base.specs.Validity.{ValidityFields}
use Rattle.rpki_cert.specs.Making.{CaRequest}
use Rattle.rpki_idcert.specs.IdCert.{CertificateFields}
use Rattle.rpki_idcert.specs.Spelling.{spelled_tbs}
use Rattle.rpki_setup.specs.Answers.{BeginsCertificate}
use Rattle.rpki_ca.specs.Acceptance.{HoldsNoSigned, accepted_text}
use Rattle.rpki_ca.specs.Answer.{IsContentAnswer}
use Rattle.rpki_ca.specs.Setup.{IsNoSetup, ReadsSetup, setup_text}
use Rattle.rpki_ca.specs.declared.receiving.Kind.{Kind}
use Rattle.rpki_ca.specs.declared.refusals.Refusal.TheVariants as refusals
use Rattle.rpki_ca.specs.declared.setup_message.SetupKind.{SetupKind}
use Rattle.rpki_ca.specs.declared.setup_message.SetupMessage.{SetupMessage}
use Rattle.rpki_external.specs.Answers.{AnswersFields}
use Rattle.rpki_external.specs.Making.{CanPrepare, CanPrepareAnchor, CanPrepareRequest, PrepareAnchorFails, PrepareFails, PrepareRequestFails, anchor_fields, request_to_sign}
use Rattle.rpki_external.specs.Question.{QuestionsFields, request_questions}
use Rattle.rpki_external.specs.Records.{Tagged, records_of, tag_of, tagged}
use Rattle.rpki_external.specs.Receiving.{AreAskedOf, IsReceiptBy, RefusesByAnswers, RefusesChecks}
use Rattle.rpki_external.specs.Running.{AsksToIssue, FailsAs, HoldsNoRequestAtAll, IsFinishAnchorAnswer, IsFinishAnswer, IsFinishRequestAnswer, IsInspectAnswer, IsIssueAnswer, IsPrepareRefusal, IsRefusedAs, IsRequestAnswer, IsSetupWritten, OfMessage, RefusesIssue, RefusesText, Written, on_line, refusal_of_answered, refusal_of_setup_error}
use Rattle.rpki_external.specs.Verifying.{AreChecksBy, BeginsRequest, HoldsAnchor, IsSetupAsked}
use Rattle.rpki_external.specs.declared.keys_refusal.KeysRefusal.{KeysRefusal}
use Rattle.rpki_external.specs.declared.keys_refusal.KeysRefusal.TheVariants as keys
use Rattle.rpki_external.specs.declared.preparing.Plan.{Plan}
use Rattle.rpki_external.specs.declared.preparing.Signatures.{Signatures}
use Rattle.rpki_external.specs.declared.preparing_requests.RequestPlan.{RequestPlan}
use Rattle.rpki_external.specs.declared.question.Part.TheVariants.{Anchor, Request}
use Rattle.rpki_external.specs.declared.receiving.AnsweredError.{AnsweredError}
use Rattle.rpki_external.specs.declared.receiving.Receipt.{Receipt}
use Rattle.rpki_external.specs.declared.setting_up.SetupError.{SetupError}
use Rattle.rpki_c.specs.Arguments.{AreAnswersIn, AreFewKeysIn, IsKeyIn, IsKindIn, IsLastIn, IsMomentIn, IsPlanIn, IsRequestPlanIn, IsSetupKindIn, IsValidityIn, OfRead, octet_of}
use Rattle.rpki_c.specs.Records.{asked_records, message_records}

-- ---- answers of the program rpkikeys in other letters

-- with its octets in hexadecimal on a line the answer is so
abbrev pub SpelledSo : (Written → Type 0) → Written → Type 0
SpelledSo is (Ok octets) = is (Ok (on_line (encode_lower octets)))
SpelledSo is (Err refusal) = is (Err refusal)

-- with a line feed behind it the answer is so
abbrev pub OnLineSo : (Written → Type 0) → Written → Type 0
OnLineSo is (Ok text) = is (Ok (on_line text))
OnLineSo is (Err refusal) = is (Err refusal)

-- ---- refusals

-- a text has not the form that is asked for
abbrev pub no_xml : KeysRefusal
no_xml = keys.General refusals.XmlError

-- octets begin with no signed message
abbrev pub no_cms : KeysRefusal
no_cms = keys.General refusals.CmsDecode

-- the content has another digest than the signed one
abbrev pub other_digest : KeysRefusal
other_digest = keys.General (refusals.Validation 2)

-- ---- records

-- the answer is these records
abbrev pub AreRecords : List Tagged → Written → Type 0
AreRecords list answer = answer ≡ Ok (records_of list)

-- ---- questions

-- of the signed message with which the octets begin, under these keys
abbrev pub AsksMessage : List ℕ → List KeyFields → Written → Type 0
AsksMessage octets list answer =
    IsRefusedAs (λ refusal. (refusal ≡ no_cms) × HoldsNoSigned octets) answer
    ⊎ ((q : QuestionsFields) × AreAskedOf octets list q × AreRecords (asked_records q) answer)

-- `message_questions`
abbrev pub AsksMessageIn : List ℕ → List ℕ → Written → Type 0
AsksMessageIn message list = OfRead (AreFewKeysIn list) (AsksMessage message)

-- why nothing is asked of the certificate in a setup message
abbrev pub RefusesToAsk : SetupKind → List ℕ → KeysRefusal → Type 0
RefusesToAsk kind text refusal =
    (e : SetupError) × IsSetupAsked kind text (Err e) × (refusal ≡ refusal_of_setup_error e)

-- of the certificate in the setup message that the text is
abbrev pub AsksSetup : SetupKind → List ℕ → Written → Type 0
AsksSetup kind text answer =
    IsRefusedAs (RefusesToAsk kind text) answer
    ⊎ ((q : QuestionsFields) × IsSetupAsked kind text (Ok q)
    × AreRecords (asked_records q) answer)

-- `setup_questions`
abbrev pub AsksSetupIn : ℤ → List ℕ → Written → Type 0
AsksSetupIn kind text = OfRead (IsSetupKindIn kind) (λ k. AsksSetup k text)

-- why no request begins the octets
abbrev pub RefusesRequest : List ℕ → KeysRefusal → Type 0
RefusesRequest octets refusal =
    (refusal ≡ keys.General refusals.InvalidCsrSyntax) × HoldsNoRequestAtAll octets

-- `request_questions`: of the certificate request with which the octets begin
abbrev pub AsksRequest : List ℕ → Written → Type 0
AsksRequest octets answer =
    IsRefusedAs (RefusesRequest octets) answer
    ⊎ ((r : CaRequest) × BeginsRequest octets r
    × AreRecords (asked_records (request_questions r)) answer)

-- `issue_questions`: of the request in the issue request that the text is
abbrev pub AsksIssue : List ℕ → Written → Type 0
AsksIssue text answer =
    IsRefusedAs (RefusesIssue text) answer
    ⊎ ((r : CaRequest) × AsksToIssue text r
    × AreRecords (asked_records (request_questions r)) answer)

-- ---- what is received

-- the receipt by answers, or why there is none
abbrev pub Receives : Kind → List ℕ → List KeyFields → ℤ → Option ℤ → AnswersFields
    → Result Receipt KeysRefusal → Type 0
Receives kind octets list when last answers (Ok r) =
    IsReceiptBy kind octets list when answers last r
Receives kind octets list when last answers (Err refusal) =
    (e : AnsweredError) × RefusesByAnswers kind octets list when answers last e
    × (refusal ≡ refusal_of_answered e)

-- `message_receive`
abbrev pub ReceivesIn : ℤ → List ℕ → List ℕ → ℤ → ℤ → ℤ → List ℕ → List ℕ
    → Result Receipt KeysRefusal → Type 0
ReceivesIn kind message list when has_last last digest answers =
    OfRead (IsKindIn kind) (λ k.
    OfRead (AreFewKeysIn list) (λ l.
    OfRead (IsMomentIn when) (λ w.
    OfRead (IsLastIn has_last last) (λ before.
    OfRead (AreAnswersIn digest answers) (λ a. Receives k message l w before a)))))

-- an octet for each of the fourteen checks, 1 where it holds; or why they aren't told
abbrev pub Explains : List ℕ → KeyFields → ℤ → AnswersFields → Written → Type 0
Explains octets key when answers (Ok text) =
    (list : List Bool) × AreChecksBy octets key when answers list × (text ≡ map octet_of list)
Explains octets key when answers (Err refusal) =
    (e : AnsweredError) × RefusesChecks octets key answers e × (refusal ≡ refusal_of_answered e)

-- `message_explain`
abbrev pub ExplainsIn : List ℕ → List ℕ → ℤ → List ℕ → List ℕ → Written → Type 0
ExplainsIn message key when digest answers =
    OfRead (IsKeyIn key) (λ k.
    OfRead (IsMomentIn when) (λ w.
    OfRead (AreAnswersIn digest answers) (λ a. Explains message k w a)))

-- `message_inspect`
abbrev pub Inspects : List ℕ → Written → Type 0
Inspects message = OnLineSo (IsInspectAnswer message)

-- `message_content`: as `content` of the program rpkica
abbrev pub ReadsContent : List ℕ → Written → Type 0
ReadsContent message (Ok text) = IsContentAnswer message (Ok text)
ReadsContent message (Err (keys.General refusal)) = IsContentAnswer message (Err refusal)
ReadsContent message (Err other) = ⊥

-- ---- what is to be signed

-- why a message isn't prepared: the text is none of the kind, or it fails
abbrev pub RefusesToPrepare : Kind → List ℕ → Plan → KeysRefusal → Type 0
RefusesToPrepare kind text p refusal =
    RefusesText kind text refusal
    ⊎ FailsAs kind text (λ content error. PrepareFails content p error) refusal

-- what is to be signed of the message that the text is
abbrev pub Prepares : Kind → List ℕ → Plan → Written → Type 0
Prepares kind text p answer =
    IsRefusedAs (RefusesToPrepare kind text p) answer
    ⊎ OfMessage kind text (λ m. CanPrepare (accepted_text m) p
    × AreRecords (message_records (accepted_text m) p) answer)

-- `message_prepare`
abbrev pub PreparesIn : ℤ → List ℕ → ℤ → List ℕ → List ℕ → List ℕ → Written → Type 0
PreparesIn kind text when serial issuing_key one_off_key =
    OfRead (IsKindIn kind) (λ k.
    OfRead (IsPlanIn when serial issuing_key one_off_key) (λ p. Prepares k text p))

-- three signatures
abbrev pub signatures_of : List ℕ → List ℕ → List ℕ → Signatures
signatures_of attributes crl certificate =
    record { attributes = attributes; crl = crl; certificate = certificate }

-- `message_finish`
abbrev pub FinishesIn : ℤ → List ℕ → ℤ → List ℕ → List ℕ → List ℕ → Signatures → Written → Type 0
FinishesIn kind text when serial issuing_key one_off_key s =
    OfRead (IsKindIn kind) (λ k.
    OfRead (IsPlanIn when serial issuing_key one_off_key) (λ p.
    SpelledSo (IsFinishAnswer k text p s)))

-- what is to be signed of the key's own certificate
abbrev pub PreparesAnchor : ValidityFields → KeyFields → Written → Type 0
PreparesAnchor validity key answer =
    IsRefusedAs (IsPrepareRefusal (PrepareAnchorFails key)) answer
    ⊎ (CanPrepareAnchor key
    × AreRecords (tagged (tag_of Anchor) (spelled_tbs (anchor_fields key validity)) ∷ []) answer)

-- `anchor_prepare`
abbrev pub PreparesAnchorIn : ℤ → ℤ → List ℕ → Written → Type 0
PreparesAnchorIn not_before not_after key =
    OfRead (IsValidityIn not_before not_after) (λ v. OfRead (IsKeyIn key) (PreparesAnchor v))

-- `anchor_finish`
abbrev pub FinishesAnchorIn : ℤ → ℤ → List ℕ → List ℕ → Written → Type 0
FinishesAnchorIn not_before not_after key signature =
    OfRead (IsValidityIn not_before not_after) (λ v.
    OfRead (IsKeyIn key) (λ k. SpelledSo (IsFinishAnchorAnswer v k signature)))

-- what is to be signed of a certificate request
abbrev pub PreparesRequest : RequestPlan → Written → Type 0
PreparesRequest p answer =
    IsRefusedAs (IsPrepareRefusal (PrepareRequestFails p)) answer
    ⊎ (CanPrepareRequest p
    × AreRecords (tagged (tag_of Request) (request_to_sign p) ∷ []) answer)

-- `request_prepare`
abbrev pub PreparesRequestIn : List ℕ → List ℕ → List ℕ → List ℕ → Written → Type 0
PreparesRequestIn key repository manifest notify =
    OfRead (IsRequestPlanIn key repository manifest notify) PreparesRequest

-- `request_finish`
abbrev pub FinishesRequestIn : List ℕ → List ℕ → List ℕ → List ℕ → List ℕ → Written → Type 0
FinishesRequestIn key repository manifest notify signature =
    OfRead (IsRequestPlanIn key repository manifest notify) (λ p.
    SpelledSo (IsFinishRequestAnswer p signature))

-- ---- setup messages

-- `setup_receive`: the message anew, if its certificate is verified by answers
abbrev pub ReceivesSetupIn : ℤ → List ℕ → ℤ → List ℕ → List ℕ → Written → Type 0
ReceivesSetupIn kind text when digest answers =
    OfRead (IsSetupKindIn kind) (λ k.
    OfRead (IsMomentIn when) (λ w.
    OfRead (AreAnswersIn digest answers) (λ a. OnLineSo (IsSetupWritten k text w a))))

-- the setup message that the text is, anew, whoever its certificate is of
abbrev pub RewritesSetup : SetupKind → List ℕ → Written → Type 0
RewritesSetup kind text (Ok output) =
    (m : SetupMessage) × ReadsSetup kind text m × (output ≡ setup_text m)
RewritesSetup kind text (Err refusal) =
    (refusal ≡ no_xml) × IsNoSetup kind text

-- `setup_read`
abbrev pub RewritesSetupIn : ℤ → List ℕ → Written → Type 0
RewritesSetupIn kind text = OfRead (IsSetupKindIn kind) (λ k. RewritesSetup k text)

-- the certificate in the setup message that the text is
abbrev pub GivesAnchor : SetupKind → List ℕ → Written → Type 0
GivesAnchor kind text (Ok output) =
    (m : SetupMessage) × (c : CertificateFields) × HoldsAnchor kind text m c
    × (output ≡ spelled_data spelled_x509 c.signed)
GivesAnchor kind text (Err refusal) = RefusesToAsk kind text refusal

-- `setup_anchor`
abbrev pub GivesAnchorIn : ℤ → List ℕ → Written → Type 0
GivesAnchorIn kind text = OfRead (IsSetupKindIn kind) (λ k. GivesAnchor k text)

-- why no identity certificate begins the octets
abbrev pub RefusesCertificate : List ℕ → KeysRefusal → Type 0
RefusesCertificate octets refusal =
    (refusal ≡ keys.General refusals.InvalidTaCertEncoding)
    × ((c : CertificateFields) → BeginsCertificate octets c → ⊥)

-- `anchor_key`: the key of the identity certificate with which the octets begin
abbrev pub GivesAnchorKey : List ℕ → Written → Type 0
GivesAnchorKey octets (Ok output) =
    (c : CertificateFields) × BeginsCertificate octets c × (output ≡ spelled_key c.tbs.key)
GivesAnchorKey octets (Err refusal) = RefusesCertificate octets refusal

-- ---- certificate requests, and texts

-- `request_verify`
abbrev pub VerifiesRequestIn : List ℕ → List ℕ → List ℕ → Written → Type 0
VerifiesRequestIn octets digest answers =
    OfRead (AreAnswersIn digest answers) (λ a. SpelledSo (IsRequestAnswer octets a))

-- `issue_verify`
abbrev pub VerifiesIssueIn : List ℕ → List ℕ → List ℕ → Written → Type 0
VerifiesIssueIn text digest answers =
    OfRead (AreAnswersIn digest answers) (λ a. SpelledSo (IsIssueAnswer text a))

-- the message of the protocol that the text is, anew
abbrev pub RewritesText : Kind → List ℕ → Written → Type 0
RewritesText kind text (Ok output) = OfMessage kind text (λ m. output ≡ accepted_text m)
RewritesText kind text (Err refusal) = RefusesText kind text refusal

-- `text_read`
abbrev pub RewritesTextIn : ℤ → List ℕ → Written → Type 0
RewritesTextIn kind text = OfRead (IsKindIn kind) (λ k. RewritesText k text)

-- the SHA-1 of the key's bits (RFC 5280, 4.2.1.2)
abbrev pub IsIdentifierOf : KeyFields → Written → Type 0
IsIdentifierOf key (Ok output) = output ≡ sha1 key.bits
IsIdentifierOf key (Err refusal) = ⊥

-- `key_identifier`
abbrev pub GivesIdentifierIn : List ℕ → Written → Type 0
GivesIdentifierIn key = OfRead (IsKeyIn key) IsIdentifierOf
