-- What is answered to words and input.
use Rattle.std.specs.Prelude.{◌≡◌, ◌⊎◌, ℕ, ℤ, Bool, Option, None, Some, Result, Ok, Err, List, [], ◌∷◌, ◌++◌, codes, map, ⊤}
use Rattle.std.specs.Fmt.{decimal, signed_decimal}
use Rattle.std.specs.Io.KnownBytes.{Appends}
use Rattle.hex.specs.Hex.{encode_lower}
use Rattle.rpki_base.specs.PublicKey.{KeyFields, spelled_key}
use Rattle.rpki_base.specs.RpkiSignatureAlgorithm.{spelled_x509}
use Rattle.rpki_base.specs.Scheme.{Relation}
use Rattle.rpki_base.specs.SignedData.{CanSpellSigned, spelled_data}
use Rattle.rpki_base.specs.Validity.{ValidityFields}
use Rattle.rpki_cert.specs.Making.{CaRequest}
use Rattle.rpki_der.specs.declared.error.DecodeError.{DecodeError}
use Rattle.rpki_der.specs.declared.error.DecodeError.TheVariants as decode
use Rattle.rpki_idcert.specs.Spelling.{spelled_tbs}
use Rattle.rpki_provisioning.specs.declared.payload.Payload.{Payload}
use Rattle.rpki_provisioning.specs.declared.payload.Payload.TheVariants as payloads
use Rattle.rpki_sigmsg.specs.Beginning.{BeginsSigned}
use Rattle.rpki_sigmsg.specs.Making.{UnsignedFields, made_covered}
use Rattle.rpki_sigmsg.specs.Message.{MessageFields}
use Rattle.rpki_sigmsg.specs.Spelling.{CanSpellMessage, rewritten, spelled_tbs_crl}
use Rattle.rpki_ca.specs.Acceptance.{HoldsNoSigned, ReadsAs, accepted_text, refusal_of}
use Rattle.rpki_ca.specs.Answer.{Ends}
use Rattle.rpki_ca.specs.Creation.{RefusesInput}
use Rattle.rpki_ca.specs.Hexadecimal.{hexadecimal}
use Rattle.rpki_ca.specs.Lines.{EndsWith, answer_lines, digit_of}
use Rattle.rpki_signer.specs.Limits.{IsShort}
use Rattle.rpki_ca.specs.Seen.{HasFailed, Seen}
use Rattle.rpki_ca.specs.Setup.{setup_text}
use Rattle.rpki_ca.specs.declared.receiving.Kind.{Kind}
use Rattle.rpki_ca.specs.declared.receiving.Kind.TheVariants as kinds
use Rattle.rpki_ca.specs.declared.receiving.Received.{Received}
use Rattle.rpki_ca.specs.declared.receiving.Received.TheVariants as received
use Rattle.rpki_ca.specs.declared.refusals.Refusal.TheVariants as refusals
use Rattle.rpki_ca.specs.declared.setup_message.SetupKind.{SetupKind}
use Rattle.rpki_ca.specs.declared.setup_message.SetupMessage.{SetupMessage}
use Rattle.rpki_external.specs.declared.keys_refusal.KeysRefusal.{KeysRefusal}
use Rattle.rpki_external.specs.declared.keys_refusal.KeysRefusal.TheVariants as keys
use Rattle.rpki_external.specs.declared.preparing.Plan.{Plan}
use Rattle.rpki_external.specs.declared.preparing.PrepareError.{PrepareError}
use Rattle.rpki_external.specs.declared.preparing.PrepareError.TheVariants as prepare
use Rattle.rpki_external.specs.declared.preparing.Signatures.{Signatures}
use Rattle.rpki_external.specs.declared.preparing_requests.RequestPlan.{RequestPlan}
use Rattle.rpki_external.specs.declared.receiving.AnsweredError.{AnsweredError}
use Rattle.rpki_external.specs.declared.receiving.AnsweredError.TheVariants as answered
use Rattle.rpki_external.specs.declared.receiving.Receipt.{Receipt}
use Rattle.rpki_external.specs.declared.setting_up.SetupError.{SetupError}
use Rattle.rpki_external.specs.declared.setting_up.SetupError.TheVariants as setup
use Rattle.rpki_external.specs.declared.task.Asked.{Asked}
use Rattle.rpki_external.specs.declared.task.Asked.TheVariants as asked
use Rattle.rpki_external.specs.declared.task.Finished.{Finished}
use Rattle.rpki_external.specs.declared.task.Finished.TheVariants as finished_task
use Rattle.rpki_external.specs.declared.task.Prepared.{Prepared}
use Rattle.rpki_external.specs.declared.task.Prepared.TheVariants as prepared
use Rattle.rpki_external.specs.declared.task.Verified.{Verified}
use Rattle.rpki_external.specs.declared.task.Verified.TheVariants as verified
use Rattle.rpki_external.specs.declared.task.Task.{Task}
use Rattle.rpki_external.specs.declared.task.Task.TheVariants as tasks
use Rattle.rpki_external.specs.declared.verifying.VerifyError.{VerifyError}
use Rattle.rpki_external.specs.declared.verifying.VerifyError.TheVariants as verify
use Rattle.rpki_external.specs.Answers.{AnswersFields, AreRight, AreTo}
use Rattle.rpki_external.specs.Inspection.{IsInspectedAs}
use Rattle.rpki_external.specs.KeysRefusal.{keys_name_of, keys_status_of}
use Rattle.rpki_external.specs.Making.{AreShort, IsAcceptedSo, CanPrepare, CanPrepareAnchor, CanPrepareRequest, FinishAnchorFails, FinishFails, FinishRequestFails, PrepareAnchorFails, PrepareFails, PrepareRequestFails, anchor_fields, attributes_to_sign, certificate_to_sign, crl_to_sign, finished, finished_anchor, finished_request, request_to_sign}
use Rattle.rpki_external.specs.Question.{QuestionsFields, listed, request_questions}
use Rattle.rpki_external.specs.Receiving.{AreAskedOf, IsLater, IsReceipt, IsReceiptBy, RefusesByAnswers, RefusesChecks, RefusesUnder}
use Rattle.rpki_external.specs.Records.{digest_of}
use Rattle.rpki_external.specs.Spelling.{question_lines}
use Rattle.rpki_external.specs.Verifying.{AreChecksBy, AreChecksOf, AreSetupQuestions, BeginsRequest, IsRequestVerified, IsRequestVerifiedUnder, IsSetupAnswered, IsSetupAnsweredUnder, IsSetupAsked}

-- ---- how errors are answered

-- how it is answered that something isn't verified
abbrev pub refusal_of_verify : VerifyError → KeysRefusal
refusal_of_verify verify.OtherQuestions = keys.OtherQuestions
refusal_of_verify verify.Number = keys.General refusals.Usage
refusal_of_verify (verify.Validation e) = keys.General refusals.InvalidTaCert
refusal_of_verify verify.Signature = keys.Signature
refusal_of_verify verify.OutOfMemory = keys.General refusals.OutOfMemory

-- how an error of a setup message is answered
abbrev pub refusal_of_setup_error : SetupError → KeysRefusal
refusal_of_setup_error setup.XmlError = keys.General refusals.XmlError
refusal_of_setup_error setup.InvalidTaCertEncoding = keys.General refusals.InvalidTaCertEncoding
refusal_of_setup_error (setup.Verify e) = refusal_of_verify e
refusal_of_setup_error setup.OutOfMemory = keys.General refusals.OutOfMemory

-- how an error of receipt by answers is answered
abbrev pub refusal_of_answered : AnsweredError → KeysRefusal
refusal_of_answered answered.OtherQuestions = keys.OtherQuestions
refusal_of_answered answered.Number = keys.General refusals.Usage
refusal_of_answered (answered.Receive error) = keys.General (refusal_of error)
refusal_of_answered answered.NoTime = keys.NoTime
refusal_of_answered (answered.Replayed last seen) = keys.Replayed last seen

-- how an error of preparation is answered; the URIs of words are lawful, and one that its slash
-- makes too long asks for nothing
abbrev pub refusal_of_prepare : PrepareError → KeysRefusal
refusal_of_prepare prepare.Moment = keys.General refusals.Moment
refusal_of_prepare prepare.TooLong = keys.General refusals.TooLong
refusal_of_prepare prepare.IncompatibleKey = keys.General refusals.IncompatibleKey
refusal_of_prepare prepare.KeyReused = keys.General refusals.KeyReused
refusal_of_prepare (prepare.Uri e) = keys.General refusals.Usage
refusal_of_prepare prepare.OutOfMemory = keys.General refusals.OutOfMemory

-- how it is answered that octets begin with no signed message
abbrev pub refusal_of_no_message : DecodeError → KeysRefusal
refusal_of_no_message decode.Malformed = keys.General refusals.CmsDecode
refusal_of_no_message decode.OutOfMemory = keys.General refusals.OutOfMemory

-- ---- the commands, each of whose answers is what is written, with its line feeds, or a refusal

-- what is written, or a refusal
abbrev pub Written : Type 0
Written = Result (List ℕ) KeysRefusal

-- the lines of questions, and behind them the word digest and their digest
abbrev pub asked_lines : QuestionsFields → List ℕ
asked_lines q =
    answer_lines (question_lines q ++ (codes "digest " ++ encode_lower (digest_of q)) ∷ [])

-- a text on a line
abbrev pub on_line : List ℕ → List ℕ
on_line text = text ++ 10 ∷ []

-- `questions message`: those of the signed message with which the octets begin
abbrev pub IsQuestionsAnswer : List ℕ → List KeyFields → Written → Type 0
IsQuestionsAnswer octets list (Ok output) =
    (q : QuestionsFields) × AreAskedOf octets list q × (output ≡ asked_lines q)
IsQuestionsAnswer octets list (Err (keys.General refusals.CmsDecode)) = HoldsNoSigned octets
IsQuestionsAnswer octets list (Err other) = ⊥

-- `questions setup`: those of the certificate in the setup message that the input is
abbrev pub IsSetupQuestionsAnswer : SetupKind → List ℕ → Written → Type 0
IsSetupQuestionsAnswer kind input (Ok output) =
    (q : QuestionsFields) × IsSetupAsked kind input (Ok q) × (output ≡ asked_lines q)
IsSetupQuestionsAnswer kind input (Err refusal) =
    (e : SetupError) × IsSetupAsked kind input (Err e) × (refusal ≡ refusal_of_setup_error e)

-- the octets begin with no request
abbrev pub HoldsNoRequestAtAll : List ℕ → Type 0
HoldsNoRequestAtAll octets = (r : CaRequest) → BeginsRequest octets r → ⊥

-- `questions request`: that of the request with which the octets begin
abbrev pub IsRequestQuestionsAnswer : List ℕ → Written → Type 0
IsRequestQuestionsAnswer octets (Ok output) =
    (r : CaRequest) × BeginsRequest octets r × (output ≡ asked_lines (request_questions r))
IsRequestQuestionsAnswer octets (Err (keys.General refusals.InvalidCsrSyntax)) =
    HoldsNoRequestAtAll octets
IsRequestQuestionsAnswer octets (Err other) = ⊥

-- the request in a payload, if it is an issue request (RFC 6492, 3.4.1)
abbrev pub request_in_payload : Payload → Option CaRequest
request_in_payload (payloads.Issue request) = Some request.csr
request_in_payload other = None

-- the request in a message, if it is an issue request of the provisioning protocol
abbrev pub request_in_message : Received → Option CaRequest
request_in_message (received.Provisioning m) = request_in_payload m.payload
request_in_message (received.Publication m) = None

-- the message is an issue request, in which this request stands
abbrev pub HoldsRequest : Received → CaRequest → Type 0
HoldsRequest message r = request_in_message message ≡ Some r

-- the message is no issue request
abbrev pub HoldsNoRequestToIssue : Received → Type 0
HoldsNoRequestToIssue message = request_in_message message ≡ None

-- the input reads as an issue request of the provisioning protocol, in which this request stands
pub record AsksToIssue (input : List ℕ) (r : CaRequest) : Type 0 where
  pub message : Received
  pub reads : ReadsAs kinds.Provisioning input message
  pub holds : HoldsRequest message r

-- the input reads as a message of the provisioning protocol that is no issue request
pub record AsksNotToIssue (input : List ℕ) : Type 0 where
  pub message : Received
  pub reads : ReadsAs kinds.Provisioning input message
  pub none : HoldsNoRequestToIssue message

-- why no request stands in the input: it reads as no message of the provisioning protocol, or as
-- one that is no issue request, which is answered as malformed XML is
abbrev pub RefusesIssue : List ℕ → KeysRefusal → Type 0
RefusesIssue input (keys.General refusal) =
    RefusesInput kinds.Provisioning input refusal
    ⊎ ((refusal ≡ refusals.XmlError) × AsksNotToIssue input)
RefusesIssue input other = ⊥

-- `questions issue`: that of the request in the issue request that the input is
abbrev pub IsIssueQuestionsAnswer : List ℕ → Written → Type 0
IsIssueQuestionsAnswer input (Ok output) =
    (r : CaRequest) × AsksToIssue input r × (output ≡ asked_lines (request_questions r))
IsIssueQuestionsAnswer input (Err refusal) = RefusesIssue input refusal

-- a signing time in seconds since 1970, or a hyphen where there is none
abbrev pub time_word : Option ℤ → List ℕ
time_word None = codes "-"
time_word (Some seconds) = signed_decimal seconds

-- the place of a key, and a signing time
abbrev pub placed_line : ℕ → Option ℤ → List ℕ
placed_line place time = decimal place ++ (codes " " ++ time_word time)

-- the line of a receipt: the place of the key, and the signing time
abbrev pub receipt_line : Receipt → List ℕ
receipt_line r = placed_line r.place r.signing_time

-- `receive`: the line of the receipt and the text of its message, each on a line
abbrev pub IsReceiveAnswer : Kind → List ℕ → List KeyFields → ℤ → Option ℤ → AnswersFields → Written
    → Type 0
IsReceiveAnswer kind octets list when last answers (Ok output) =
    (r : Receipt) × IsReceiptBy kind octets list when answers last r
    × (output ≡ answer_lines (receipt_line r ∷ accepted_text r.message ∷ []))
IsReceiveAnswer kind octets list when last answers (Err refusal) =
    (e : AnsweredError) × RefusesByAnswers kind octets list when answers last e
    × (refusal ≡ refusal_of_answered e)

-- `explain`: a digit for each of the fourteen checks, 1 where it holds
abbrev pub IsExplainAnswer : List ℕ → KeyFields → ℤ → AnswersFields → Written → Type 0
IsExplainAnswer octets key when answers (Ok output) =
    (list : List Bool) × AreChecksBy octets key when answers list
    × (output ≡ on_line (map digit_of list))
IsExplainAnswer octets key when answers (Err refusal) =
    (e : AnsweredError) × RefusesChecks octets key answers e × (refusal ≡ refusal_of_answered e)

-- `inspect`: what is in the signed message with which the octets begin
abbrev pub IsInspectAnswer : List ℕ → Written → Type 0
IsInspectAnswer octets (Ok output) =
    (text : List ℕ) × IsInspectedAs octets text × (output ≡ on_line text)
IsInspectAnswer octets (Err (keys.General refusals.CmsDecode)) = HoldsNoSigned octets
IsInspectAnswer octets (Err other) = ⊥

-- `setup`: the text of the setup message that the input is
abbrev pub IsSetupWritten : SetupKind → List ℕ → ℤ → AnswersFields → Written → Type 0
IsSetupWritten kind input when answers (Ok output) =
    (m : SetupMessage) × IsSetupAnswered kind input when answers (Ok m)
    × (output ≡ on_line (setup_text m))
IsSetupWritten kind input when answers (Err refusal) =
    (e : SetupError) × IsSetupAnswered kind input when answers (Err e)
    × (refusal ≡ refusal_of_setup_error e)

-- what is written of a request that is verified: its key in DER, in hexadecimal digits
abbrev pub IsVerifiedAnswer : CaRequest → AnswersFields → Written → Type 0
IsVerifiedAnswer r answers (Ok output) =
    IsRequestVerified r answers (Ok tt) × (output ≡ on_line (encode_lower (spelled_key r.tbs.key)))
IsVerifiedAnswer r answers (Err refusal) =
    (e : VerifyError) × IsRequestVerified r answers (Err e) × (refusal ≡ refusal_of_verify e)

-- `request`: of the request with which the octets begin
abbrev pub IsRequestAnswer : List ℕ → AnswersFields → Written → Type 0
IsRequestAnswer octets answers answer =
    (HoldsNoRequestAtAll octets × (answer ≡ Err (keys.General refusals.InvalidCsrSyntax)))
    ⊎ ((r : CaRequest) × BeginsRequest octets r × IsVerifiedAnswer r answers answer)

-- why a command has this answer, which is a refusal
abbrev pub IsRefusedAs : (KeysRefusal → Type 0) → Written → Type 0
IsRefusedAs why (Ok output) = ⊥
IsRefusedAs why (Err refusal) = why refusal

-- `issue`: of the request in the issue request that the input is
abbrev pub IsIssueAnswer : List ℕ → AnswersFields → Written → Type 0
IsIssueAnswer input answers answer =
    IsRefusedAs (RefusesIssue input) answer
    ⊎ ((r : CaRequest) × AsksToIssue input r × IsVerifiedAnswer r answers answer)

-- a name and octets in hexadecimal digits of lower case, with one space between
abbrev pub named_line : List ℕ → List ℕ → List ℕ
named_line name octets = name ++ (codes " " ++ encode_lower octets)

-- a name and octets, on a line
abbrev pub named_on_line : List ℕ → List ℕ → List ℕ
named_on_line name octets = on_line (named_line name octets)

-- what is to be signed of a message: a line each for attributes, CRL and certificate
abbrev pub lines_to_sign : List ℕ → Plan → List ℕ
lines_to_sign content p =
    named_on_line (codes "attributes") (attributes_to_sign content p)
    ++ (named_on_line (codes "crl") (crl_to_sign p)
    ++ named_on_line (codes "certificate") (certificate_to_sign p))

-- what is to be signed of a message that is prepared
abbrev pub lines_of : UnsignedFields → List ℕ
lines_of u =
    named_on_line (codes "attributes") (made_covered u.content.content u.content.moment)
    ++ (named_on_line (codes "crl") (spelled_tbs_crl u.crl)
    ++ named_on_line (codes "certificate") (spelled_tbs u.certificate))

-- the input reads as a message of the kind, of which this is the answer
pub record OfMessage (kind : Kind) (input : List ℕ) (is : Received → Type 0) : Type 0 where
  pub message : Received
  pub reads : ReadsAs kind input message
  pub answered : is message

-- the input reads as one, which fails so
pub record FailsAs (kind : Kind) (input : List ℕ) (fails : List ℕ → PrepareError → Type 0)
    (refusal : KeysRefusal) : Type 0 where
  pub message : Received
  pub reads : ReadsAs kind input message
  pub error : PrepareError
  pub fails_so : fails (accepted_text message) error
  pub is : refusal ≡ refusal_of_prepare error

-- the input reads as no message of the kind
abbrev pub RefusesText : Kind → List ℕ → KeysRefusal → Type 0
RefusesText kind input (keys.General refusal) = RefusesInput kind input refusal
RefusesText kind input other = ⊥

-- `prepare message`: what is to be signed of the message that the input is
abbrev pub IsPrepareAnswer : Kind → List ℕ → Plan → Written → Type 0
IsPrepareAnswer kind input p (Ok output) = OfMessage kind input (λ m.
    CanPrepare (accepted_text m) p × (output ≡ lines_to_sign (accepted_text m) p))
IsPrepareAnswer kind input p (Err refusal) =
    RefusesText kind input refusal
    ⊎ FailsAs kind input (λ content error. PrepareFails content p error) refusal

-- `finish message`: the message with these signatures, in hexadecimal
abbrev pub IsFinishAnswer : Kind → List ℕ → Plan → Signatures → Written → Type 0
IsFinishAnswer kind input p s (Ok output) = OfMessage kind input (λ m.
    CanPrepare (accepted_text m) p × AreShort s × CanSpellMessage (finished (accepted_text m) p s)
    × (output ≡ on_line (encode_lower (rewritten (finished (accepted_text m) p s)))))
IsFinishAnswer kind input p s (Err refusal) =
    RefusesText kind input refusal
    ⊎ FailsAs kind input (λ content error. FinishFails content p s error) refusal

-- the refusal is that of an error that comes
abbrev pub IsPrepareRefusal : (PrepareError → Type 0) → KeysRefusal → Type 0
IsPrepareRefusal fails refusal =
    (e : PrepareError) × fails e × (refusal ≡ refusal_of_prepare e)

-- `prepare anchor`: what is to be signed of the key's own certificate
abbrev pub IsPrepareAnchorAnswer : ValidityFields → KeyFields → Written → Type 0
IsPrepareAnchorAnswer validity key (Ok output) =
    CanPrepareAnchor key
    × (output ≡ named_on_line (codes "anchor") (spelled_tbs (anchor_fields key validity)))
IsPrepareAnchorAnswer validity key (Err refusal) =
    IsPrepareRefusal (PrepareAnchorFails key) refusal

-- `finish anchor`: the certificate with this signature, in hexadecimal
abbrev pub IsFinishAnchorAnswer : ValidityFields → KeyFields → List ℕ → Written → Type 0
IsFinishAnchorAnswer validity key signature (Ok output) =
    CanPrepareAnchor key × IsShort signature
    × CanSpellSigned spelled_x509 (finished_anchor key validity signature).signed
    × (output ≡ on_line (encode_lower (spelled_data spelled_x509
    (finished_anchor key validity signature).signed)))
IsFinishAnchorAnswer validity key signature (Err refusal) =
    IsPrepareRefusal (FinishAnchorFails key signature) refusal

-- `prepare request`: what is to be signed of the request
abbrev pub IsPrepareRequestAnswer : RequestPlan → Written → Type 0
IsPrepareRequestAnswer p (Ok output) =
    CanPrepareRequest p
    × (output ≡ named_on_line (codes "request") (request_to_sign p))
IsPrepareRequestAnswer p (Err refusal) = IsPrepareRefusal (PrepareRequestFails p) refusal

-- `finish request`: the request with this signature, in hexadecimal
abbrev pub IsFinishRequestAnswer : RequestPlan → List ℕ → Written → Type 0
IsFinishRequestAnswer p signature (Ok output) =
    CanPrepareRequest p × IsShort signature
    × CanSpellSigned spelled_x509 (finished_request p signature).signed
    × (output ≡ on_line (encode_lower (spelled_data spelled_x509
    (finished_request p signature).signed)))
IsFinishRequestAnswer p signature (Err refusal) =
    IsPrepareRefusal (FinishRequestFails p signature) refusal

-- ---- all of them

-- the answer to the octets that a hexadecimal input spells; Hex where it spells none
abbrev pub OfSpelled : (List ℕ → Written → Type 0) → Option (List ℕ) → Written → Type 0
OfSpelled is None answer = answer ≡ Err (keys.General refusals.Hex)
OfSpelled is (Some octets) answer = is octets answer

-- the answer of `questions` to input
abbrev pub IsAskedAnswer : Asked → List ℕ → Written → Type 0
IsAskedAnswer (asked.Message list) input answer =
    OfSpelled (λ octets. IsQuestionsAnswer octets list) (hexadecimal input) answer
IsAskedAnswer (asked.Setup kind) input answer = IsSetupQuestionsAnswer kind input answer
IsAskedAnswer asked.Request input answer =
    OfSpelled IsRequestQuestionsAnswer (hexadecimal input) answer
IsAskedAnswer asked.Issue input answer = IsIssueQuestionsAnswer input answer

-- the answer to input of what is verified by answers
abbrev pub IsVerifiedSo : Verified → AnswersFields → List ℕ → Written → Type 0
IsVerifiedSo (verified.Message kind when last list) answers input answer =
    OfSpelled (λ octets. IsReceiveAnswer kind octets list when last answers) (hexadecimal input)
    answer
IsVerifiedSo (verified.Checks when key) answers input answer =
    OfSpelled (λ octets. IsExplainAnswer octets key when answers) (hexadecimal input) answer
IsVerifiedSo (verified.Setup kind when) answers input answer =
    IsSetupWritten kind input when answers answer
IsVerifiedSo verified.Request answers input answer =
    OfSpelled (λ octets. IsRequestAnswer octets answers) (hexadecimal input) answer
IsVerifiedSo verified.Issue answers input answer = IsIssueAnswer input answers answer

-- the answer of `prepare` to input, of which two look at none
abbrev pub IsPreparedAnswer : Prepared → List ℕ → Written → Type 0
IsPreparedAnswer (prepared.Message kind plan) input answer = IsPrepareAnswer kind input plan answer
IsPreparedAnswer (prepared.Anchor validity key) input answer =
    IsPrepareAnchorAnswer validity key answer
IsPreparedAnswer (prepared.Request plan) input answer = IsPrepareRequestAnswer plan answer

-- the answer of `finish` to input, of which two look at none
abbrev pub IsFinishedAnswer : Finished → List ℕ → Written → Type 0
IsFinishedAnswer (finished_task.Message kind plan signatures) input answer =
    IsFinishAnswer kind input plan signatures answer
IsFinishedAnswer (finished_task.Anchor validity key signature) input answer =
    IsFinishAnchorAnswer validity key signature answer
IsFinishedAnswer (finished_task.Request plan signature) input answer =
    IsFinishRequestAnswer plan signature answer

-- the answer of a task to input, memory aside
abbrev pub IsTaskAnswer : Task → List ℕ → Written → Type 0
IsTaskAnswer (tasks.Ask what) input answer = IsAskedAnswer what input answer
IsTaskAnswer (tasks.Verify what answers) input answer = IsVerifiedSo what answers input answer
IsTaskAnswer tasks.Inspect input answer = OfSpelled IsInspectAnswer (hexadecimal input) answer
IsTaskAnswer (tasks.Prepare what) input answer = IsPreparedAnswer what input answer
IsTaskAnswer (tasks.Finish what) input answer = IsFinishedAnswer what input answer

-- the task reads input
abbrev pub ReadsTaskInput : Task → Type 0
ReadsTaskInput (tasks.Prepare (prepared.Anchor validity key)) = ⊥
ReadsTaskInput (tasks.Prepare (prepared.Request plan)) = ⊥
ReadsTaskInput (tasks.Finish (finished_task.Anchor validity key signature)) = ⊥
ReadsTaskInput (tasks.Finish (finished_task.Request plan signature)) = ⊥
ReadsTaskInput other = ⊤

-- ---- at the end of a call

-- the refusal's line is written with its status; or a part of it with 11
abbrev pub EndsRefusedSo : KeysRefusal → ℕ → Seen → Type 0
EndsRefusedSo refusal status sink =
    EndsWith (keys_status_of refusal) (on_line (keys_name_of refusal)) status sink

-- the output is written whole with status 0, or the refusal's line with its status; or a part of it
-- with 11
abbrev pub EndsOn : Written → ℕ → Seen → Type 0
EndsOn (Ok output) status sink = EndsWith 0 output status sink
EndsOn (Err refusal) status sink = EndsRefusedSo refusal status sink

-- the call ends with the answer to the input
pub record EndsKeysAnswered (task : Task) (input : List ℕ) (status : ℕ) (sink : Seen) : Type 0 where
  pub answer : Written
  pub is : IsTaskAnswer task input answer
  pub ends : EndsOn answer status sink

-- the call ends with the answer to the input, or for want of memory
abbrev pub EndsKeysTask : Task → List ℕ → ℕ → Seen → Type 0
EndsKeysTask task input status sink =
    EndsKeysAnswered task input status sink
    ⊎ Ends (Err refusals.OutOfMemory) status sink

-- ---- what holds at the end of a call, said of a scheme

-- the octets that the input spells have these questions
pub record SpellsQuestions (input : List ℕ) (ask : List ℕ → QuestionsFields → Type 0)
    (q : QuestionsFields) : Type 0 where
  pub octets : List ℕ
  pub spells : hexadecimal input ≡ Some octets
  pub are : ask octets q

-- the octets begin with a request, and these are its questions
pub record AreRequestQuestions (octets : List ℕ) (q : QuestionsFields) : Type 0 where
  pub request : CaRequest
  pub begins : BeginsRequest octets request
  pub are : q ≡ request_questions request

-- the input reads as an issue request, and these are the questions of the request in it
pub record AreIssueQuestions (input : List ℕ) (q : QuestionsFields) : Type 0 where
  pub request : CaRequest
  pub asks : AsksToIssue input request
  pub are : q ≡ request_questions request

-- these are the questions of what is to be verified of the input
abbrev pub AreQuestionsIn : Verified → List ℕ → QuestionsFields → Type 0
AreQuestionsIn (verified.Message kind when last list) input q =
    SpellsQuestions input (λ octets. AreAskedOf octets list) q
AreQuestionsIn (verified.Checks when key) input q =
    SpellsQuestions input (λ octets. AreAskedOf octets (key ∷ [])) q
AreQuestionsIn (verified.Setup kind when) input q = AreSetupQuestions kind input q
AreQuestionsIn verified.Request input q = SpellsQuestions input AreRequestQuestions q
AreQuestionsIn verified.Issue input q = AreIssueQuestions input q

-- the answers are right under the scheme, of these questions, if there are such
abbrev pub AreRightIn : Relation → Verified → List ℕ → AnswersFields → Type 0
AreRightIn scheme what input answers = (q : QuestionsFields) → AreQuestionsIn what input q
    → AreRight scheme (listed q) answers.values

-- `receive` under a scheme: the line of the receipt and the text of its message, each on a line
abbrev pub IsReceiveAnswerUnder : Relation → Kind → List ℕ → List KeyFields → ℤ → Option ℤ
    → AnswersFields → Written → Type 0
IsReceiveAnswerUnder scheme kind octets list when last answers (Ok output) =
    (r : Receipt) × IsReceipt scheme kind octets list when last r
    × (output ≡ answer_lines (receipt_line r ∷ accepted_text r.message ∷ []))
IsReceiveAnswerUnder scheme kind octets list when last answers (Err refusal) =
    (e : AnsweredError) × RefusesUnder scheme kind octets list when answers last e
    × (refusal ≡ refusal_of_answered e)

-- `explain` under a scheme: a digit for each of the fourteen checks
abbrev pub IsExplainAnswerUnder : Relation → List ℕ → KeyFields → ℤ → AnswersFields → Written
    → Type 0
IsExplainAnswerUnder scheme octets key when answers (Ok output) =
    (list : List Bool) × AreChecksOf scheme octets key when list
    × (output ≡ on_line (map digit_of list))
IsExplainAnswerUnder scheme octets key when answers (Err refusal) =
    (e : AnsweredError) × RefusesChecks octets key answers e × (refusal ≡ refusal_of_answered e)

-- `setup` under a scheme: the text of the setup message
abbrev pub IsSetupWrittenUnder : Relation → SetupKind → List ℕ → ℤ → AnswersFields → Written
    → Type 0
IsSetupWrittenUnder scheme kind input when answers (Ok output) =
    (m : SetupMessage) × IsSetupAnsweredUnder scheme kind input when answers (Ok m)
    × (output ≡ on_line (setup_text m))
IsSetupWrittenUnder scheme kind input when answers (Err refusal) =
    (e : SetupError) × IsSetupAnsweredUnder scheme kind input when answers (Err e)
    × (refusal ≡ refusal_of_setup_error e)

-- what is written of a request that is verified under a scheme: its key
abbrev pub IsVerifiedAnswerUnder : Relation → CaRequest → AnswersFields → Written → Type 0
IsVerifiedAnswerUnder scheme r answers (Ok output) =
    IsRequestVerifiedUnder scheme r answers (Ok tt)
    × (output ≡ on_line (encode_lower (spelled_key r.tbs.key)))
IsVerifiedAnswerUnder scheme r answers (Err refusal) =
    (e : VerifyError) × IsRequestVerifiedUnder scheme r answers (Err e)
    × (refusal ≡ refusal_of_verify e)

-- `request` under a scheme
abbrev pub IsRequestAnswerUnder : Relation → List ℕ → AnswersFields → Written → Type 0
IsRequestAnswerUnder scheme octets answers answer =
    (HoldsNoRequestAtAll octets × (answer ≡ Err (keys.General refusals.InvalidCsrSyntax)))
    ⊎ ((r : CaRequest) × BeginsRequest octets r × IsVerifiedAnswerUnder scheme r answers answer)

-- `issue` under a scheme
abbrev pub IsIssueAnswerUnder : Relation → List ℕ → AnswersFields → Written → Type 0
IsIssueAnswerUnder scheme input answers answer =
    IsRefusedAs (RefusesIssue input) answer
    ⊎ ((r : CaRequest) × AsksToIssue input r × IsVerifiedAnswerUnder scheme r answers answer)

-- the answer to input of what is verified under a scheme for which the answers are right
abbrev pub IsVerifiedUnder : Relation → Verified → AnswersFields → List ℕ → Written → Type 0
IsVerifiedUnder scheme (verified.Message kind when last list) answers input answer =
    OfSpelled (λ octets. IsReceiveAnswerUnder scheme kind octets list when last answers)
    (hexadecimal input) answer
IsVerifiedUnder scheme (verified.Checks when key) answers input answer =
    OfSpelled (λ octets. IsExplainAnswerUnder scheme octets key when answers) (hexadecimal input)
    answer
IsVerifiedUnder scheme (verified.Setup kind when) answers input answer =
    IsSetupWrittenUnder scheme kind input when answers answer
IsVerifiedUnder scheme verified.Request answers input answer =
    OfSpelled (λ octets. IsRequestAnswerUnder scheme octets answers) (hexadecimal input) answer
IsVerifiedUnder scheme verified.Issue answers input answer =
    IsIssueAnswerUnder scheme input answers answer

-- the call ends with what is answered to the input under a scheme
pub record EndsVerifiedUnder (scheme : Relation) (what : Verified) (answers : AnswersFields)
    (input : List ℕ) (status : ℕ) (sink : Seen) : Type 0 where
  pub answer : Written
  pub is : IsVerifiedUnder scheme what answers input answer
  pub ends : EndsOn answer status sink

-- the same, or the call ends for want of memory
abbrev pub EndsAsVerified : Relation → Verified → AnswersFields → List ℕ → ℕ → Seen → Type 0
EndsAsVerified scheme what answers input status sink =
    EndsVerifiedUnder scheme what answers input status sink
    ⊎ Ends (Err refusals.OutOfMemory) status sink

-- the input spells octets of which there is a receipt under the scheme, and its line and its text
-- were written
pub record DeliversReceipt (scheme : Relation) (kind : Kind) (list : List KeyFields) (when : ℤ)
    (last : Option ℤ) (input : List ℕ) (sink : Seen) : Type 0 where
  pub octets : List ℕ
  pub spells : hexadecimal input ≡ Some octets
  pub receipt : Receipt
  pub is : IsReceipt scheme kind octets list when last receipt
  pub written : Appends sink.before sink.after
      (answer_lines (receipt_line receipt ∷ accepted_text receipt.message ∷ []))

-- the answers are to the questions of what is to be verified of the input, if there are such
abbrev pub AreToIn : Verified → List ℕ → AnswersFields → Type 0
AreToIn what input answers =
    (q : QuestionsFields) → AreQuestionsIn what input q → AreTo answers q

-- where a last time is handed in, the message that the input spells says a later one
abbrev pub IsLaterIn : Option ℤ → List ℕ → Type 0
IsLaterIn last input = (octets : List ℕ) → hexadecimal input ≡ Some octets
    → (m : MessageFields) → BeginsSigned octets m → IsLater last m

-- the status is 0; or memory ran out, or a write failed
abbrev pub EndsWell : ℕ → Seen → Type 0
EndsWell status sink = (status ≡ 0) ⊎ ((status ≡ 12) ⊎ ((status ≡ 11) × HasFailed sink))

-- `finish message` wrote the hexadecimal of a signed message with the message that the input is,
-- which is accepted
pub record Finishes (scheme : Relation) (kind : Kind) (p : Plan) (s : Signatures)
    (input : List ℕ) (sink : Seen) : Type 0 where
  pub message : Received
  pub reads : ReadsAs kind input message
  pub octets : List ℕ
  pub is : IsAcceptedSo scheme kind message p s octets
  pub written : Appends sink.before sink.after (on_line (encode_lower octets))
