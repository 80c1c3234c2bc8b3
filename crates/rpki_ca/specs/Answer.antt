-- What is answered to words and input.
--
-- The levels; each cites those that stand under it, further in:
--
--     IsAdmitted              the answers with which a call may end, by what source and signer did
--       IsShown               one of those that are given, where the source didn't fail
--         IsGiven             one that words and input show, or that comes from the signer
--           IsAnswer          what words and input show: Usage, TooLong, or a command's answer
--             AnswersSpelled  a command's answer to what its input spells; Hex where that is none
--               Answers       a command's answer to octets: `IsContentAnswer`, `IsReceiveAnswer` ..
--           IsFromSigner      what comes of asking the signer, for words and input
--             AnswersSigned   what comes of asking the signer, by command: `IsSignersAnswer`, ..
--     Performs                a command's answer to its input: AnswersSpelled or AnswersSigned
--     EndsAs                  the call ends with this answer, or with want of memory or ReadFault
--       Ends                  the answer's status and its line; or status 11 and a part of the line
--
-- Of the clauses of `run`, `shown` cites IsAnswer and EndsAs, `answered` IsAdmitted and Ends, and
-- `done` IsGiven.
use Rattle.std.specs.Prelude.{◌≡◌, ℕ, ℤ, ◌^◌, ◌<◌, ◌≤◌, ◌⊎◌, Option, None, Some, Result, Ok, Err}
use Rattle.std.specs.Prelude.{List, [], ◌∷◌, ◌++◌, length}
use Rattle.std.specs.Io.KnownBytes.{Appends}
use Rattle.sha2.specs.Sha256.{sha256}
use Rattle.rpki_common.specs.Limits.{most_input}
use Rattle.rpki_base.specs.PublicKey.{KeyFields}
use Rattle.rpki_base.specs.declared.validation.ValidationError.{ValidationError}
use Rattle.rpki_sigmsg.specs.Message.{MessageFields}
use Rattle.rpki_sigmsg.specs.Beginning.{BeginsSigned, HoldsContent}
use Rattle.rpki_text.specs.Sink.{AppendsPart}
use Rattle.rpki_ca.specs.declared.command.Command.{Command}
use Rattle.rpki_ca.specs.declared.command.Command.TheVariants.{Content, Receive, Create, Setup, Make}
use Rattle.rpki_ca.specs.declared.receiving.Kind.{Kind}
use Rattle.rpki_ca.specs.declared.receiving.Received.{Received}
use Rattle.rpki_ca.specs.declared.refusals.Refusal.{Refusal}
use Rattle.rpki_ca.specs.declared.refusals.Refusal.TheVariants as refusals
use Rattle.rpki_ca.specs.Command.{IsCommand, IsNoCommand, ReadsInput}
use Rattle.rpki_ca.specs.Creation.{IsCreateRefusal, IsSignersAnswer}
use Rattle.rpki_ca.specs.Setup.{IsSetupAnswer}
use Rattle.rpki_ca.specs.Summary.{IsMakeAnswer}
use Rattle.rpki_ca.specs.Hexadecimal.{hexadecimal}
use Rattle.rpki_base.specs.Scheme.{Relation}
use Rattle.rpki_ca.specs.Acceptance.{Accepted, HoldsNoSigned, HasNoForm, HoldsNoCertificate}
use Rattle.rpki_ca.specs.Acceptance.{HoldsNoRequest, FailsCheck, accepted_text}
use Rattle.rpki_ca.specs.Refusal.{status_of, name_of}
use Rattle.rpki_text.specs.Source.{OfInput}
use Rattle.rpki_ca.specs.Seen.{Seen, SignerSeen, HasFailed, IsSteady}

-- ---- the commands

-- the text is the content of the signed message with which the octets begin, in BER, and its
-- SHA-256 is the digest that was signed
pub record IsContent (octets text : List ℕ) : Type 0 where
  pub signed : MessageFields
  pub begins : BeginsSigned octets signed
  pub digest : sha256 signed.content ≡ signed.digest
  pub content : text ≡ signed.content

-- the octets begin with a signed message whose content has another digest
pub record FailsDigest (octets : List ℕ) : Type 0 where
  pub signed : MessageFields
  pub begins : BeginsSigned octets signed
  pub digest : sha256 signed.content ≡ signed.digest → ⊥

-- `content`: the content, or why there is none
abbrev pub IsContentAnswer : List ℕ → Result (List ℕ) Refusal → Type 0
IsContentAnswer octets (Ok text) = IsContent octets text
IsContentAnswer octets (Err refusals.CmsDecode) = HoldsNoSigned octets
IsContentAnswer octets (Err (refusals.Validation n)) = (n ≡ 2) × FailsDigest octets
IsContentAnswer octets (Err other) = ⊥

-- the first check that fails has this number
pub record FailsAt (scheme : Relation) (kind : Kind) (octets : List ℕ) (keys : List KeyFields)
    (when : ℤ) (n : ℕ) : Type 0 where
  pub error : ValidationError
  pub fails : FailsCheck scheme kind octets keys when error
  pub number : n ≡ error.check

-- the text is that of an accepted message
pub record IsTextAccepted (scheme : Relation) (kind : Kind) (octets : List ℕ)
    (keys : List KeyFields) (when : ℤ) (text : List ℕ) : Type 0 where
  pub message : Received
  pub accepted : Accepted scheme kind octets keys when message
  pub written : text ≡ accepted_text message

-- `receive`: the text of the accepted message, or why there is none
abbrev pub IsReceiveAnswer : Relation → Kind → List ℕ → List KeyFields → ℤ
    → Result (List ℕ) Refusal → Type 0
IsReceiveAnswer scheme kind octets keys when (Ok text) =
    IsTextAccepted scheme kind octets keys when text
IsReceiveAnswer scheme kind octets keys when (Err refusals.CmsDecode) = HoldsNoSigned octets
IsReceiveAnswer scheme kind octets keys when (Err refusals.XmlError) =
    HoldsContent (HasNoForm kind) octets
IsReceiveAnswer scheme kind octets keys when (Err refusals.CertSyntax) =
    HoldsContent (HoldsNoCertificate kind) octets
IsReceiveAnswer scheme kind octets keys when (Err refusals.InvalidCsrSyntax) =
    HoldsContent (HoldsNoRequest kind) octets
IsReceiveAnswer scheme kind octets keys when (Err (refusals.Validation n)) =
    FailsAt scheme kind octets keys when n
IsReceiveAnswer scheme kind octets keys when (Err other) = ⊥

-- the answer of a command to octets; that of `create` is a refusal, where it asks no signer, and
-- `make` has none, since it always asks one
abbrev pub Answers : Relation → Command → List ℕ → Result (List ℕ) Refusal → Type 0
Answers scheme Content octets answer = IsContentAnswer octets answer
Answers scheme (Receive kind when keys) octets answer =
    IsReceiveAnswer scheme kind octets keys when answer
Answers scheme (Create kind when) octets answer = IsCreateRefusal kind octets when answer
Answers scheme (Setup kind when) octets answer = IsSetupAnswer scheme kind octets when answer
Answers scheme (Make count seed) octets answer = ⊥

-- the octets that a command takes from the input: those that are given in hexadecimal, and for
-- `create` and `setup` the input itself; `make` looks at none
abbrev pub octets_in : Command → List ℕ → Option (List ℕ)
octets_in Content input = hexadecimal input
octets_in (Receive kind when keys) input = hexadecimal input
octets_in (Create kind when) input = Some input
octets_in (Setup kind when) input = Some input
octets_in (Make count seed) input = Some []

-- the answer of a command to the octets that it takes from the input, or Hex where there are none
abbrev pub AnswersSpelled : Relation → Command → Option (List ℕ) → Result (List ℕ) Refusal → Type 0
AnswersSpelled scheme command None answer = answer ≡ Err refusals.Hex
AnswersSpelled scheme command (Some octets) answer = Answers scheme command octets answer

-- what comes of asking the signer, where the command does
abbrev pub AnswersSigned : {Id : Type 0} → Relation → Command → List ℕ → SignerSeen Id
    → Result (List ℕ) Refusal → Type 0
AnswersSigned scheme Content input signer answer = ⊥
AnswersSigned scheme (Receive kind when keys) input signer answer = ⊥
AnswersSigned scheme (Create kind when) input signer answer =
    IsSignersAnswer scheme kind input when signer answer
AnswersSigned scheme (Setup kind when) input signer answer = ⊥
AnswersSigned scheme (Make count seed) input signer answer =
    IsMakeAnswer scheme count seed signer answer

-- the answer of a command to input, from the signer or not
abbrev pub Performs : {Id : Type 0} → Relation → Command → List ℕ → SignerSeen Id
    → Result (List ℕ) Refusal → Type 0
Performs scheme command input signer answer =
    AnswersSpelled scheme command (octets_in command input) answer
    ⊎ AnswersSigned scheme command input signer answer

-- ---- words and input

-- The answer to words and input, memory aside: Usage to words of no command; TooLong to more than
-- 2^26 octets of input, where the command reads it; else that of the command.
pub record IsAnswer (scheme : Relation) (words : List (List ℕ)) (input : List ℕ)
    (answer : Result (List ℕ) Refusal) : Type 0 where
  pub usage : IsNoCommand words → answer ≡ Err refusals.Usage
  pub long : (command : Command) → IsCommand words command → ReadsInput command
      → most_input < length input → answer ≡ Err refusals.TooLong
  pub answers : (command : Command) → IsCommand words command
      → (ReadsInput command → length input ≤ most_input)
      → AnswersSpelled scheme command (octets_in command input) answer

-- The words are those of a command, the input has at most 2^26 octets, if the command reads it, and
-- the answer is what came of asking the signer.
pub record IsFromSigner {Id : Type 0} (scheme : Relation) (words : List (List ℕ))
    (signer : SignerSeen Id) (input : List ℕ) (answer : Result (List ℕ) Refusal) : Type 0 where
  pub command : Command
  pub is : IsCommand words command
  pub within : ReadsInput command → length input ≤ most_input
  pub answers : AnswersSigned scheme command input signer answer

-- an answer that words and input show, or one that comes from the signer
abbrev pub IsGiven : {Id : Type 0} → Relation → List (List ℕ) → SignerSeen Id → List ℕ
    → Result (List ℕ) Refusal → Type 0
IsGiven scheme words signer input answer =
    IsAnswer scheme words input answer ⊎ IsFromSigner scheme words signer input answer

-- An answer is given to what the source had to give, and the source didn't fail.
pub record IsShown {Id : Type 0} (scheme : Relation) (words : List (List ℕ)) (source : Seen)
    (signer : SignerSeen Id) (answer : Result (List ℕ) Refusal) : Type 0 where
  pub shown : OfInput source.before (λ input. IsGiven scheme words signer input answer)
  pub steady : IsSteady source

-- An answer is admitted exactly where words and input show it or it comes from the signer; that the
-- source failed, where its count rose; and want of memory. Every answer but ReadFault leaves the
-- source's count as it was.
abbrev pub IsAdmitted : {Id : Type 0} → Relation → List (List ℕ) → Seen → SignerSeen Id
    → Result (List ℕ) Refusal → Type 0
IsAdmitted scheme words source signer (Ok text) = IsShown scheme words source signer (Ok text)
IsAdmitted scheme words source signer (Err refusals.ReadFault) = HasFailed source
IsAdmitted scheme words source signer (Err refusals.OutOfMemory) = IsSteady source
IsAdmitted scheme words source signer (Err refusal) =
    IsShown scheme words source signer (Err refusal)

-- when an input isn't read whole: there was more than 2^26 octets of it, or the source failed, or
-- memory ran out
abbrev pub IsUnread : Seen → Refusal → Type 0
IsUnread source refusals.TooLong =
    OfInput source.before (λ input. most_input < length input) × IsSteady source
IsUnread source refusals.ReadFault = HasFailed source
IsUnread source refusals.OutOfMemory = IsSteady source
IsUnread source other = ⊥

-- ---- the line

-- the exit status of an answer
abbrev pub exit_status : Result (List ℕ) Refusal → ℕ
exit_status (Ok text) = 0
exit_status (Err refusal) = status_of refusal

-- the line of an answer: its text, or the name of its refusal, and a line feed
abbrev pub line_of : Result (List ℕ) Refusal → List ℕ
line_of (Ok text) = text ++ 10 ∷ []
line_of (Err refusal) = name_of refusal ++ 10 ∷ []

-- the octets are the line of a text that is an answer
abbrev pub IsLineOf : (Result (List ℕ) Refusal → Type 0) → List ℕ → Type 0
IsLineOf is_answer line = (text : List ℕ) × is_answer (Ok text) × (line ≡ text ++ 10 ∷ [])

-- The answer's line is written whole, with its status; or a part of it, and the status is 11, where
-- the sink's count rose.
abbrev pub Ends : Result (List ℕ) Refusal → ℕ → Seen → Type 0
Ends answer status sink =
    ((status ≡ exit_status answer) × Appends sink.before sink.after (line_of answer)
    × IsSteady sink)
    ⊎ ((status ≡ 11) × AppendsPart sink.before sink.after (line_of answer) × HasFailed sink)

-- The call ends with the answer; or with want of memory; or with a fault of the source, whose count
-- rose.
abbrev pub EndsAs : Result (List ℕ) Refusal → ℕ → Seen → Seen → Type 0
EndsAs answer status source sink =
    Ends answer status sink
    ⊎ (Ends (Err refusals.OutOfMemory) status sink
    ⊎ (Ends (Err refusals.ReadFault) status sink × HasFailed source))

-- the statuses that come when all of the input was read
abbrev pub ReadsAll : ℕ → Type 0
ReadsAll status =
    (status ≡ 0) ⊎ ((3 ≤ status) × (status ≤ 8))

-- The input spells octets that begin with an accepted message, and its text and a line feed were
-- written.
pub record Delivers (scheme : Relation) (kind : Kind) (keys : List KeyFields) (when : ℤ)
    (input : List ℕ) (sink : Seen) : Type 0 where
  pub octets : List ℕ
  pub spells : hexadecimal input ≡ Some octets
  pub message : Received
  pub accepted : Accepted scheme kind octets keys when message
  pub written : Appends sink.before sink.after (accepted_text message ++ 10 ∷ [])

-- The input has at most 2^26 octets, and spells octets that begin with an accepted message.
pub record BringsAccepted (scheme : Relation) (kind : Kind) (keys : List KeyFields) (when : ℤ)
    (input : List ℕ) : Type 0 where
  pub short : length input ≤ most_input
  pub octets : List ℕ
  pub spells : hexadecimal input ≡ Some octets
  pub message : Received
  pub accepted : Accepted scheme kind octets keys when message

-- The status is 0, but for want of memory, and for faults of source and sink, whose counts rose.
abbrev pub Succeeds : ℕ → Seen → Seen → Type 0
Succeeds status source sink =
    (status ≡ 0)
    ⊎ ((status ≡ 12)
    ⊎ (((status ≡ 10) × HasFailed source) ⊎ ((status ≡ 11) × HasFailed sink)))
