-- What calls answer, and how errors of lower layers are passed on.
use Rattle.std.specs.Prelude.{◌≡◌, ◌<◌, ◌^◌, ℕ, List, length, Option, None, Some, Result, Ok, Err, ⊤}
use Rattle.rpki_common.specs.Limits.{most_content}
use Rattle.rpki_base.specs.declared.validation.ValidationError.{ValidationError}
use Rattle.rpki_der.specs.declared.error.DecodeError.{DecodeError}
use Rattle.rpki_der.specs.declared.error.DecodeError.TheVariants as der
use Rattle.rpki_xmltext.specs.Answers as answers
use Rattle.rpki_xmltext.specs.declared.cause.Cause.{Cause}
use Rattle.rpki_xmltext.specs.declared.cause.Cause.TheVariants as causes
use Rattle.rpki_sigmsg.specs.Checks.{passed_on}
use Rattle.rpki_text.specs.declared.reading.ReadAllError.{ReadAllError}
use Rattle.rpki_text.specs.declared.reading.ReadAllError.TheVariants as read
use Rattle.rpki_xml.specs.declared.error.XmlError.{XmlError}
use Rattle.rpki_xml.specs.declared.error.XmlError.TheVariants as xml
use Rattle.rpki_publication.specs.declared.error.Error.{Error}
use Rattle.rpki_publication.specs.declared.error.Error.TheVariants as errors
use Rattle.rpki_publication.specs.declared.message.Message.{Message}
use Rattle.rpki_publication.specs.declared.message.Message.TheVariants as message
use Rattle.rpki_publication.specs.declared.query.Query.{Query}
use Rattle.rpki_publication.specs.declared.reply.Reply.{Reply}
use Rattle.rpki_publication.specs.Message.{message_of}
use Rattle.rpki_publication.specs.ReportErrorCode.{code_of_text}

-- ---- how errors of lower layers are passed on: want of memory is always OutOfMemory

-- the Error that an XmlError becomes: Malformed is told by XmlError
abbrev pub of_xml : XmlError → Error
of_xml xml.Malformed = errors.XmlError xml.Malformed
of_xml xml.OutOfMemory = errors.OutOfMemory

-- the Error that a DecodeError becomes: Malformed is CmsDecode
abbrev pub of_der : DecodeError → Error
of_der der.Malformed = errors.CmsDecode
of_der der.OutOfMemory = errors.OutOfMemory

-- the Error that a ReadAllError becomes: each variant keeps its name
abbrev pub of_reading : ReadAllError → Error
of_reading read.Read = errors.Read
of_reading read.TooLong = errors.TooLong
of_reading read.OutOfMemory = errors.OutOfMemory

-- the Error that a cause becomes: Malformed is XmlError, and every other one keeps its name
abbrev pub of_cause : Cause → Error
of_cause causes.Malformed = errors.XmlError xml.Malformed
of_cause causes.Read = errors.Read
of_cause causes.Write = errors.Write
of_cause causes.TooLong = errors.TooLong
of_cause causes.OutOfMemory = errors.OutOfMemory

-- the cause of an error of a call that reads or writes a message; every other error has none, and
-- never comes
abbrev pub cause_of : Error → Option Cause
cause_of (errors.XmlError xml.Malformed) = Some causes.Malformed
cause_of errors.Read = Some causes.Read
cause_of errors.Write = Some causes.Write
cause_of errors.TooLong = Some causes.TooLong
cause_of errors.OutOfMemory = Some causes.OutOfMemory
cause_of _ = None

-- ---- messages

-- The answer is XmlError, of malformed XML, exactly where the octets are no message. OutOfMemory
-- says nothing, and no other one comes.
abbrev pub RefusesMessage : List ℕ → Error → Type 0
RefusesMessage octets e = answers.RefusesMessage cause_of message_of octets e

-- The answer is TooLong only where the text has more than 2^31 octets. OutOfMemory says nothing,
-- and no other one comes.
abbrev pub RefusesText : List ℕ → Error → Type 0
RefusesText text errors.TooLong = most_content < length text
RefusesText text errors.OutOfMemory = ⊤
RefusesText text _ = ⊥

-- the query that a message is, or NotQuery where it is a reply
abbrev pub IsQueryResult : Message → Result Query Error → Type 0
IsQueryResult (message.Query q) result = result ≡ Ok q
IsQueryResult (message.Reply r) result = result ≡ Err errors.NotQuery

-- the reply that a message is, or NotReply where it is a query
abbrev pub IsReplyResult : Message → Result Reply Error → Type 0
IsReplyResult (message.Query q) result = result ≡ Err errors.NotReply
IsReplyResult (message.Reply r) result = result ≡ Ok r

-- ---- codes of errors

-- The answer is InvalidErrorCode, with the text, exactly where the text is no code. OutOfMemory
-- says nothing, and no other one comes.
abbrev pub RefusesCode : List ℕ → Error → Type 0
RefusesCode text (errors.InvalidErrorCode t) = (t ≡ text) × (code_of_text text ≡ None)
RefusesCode text errors.OutOfMemory = ⊤
RefusesCode text _ = ⊥

-- ---- checks

-- the answer of the checks, as this crate's error
abbrev pub validated : {X : Type 0} → Result X ValidationError → Result X Error
validated answer = passed_on errors.Validation answer
