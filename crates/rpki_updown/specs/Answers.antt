-- What calls answer, and how errors of lower layers are passed on.
use Rattle.std.specs.Prelude.{◌≡◌, ℕ, List, Option, None, Some, ⊤}
use Rattle.rpki_xmltext.specs.declared.cause.Cause.{Cause}
use Rattle.rpki_xmltext.specs.declared.cause.Cause.TheVariants as causes
use Rattle.rpki_sets.specs.Resources.{Resources}
use Rattle.rpki_text.specs.declared.reading.ReadAllError.{ReadAllError}
use Rattle.rpki_text.specs.declared.reading.ReadAllError.TheVariants as read
use Rattle.rpki_xml.specs.declared.error.XmlError.{XmlError}
use Rattle.rpki_xml.specs.declared.error.XmlError.TheVariants as xml
use Rattle.rpki_updown.specs.declared.error.Error.{Error}
use Rattle.rpki_updown.specs.declared.error.Error.TheVariants as errors
use Rattle.rpki_updown.specs.PayloadType.{payload_type_of_text}
use Rattle.rpki_updown.specs.RequestResourceLimit.{LimitFields, IsContained}

-- ---- how errors of lower layers are passed on: want of memory is always OutOfMemory

-- the Error that an XmlError becomes: Malformed is told by XmlError
abbrev pub of_xml : XmlError → Error
of_xml xml.Malformed = errors.XmlError xml.Malformed
of_xml xml.OutOfMemory = errors.OutOfMemory

-- the Error that a ReadAllError becomes: each variant keeps its name
abbrev pub of_reading : ReadAllError → Error
of_reading read.Read = errors.Read
of_reading read.TooLong = errors.TooLong
of_reading read.OutOfMemory = errors.OutOfMemory

-- the Error that a cause becomes: Malformed is XmlError, and every other one keeps its name
abbrev pub of_cause : Cause → Error
of_cause causes.Malformed = errors.XmlError xml.Malformed
of_cause causes.Read = errors.Read
of_cause causes.Write = errors.Write
of_cause causes.TooLong = errors.TooLong
of_cause causes.OutOfMemory = errors.OutOfMemory

-- the cause of an error of a call that reads or writes a message; every other error has none, and
-- never comes
abbrev pub cause_of : Error → Option Cause
cause_of (errors.XmlError xml.Malformed) = Some causes.Malformed
cause_of errors.CertSyntax = Some causes.Malformed
cause_of errors.InvalidCsrSyntax = Some causes.Malformed
cause_of errors.Read = Some causes.Read
cause_of errors.Write = Some causes.Write
cause_of errors.TooLong = Some causes.TooLong
cause_of errors.OutOfMemory = Some causes.OutOfMemory
cause_of _ = None

-- ---- kinds of messages

-- The answer is InvalidPayloadType, with the text, exactly where the text is no kind of message.
-- OutOfMemory says nothing, and no other one comes.
abbrev pub RefusesPayloadType : List ℕ → Error → Type 0
RefusesPayloadType text (errors.InvalidPayloadType e) =
    (e.0 ≡ text) × (payload_type_of_text text ≡ None)
RefusesPayloadType text errors.OutOfMemory = ⊤
RefusesPayloadType text _ = ⊥

-- ---- limits

-- The answer is Limit, with the set and the limit, exactly where the set does not include all that
-- is stated. OutOfMemory says nothing, and no other one comes.
abbrev pub RefusesLimit : LimitFields → Resources → Error → Type 0
RefusesLimit limit set (errors.Limit s l) =
    (s ≡ set) × (l ≡ limit) × ¬ (IsContained limit set)
RefusesLimit limit set errors.OutOfMemory = ⊤
RefusesLimit limit set _ = ⊥
