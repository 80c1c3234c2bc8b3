-- What calls answer that read messages and write them, for any messages and any type of errors. An
-- error is seen by its cause, where it has one: `cause_of` says which.
use Rattle.std.specs.Prelude.{◌≡◌, ◌≤◌, ◌<◌, ◌^◌, ◌+◌, ℕ, List, length, Result, Ok, Err, Option, Some, IfOk, IfErr, IfSome, OnOk, ⊤}
use Rattle.std.specs.Io.KnownBytes.{Appends, IsAtEnd}
use Rattle.rpki_common.specs.Causes.{Rose}
use Rattle.rpki_common.specs.Limits.{most_content}
use Rattle.rpki_text.specs.Sink.{AppendsPart}
use Rattle.rpki_text.specs.Source.{OfInput, TakesAtMost}
use Rattle.rpki_text.specs.declared.reading.ReadAllError.{ReadAllError}
use Rattle.rpki_text.specs.declared.reading.ReadAllError.TheVariants as read
use Rattle.rpki_xml.specs.Element.{Element}
use Rattle.rpki_xmltext.specs.declared.cause.Cause.{Cause}
use Rattle.rpki_xmltext.specs.declared.cause.Cause.TheVariants as causes
use Rattle.rpki_xmltext.specs.Reading.{IsNoMessage}

-- an error that is nothing but its cause
abbrev pub itself : Cause → Option Cause
itself cause = Some cause

-- the cause for which a source wasn't read to its end
abbrev pub of_reading : ReadAllError → Cause
of_reading read.Read = causes.Read
of_reading read.TooLong = causes.TooLong
of_reading read.OutOfMemory = causes.OutOfMemory

-- the call answers an error with this cause
abbrev pub IsErrBy : {X E : Type 0} → (E → Option Cause) → Result X E → Cause → Type 0
IsErrBy cause_of (Ok x) cause = ⊥
IsErrBy cause_of (Err e) cause = cause_of e ≡ Some cause

-- ---- messages from octets

-- what a cause says of octets: Malformed, that they are no message of the table; OutOfMemory,
-- nothing; no other cause comes
abbrev pub IsNoMessageBy : {M : Type 0} → (Element → Option M) → List ℕ → Option Cause → Type 0
IsNoMessageBy table octets (Some causes.Malformed) = IsNoMessage table octets
IsNoMessageBy table octets (Some causes.OutOfMemory) = ⊤
IsNoMessageBy table octets _ = ⊥

-- The cause is Malformed exactly where the octets are no message of the table. OutOfMemory says
-- nothing, and no other one comes.
abbrev pub RefusesMessage : {M E : Type 0} → (E → Option Cause) → (Element → Option M) → List ℕ → E
    → Type 0
RefusesMessage cause_of table octets e = IsNoMessageBy table octets (cause_of e)

-- ---- messages from a source

-- what a cause says: Malformed, unread holds of what the source had; Read, the faults rose;
-- TooLong, the source had more than 2^31 octets; OutOfMemory, nothing; no other comes
abbrev pub RefusesSourceBy : (List ℕ → Type 0) → Option (List ℕ) → ℕ → ℕ → Option Cause → Type 0
RefusesSourceBy unread rest faults risen (Some causes.Malformed) = OfInput rest unread
RefusesSourceBy unread rest faults risen (Some causes.Read) = Rose faults risen
RefusesSourceBy unread rest faults risen (Some causes.TooLong) =
    OfInput rest (λ octets. most_content < length octets)
RefusesSourceBy unread rest faults risen (Some causes.OutOfMemory) = ⊤
RefusesSourceBy unread rest faults risen _ = ⊥

-- The cause is Read only where the source's faults rose, TooLong only where it had more than 2^31
-- octets to give, and Malformed only where these are refused with this error. OutOfMemory says
-- nothing, and no other one comes.
abbrev pub RefusesSource : {E : Type 0} → (E → Option Cause) → (List ℕ → E → Type 0)
    → Option (List ℕ) → ℕ → ℕ → E → Type 0
RefusesSource cause_of refuses rest faults risen e =
    RefusesSourceBy (λ octets. refuses octets e) rest faults risen (cause_of e)

-- the answer says that all that the source had to give was read: it is a message, or that it is
-- none
abbrev pub IsOfAll : {M E : Type 0} → (E → Option Cause) → Result M E → Type 0
IsOfAll cause_of (Ok m) = ⊤
IsOfAll cause_of (Err e) = cause_of e ≡ Some causes.Malformed

-- What a call answers that reads a source to its end and takes what it gives for a message: by what
-- the source had still to give, before and after, and by its count of faults. `reads` says what
-- octets are read as, and `refuses` which error is answered where they are no message.
pub record Parses {M E : Type 0} (cause_of : E → Option Cause) (reads : List ℕ → M → Type 0)
    (refuses : List ℕ → E → Type 0) (rest left : Option (List ℕ)) (faults risen : ℕ)
    (result : Result M E) : Type 0 where
  -- all that there was is the message, or the answer has its cause
  pub message : IfOk result (λ m. OfInput rest (λ octets. reads octets m))
  pub refused : IfErr result (RefusesSource cause_of refuses rest faults risen)
  -- after a message, and where there is none, nothing is left, and no more than 2^31 octets were
  -- there
  pub end : IsOfAll cause_of result → IsAtEnd left
  pub within : IsOfAll cause_of result → IfSome rest (λ octets. length octets ≤ most_content)
  -- the source fails only where the cause is Read, and no more than one octet past the limit is
  -- taken
  pub kept : ¬ (IsErrBy cause_of result causes.Read) → risen ≡ faults
  pub later : faults ≤ risen
  pub most : TakesAtMost rest left (most_content + 1)

-- ---- messages to a sink

-- what a cause says: Write, the sink's faults rose and a part was written; TooLong, the text has
-- more than 2^31 octets; then, and after OutOfMemory, nothing was written; no other comes
abbrev pub RefusesSinkBy : List ℕ → Option (List ℕ) → Option (List ℕ) → ℕ → ℕ → Option Cause
    → Type 0
RefusesSinkBy text written after faults risen (Some causes.Write) =
    Rose faults risen × AppendsPart written after text × (length text ≤ most_content)
RefusesSinkBy text written after faults risen (Some causes.TooLong) =
    (most_content < length text) × (after ≡ written)
RefusesSinkBy text written after faults risen (Some causes.OutOfMemory) = after ≡ written
RefusesSinkBy text written after faults risen _ = ⊥

-- The cause is TooLong only where the text has more than 2^31 octets, and nothing was written;
-- Write only where the sink's faults rose, and a part from the front was written. After OutOfMemory
-- nothing was written. No other one comes.
abbrev pub RefusesSink : {E : Type 0} → (E → Option Cause) → List ℕ → Option (List ℕ)
    → Option (List ℕ) → ℕ → ℕ → E → Type 0
RefusesSink cause_of text written after faults risen e =
    RefusesSinkBy text written after faults risen (cause_of e)

-- What a call answers that writes a text to a sink: by what was written, before and after, and by
-- the sink's count of faults.
pub record WritesText {E : Type 0} (cause_of : E → Option Cause) (text : List ℕ)
    (written after : Option (List ℕ)) (faults risen : ℕ) (result : Result (Unit {0}) E)
    : Type 0 where
  -- the text was written whole, or the answer has its cause
  pub whole : OnOk result (Appends written after text)
  pub short : OnOk result (length text ≤ most_content)
  pub refused : IfErr result (RefusesSink cause_of text written after faults risen)
  -- the sink fails only where the cause is Write
  pub kept : ¬ (IsErrBy cause_of result causes.Write) → risen ≡ faults
  pub later : faults ≤ risen
