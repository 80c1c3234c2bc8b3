-- What is known of objects, as octets, and what the calls of a publication server answer.
use Rattle.std.specs.Prelude.{◌≡◌, ◌⊎◌, ◌↔◌, ℕ, ℤ, pos, Bool, true, false, IsTrue, Option, None, Some, Ok, Err, List, [], ◌∷◌, ◌++◌, length, map, ⊤}
use Rattle.std.specs.List.{AllByRecursion}
use Rattle.rpki_text.specs.Uri.{fault_of, rsync}
use Rattle.rpki_publication.specs.Message.{Reads, text_of}
use Rattle.rpki_publication.specs.declared.message.Message.{Message}
use Rattle.rpki_publication.specs.declared.message.Message.TheVariants as messages
use Rattle.rpki_publication.specs.declared.reply.Reply.TheVariants as replies
use Rattle.rpki_publication.specs.declared.report_error_code.ReportErrorCode.{ReportErrorCode}
use Rattle.rpki_publication.specs.declared.report_error_code.ReportErrorCode.TheVariants as codes
use Rattle.rpki_ca.specs.Acceptance.{refusal_of}
use Rattle.rpki_ca.specs.Refusal.{status_of}
use Rattle.rpki_ca.specs.declared.receiving.Kind.TheVariants as kinds
use Rattle.rpki_ca.specs.declared.receiving.ReceiveError.{ReceiveError}
use Rattle.rpki_ca.specs.declared.receiving.ReceiveError.TheVariants as errors
use Rattle.rpki_pubserver.specs.Deciding.{Agrees, AreKnown, IsDecided, Knowledge, changes_of}
use Rattle.rpki_pubserver.specs.Messages.{error_alone}
use Rattle.rpki_pubserver.specs.Replies.{reply_to}
use Rattle.rpki_pubserver.specs.Store.{IsStore, Store}
use Rattle.rpki_pubserver.specs.declared.deciding.Decision.{Decision}
use Rattle.rpki_external.specs.Records.{AllFit, Fits, Tagged, record_of, records_of, tagged}
use Rattle.rpki_external.specs.Running.{RefusesText, Written}
use Rattle.rpki_c.specs.Arguments.{IsRsyncIn, IsUnread, OfRead, usage}
use Rattle.rpki_c.specs.HandingOver.{Decided}
use Rattle.rpki_c.specs.declared.outcome.CallRefusal.TheVariants as calls

-- ---- what is known, as records

-- the SHA-256 and the URI of an object that is there
abbrev pub there_tag : ℕ
there_tag = 22

-- the URI of an object that isn't there
abbrev pub absent_tag : ℕ
absent_tag = 23

-- what is known of the object at a URI: its digest and the URI, or the URI alone
abbrev pub known_record : List ℕ × Option (List ℕ) → Tagged
known_record (uri, None) = tagged absent_tag uri
known_record (uri, Some digest) = tagged there_tag (digest ++ uri)

-- the digest, if there is one, has 32 octets
abbrev pub IsDigest : Option (List ℕ) → Type 0
IsDigest None = ⊤
IsDigest (Some digest) = length digest ≡ 32

-- a lawful rsync URI, and a digest, if there is one
pub record CanBeKnown (one : List ℕ × Option (List ℕ)) : Type 0 where
  pub uri : fault_of rsync one.0 ≡ None
  pub digest : IsDigest one.1

-- the octets are records of what is known, one behind the other
pub record AreKnownIn (octets : List ℕ) (known : Knowledge) : Type 0 where
  pub are : octets ≡ records_of (map known_record known)
  pub lawful : AllByRecursion CanBeKnown known
  pub fit : AllFit (map known_record known)

-- the octets begin with this record, and this is behind it
pub record BeginsRecord (octets : List ℕ) (t : Tagged) (rest : List ℕ) : Type 0 where
  pub is : octets ≡ record_of t ++ rest
  pub fits : Fits t

-- a record says this of an object
pub record IsKnownIn (t : Tagged) (one : List ℕ × Option (List ℕ)) : Type 0 where
  pub is : t ≡ known_record one
  pub can : CanBeKnown one

-- ---- decisions

-- a reply behind which no changes are made, or all that the query asks for
abbrev pub decided_tag : Bool → ℕ
decided_tag false = 20
decided_tag true = 21

-- whether the changes are to be made, and the text of the reply
abbrev pub decision_record : Decision → Tagged
decision_record d = tagged (decided_tag d.made) (text_of d.reply)

-- It is what every server replies, and makes of its store, that has this base and of whose store
-- what is known is so; the changes are made exactly where the reply is the success; and something is
-- known of each object that the changes name.
pub record IsDecidedBy (base : List ℕ) (m : Message) (known : Knowledge) (d : Decision) : Type 0
  where
    pub decided : (store : Store) → IsStore store → Agrees store known m → IsDecided base store m d
    pub made : IsTrue d.made ↔ (d.reply ≡ messages.Reply replies.Success)
    pub known_are : AreKnown known (changes_of m)

-- the decision of a message, as a record
abbrev pub DecidesSo : List ℕ → Knowledge → Message → List ℕ → Type 0
DecidesSo base known m output = (d : Decision) × IsDecidedBy base m known d
    × (output ≡ records_of (decision_record d ∷ []))

-- the text reads as this message, of which this is so
pub record OfQuery (text : List ℕ) (is : Message → Type 0) : Type 0 where
  pub message : Message
  pub reads : Reads text message
  pub answered : is message

-- what is decided of the message that the text is; or why nothing is
abbrev pub Decides : List ℕ → List ℕ → Knowledge → Decided → Type 0
Decides text base known (Ok output) = OfQuery text (λ m. DecidesSo base known m output)
Decides text base known (Err calls.UnknownObject) =
    OfQuery text (λ m. AreKnown known (changes_of m) → ⊥)
Decides text base known (Err (calls.General refusal)) = RefusesText kinds.Publication text refusal

-- an argument is read as x, of which this is the answer; or it is read as nothing, which is Usage
abbrev pub OfReadToDecide : {X : Type 0} → (X → Type 0) → (X → Decided → Type 0) → Decided → Type 0
OfReadToDecide {X} reads is answer =
    ((x : X) × reads x × is x answer) ⊎ ((answer ≡ Err (calls.General usage)) × IsUnread reads)

-- the same by what the octets say of objects
abbrev pub DecidesBy : List ℕ → List ℕ → List ℕ → Decided → Type 0
DecidesBy text octets base = OfReadToDecide (AreKnownIn octets) (Decides text base)

-- `publication_decide`
abbrev pub DecidesIn : List ℕ → List ℕ → List ℕ → Decided → Type 0
DecidesIn base text octets = OfReadToDecide (IsRsyncIn base) (DecidesBy text octets)

-- ---- refusals of receipts

-- The error that is replied to a message that was refused with this status: without a signed
-- message, 4, or with a check that fails, 6; and without a message of the protocol, 5.
abbrev pub IsErrorTo : ℤ → ReportErrorCode → Type 0
IsErrorTo status codes.BadCmsSignature = (status ≡ pos 4) ⊎ (status ≡ pos 6)
IsErrorTo status codes.XmlError = status ≡ pos 5
IsErrorTo status other = ⊥

-- the text of the reply with this error alone
abbrev pub IsErrorReply : ReportErrorCode → Written → Type 0
IsErrorReply code answer = answer ≡ Ok (text_of (error_alone code))

-- the reply to a message that was refused with this status
abbrev pub RefusesBy : ℤ → Written → Type 0
RefusesBy status = OfRead (IsErrorTo status) IsErrorReply

-- an error of receipt has this status, and isn't want of memory
abbrev pub HasStatus : ℤ → ReceiveError → Type 0
HasStatus status errors.OutOfMemory = ⊥
HasStatus status e = status ≡ pos (status_of (refusal_of e))

-- the text of what each server replies to a message of which this error comes
abbrev pub RepliesTo : ReceiveError → Written → Type 0
RepliesTo e answer = (base : List ℕ) → (store : Store)
    → answer ≡ Ok (text_of (reply_to base store (Err e)).message)

-- `publication_refuse`
abbrev pub RefusesIn : ℤ → Written → Type 0
RefusesIn status = OfRead (HasStatus status) RepliesTo
