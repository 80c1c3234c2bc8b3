-- What a receiver accepts, and what is answered where it doesn't (RFC 6492, 3.1; RFC 8181, 2).
use Rattle.std.specs.Prelude.{◌≡◌, ℕ, ℤ, List, Result, Ok, Err, MatchResult, ⊤}
use Rattle.rpki_base.specs.PublicKey.{KeyFields}
use Rattle.rpki_base.specs.Scheme.{Relation}
use Rattle.rpki_base.specs.Checks.{failing}
use Rattle.rpki_base.specs.declared.validation.ValidationError.{ValidationError}
use Rattle.rpki_sigmsg.specs.Checks.{kind_of, IsBelievedUnder, IsUnbelieved, IsFirstBelieved, AreOutcomes, ranked}
use Rattle.rpki_sigmsg.specs.Beginning.{BeginsSigned, HoldsContent}
use Rattle.rpki_sigmsg.specs.Message.{MessageFields}
use Rattle.rpki_publication.specs.Message as publication
use Rattle.rpki_publication.specs.declared.error.Error as publication_errors
use Rattle.rpki_publication.specs.declared.error.Error.TheVariants as publication_error
use Rattle.rpki_provisioning.specs.Answers as faults
use Rattle.rpki_provisioning.specs.Message as provisioning
use Rattle.rpki_provisioning.specs.Writable as writable
use Rattle.rpki_updown.specs.declared.error.Error as provisioning_errors
use Rattle.rpki_updown.specs.declared.error.Error.TheVariants as provisioning_error
use Rattle.rpki_ca.specs.declared.receiving.Kind.{Kind}
use Rattle.rpki_ca.specs.declared.receiving.Kind.TheVariants as kinds
use Rattle.rpki_ca.specs.declared.receiving.Received.{Received}
use Rattle.rpki_ca.specs.declared.receiving.Received.TheVariants as received
use Rattle.rpki_ca.specs.declared.receiving.ReceiveError.{ReceiveError}
use Rattle.rpki_ca.specs.declared.receiving.ReceiveError.TheVariants as errors
use Rattle.rpki_ca.specs.declared.refusals.Refusal.{Refusal}
use Rattle.rpki_ca.specs.declared.refusals.Refusal.TheVariants as refusals

-- the octets read as this message of the kind
abbrev pub ReadsAs : Kind → List ℕ → Received → Type 0
ReadsAs kinds.Publication octets (received.Publication m) = publication.Reads octets m
ReadsAs kinds.Provisioning octets (received.Provisioning m) = provisioning.Reads octets m
ReadsAs kind octets message = ⊥

-- the protocol of a message
abbrev pub protocol_of : Received → Kind
protocol_of (received.Publication m) = kinds.Publication
protocol_of (received.Provisioning m) = kinds.Provisioning

-- the text of a message
abbrev pub accepted_text : Received → List ℕ
accepted_text (received.Publication m) = publication.text_of m
accepted_text (received.Provisioning m) = provisioning.text_of m

-- a message whose text is read as its normal form
abbrev pub IsWritable : Received → Type 0
IsWritable (received.Publication m) = publication.IsWritable m
IsWritable (received.Provisioning m) = writable.IsWritable m

-- the normal form of a message: a message of the provisioning protocol is its own
abbrev pub normal_form : Received → Received
normal_form (received.Publication m) = received.Publication (publication.normal_form m)
normal_form (received.Provisioning m) = received.Provisioning m

-- ---- octets that are no message of the kind

-- the octets have not the form of a message of the kind
abbrev pub HasNoForm : Kind → List ℕ → Type 0
HasNoForm kinds.Publication octets = publication.IsNoMessage octets
HasNoForm kinds.Provisioning octets = provisioning.HasNoShape octets

-- the octets have the form of a message of the kind, and the octets of a certificate in it begin
-- with none
abbrev pub HoldsNoCertificate : Kind → List ℕ → Type 0
HoldsNoCertificate kinds.Publication octets = ⊥
HoldsNoCertificate kinds.Provisioning octets = faults.HoldsNoCertificate octets

-- the octets have the form of a message of the kind, and the octets of the request in it begin with
-- none
abbrev pub HoldsNoRequest : Kind → List ℕ → Type 0
HoldsNoRequest kinds.Publication octets = ⊥
HoldsNoRequest kinds.Provisioning octets = faults.HoldsNoRequest octets

-- ---- what is accepted

-- The octets begin with a signed message, in BER. One of the keys issued its certificate and its
-- CRLs, the certificate's key signed it, and all fourteen checks hold under that key at the moment.
-- Its content reads as the message.
pub record Accepted (scheme : Relation) (kind : Kind) (octets : List ℕ) (keys : List KeyFields)
    (when : ℤ) (m : Received) : Type 0 where
  pub signed : MessageFields
  pub begins : BeginsSigned octets signed
  pub believed : IsBelievedUnder scheme signed keys when
  pub reads : ReadsAs kind signed.content m

-- The octets begin with a signed message, which is believed under the key at this place, from 0,
-- and under none before it. Its content reads as the message.
pub record AcceptedAt (scheme : Relation) (kind : Kind) (octets : List ℕ) (keys : List KeyFields)
    (when : ℤ) (m : Received) (place : ℕ) : Type 0 where
  pub signed : MessageFields
  pub begins : BeginsSigned octets signed
  pub believed : IsFirstBelieved scheme signed keys when place
  pub reads : ReadsAs kind signed.content m

-- the octets begin with no signed message
abbrev pub HoldsNoSigned : List ℕ → Type 0
HoldsNoSigned octets = (signed : MessageFields) → BeginsSigned octets signed → ⊥

-- The octets begin with a signed message whose content is a message of the kind, and which is
-- believed under none of the keys. The greatest of the first checks that fail, one under each key,
-- is that of the error, whatever the scheme answers.
pub record FailsCheck (scheme : Relation) (kind : Kind) (octets : List ℕ) (keys : List KeyFields)
    (when : ℤ) (error : ValidationError) : Type 0 where
  pub signed : MessageFields
  pub begins : BeginsSigned octets signed
  pub message : Received
  pub reads : ReadsAs kind signed.content message
  pub none : IsUnbelieved scheme signed keys when
  pub greatest : (outcomes : List (Result (Unit {0}) ℕ))
      → AreOutcomes scheme signed keys when outcomes
      → failing kind_of (ranked outcomes) ≡ Err error

-- when each error comes; OutOfMemory says nothing
abbrev pub RefusesReceipt : Relation → Kind → List ℕ → List KeyFields → ℤ → ReceiveError → Type 0
RefusesReceipt scheme kind octets keys when errors.CmsDecode = HoldsNoSigned octets
RefusesReceipt scheme kind octets keys when errors.XmlError = HoldsContent (HasNoForm kind) octets
RefusesReceipt scheme kind octets keys when errors.CertSyntax =
    HoldsContent (HoldsNoCertificate kind) octets
RefusesReceipt scheme kind octets keys when errors.InvalidCsrSyntax =
    HoldsContent (HoldsNoRequest kind) octets
RefusesReceipt scheme kind octets keys when (errors.Validation e) =
    FailsCheck scheme kind octets keys when e
RefusesReceipt scheme kind octets keys when errors.OutOfMemory = ⊤

-- what is received of octets: an accepted message, or why there is none
abbrev pub IsReceived : Relation → Kind → List ℕ → List KeyFields → ℤ
    → Result Received ReceiveError → Type 0
IsReceived scheme kind octets keys when result =
    MatchResult result (Accepted scheme kind octets keys when)
    (RefusesReceipt scheme kind octets keys when)

-- what is received of octets, with the place of the first key under which the message is accepted,
-- or why there is none
abbrev pub IsReceivedUnder : Relation → Kind → List ℕ → List KeyFields → ℤ
    → Result (Received × ℕ) ReceiveError → Type 0
IsReceivedUnder scheme kind octets keys when result =
    MatchResult result (λ r. AcceptedAt scheme kind octets keys when r.0 r.1)
    (RefusesReceipt scheme kind octets keys when)

-- the answer without the place of the key
abbrev pub without_place : Result (Received × ℕ) ReceiveError → Result Received ReceiveError
without_place (Ok (message, place)) = Ok message
without_place (Err error) = Err error

-- the answer says that a signed message was found
abbrev pub FindsSigned : {X : Type 0} → Result X ReceiveError → Type 0
FindsSigned (Ok x) = ⊤
FindsSigned (Err errors.XmlError) = ⊤
FindsSigned (Err errors.CertSyntax) = ⊤
FindsSigned (Err errors.InvalidCsrSyntax) = ⊤
FindsSigned (Err (errors.Validation e)) = ⊤
FindsSigned (Err errors.CmsDecode) = ⊥
FindsSigned (Err errors.OutOfMemory) = ⊥

-- how an error of the publication protocol is passed on
abbrev pub of_publication : publication_errors.Error → ReceiveError
of_publication publication_error.CmsDecode = errors.CmsDecode
of_publication (publication_error.Validation e) = errors.Validation e
of_publication publication_error.OutOfMemory = errors.OutOfMemory
of_publication other = errors.XmlError

-- how an error of the provisioning protocol is passed on
abbrev pub of_provisioning : provisioning_errors.Error → ReceiveError
of_provisioning provisioning_error.CmsDecode = errors.CmsDecode
of_provisioning provisioning_error.CertSyntax = errors.CertSyntax
of_provisioning provisioning_error.InvalidCsrSyntax = errors.InvalidCsrSyntax
of_provisioning (provisioning_error.Validation e) = errors.Validation e
of_provisioning provisioning_error.OutOfMemory = errors.OutOfMemory
of_provisioning other = errors.XmlError

-- how an error is answered
abbrev pub refusal_of : ReceiveError → Refusal
refusal_of errors.CmsDecode = refusals.CmsDecode
refusal_of errors.XmlError = refusals.XmlError
refusal_of errors.CertSyntax = refusals.CertSyntax
refusal_of errors.InvalidCsrSyntax = refusals.InvalidCsrSyntax
refusal_of (errors.Validation e) = refusals.Validation e.check
refusal_of errors.OutOfMemory = refusals.OutOfMemory
