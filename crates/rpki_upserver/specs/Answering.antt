-- What a parent answers to octets: what it takes for a message of its child, what comes of it, and
-- what is signed.
use Rattle.std.specs.Prelude.{◌≡◌, ◌≢◌, ℕ, ℤ, List, [], ◌∷◌}
use Rattle.rpki_base.specs.PublicKey.{KeyFields}
use Rattle.rpki_base.specs.Scheme.{Relation}
use Rattle.rpki_sigmsg.specs.declared.create_error.CreateError.{CreateError}
use Rattle.rpki_sigmsg.specs.declared.create_error.CreateError.TheVariants as create
use Rattle.rpki_xml.specs.declared.error.XmlError.TheVariants as xml
use Rattle.rpki_updown.specs.declared.error.Error.{Error}
use Rattle.rpki_updown.specs.declared.error.Error.TheVariants as errors
use Rattle.rpki_provisioning.specs.Cms.{CmsFields}
use Rattle.rpki_provisioning.specs.Shape.{MessageFields}
use Rattle.rpki_provisioning.specs.declared.payload.Payload.{Payload}
use Rattle.rpki_ca.specs.Acceptance.{Accepted, RefusesReceipt}
use Rattle.rpki_ca.specs.Seen.{SignerSeen}
use Rattle.rpki_ca.specs.Sending.{FailsToSign, IsSentAs}
use Rattle.rpki_ca.specs.declared.receiving.Kind.TheVariants as kinds
use Rattle.rpki_ca.specs.declared.receiving.Received.TheVariants as received
use Rattle.rpki_ca.specs.declared.receiving.ReceiveError.{ReceiveError}
use Rattle.rpki_ca.specs.declared.receiving.ReceiveError.TheVariants as receipt
use Rattle.rpki_upserver.specs.declared.parent.AnswerError.{AnswerError}
use Rattle.rpki_upserver.specs.declared.parent.AnswerError.TheVariants as answers
use Rattle.rpki_upserver.specs.Issuer.{IssuerState}
use Rattle.rpki_upserver.specs.Response.{IsResponse}
use Rattle.rpki_upserver.specs.Table.{ParentState, Table, with_table}

-- a parent, and the issuer that it asks
pub record ParentAndIssuer : Type 0 where
  pub parent : ParentState
  pub issuer : IssuerState

-- the pair of this parent and this issuer
abbrev pub with_issuer : ParentState → IssuerState → ParentAndIssuer
with_issuer parent issuer = record { parent = parent; issuer = issuer }

-- the reply that says this goes from the parent to the child
abbrev pub reply : ParentState → Payload → MessageFields
reply p payload = record { sender = p.me; recipient = p.child; payload = payload }

-- ---- what is decided

-- The octets are accepted under the child's key as a message, and the payload is what is answered
-- to it. The table and the issuer are then as the row says that decides, and handles and key stay.
pub record IsDecided (scheme : Relation) (octets : List ℕ) (when : ℤ)
    (before after : ParentAndIssuer) (payload : Payload) : Type 0 where
  pub message : MessageFields
  pub accepted : Accepted scheme kinds.Provisioning octets (before.parent.child_key ∷ []) when
      (received.Provisioning message)
  pub next : Table
  pub response : IsResponse scheme before.parent message (record {
    payload = payload;
    next = next;
    before = before.issuer;
    after = after.issuer;
  })
  pub behind : after.parent ≡ with_table next before.parent

-- the parent is as before, and what its issuer did: it wasn't asked, or memory ran out in its call
pub record IsUndecided (before after : ParentAndIssuer) : Type 0 where
  pub parent : after.parent ≡ before.parent
  pub issuer : after.issuer ≡ before.issuer

-- ---- what is signed

-- the signed message holds the message, and was created with it at the moment
pub record IsSignedResponse {Id : Type 0} (scheme : Relation) (when : ℤ) (signer : SignerSeen Id)
    (message : MessageFields) (c : CmsFields) : Type 0 where
  pub message_is : c.message ≡ message
  pub signed : IsSentAs scheme when signer (received.Provisioning message) c.signed

-- the signed message holds the reply that says what was decided on the octets
pub record IsRequestAnswered {Id : Type 0} (scheme : Relation) (octets : List ℕ) (when : ℤ)
    (before after : ParentAndIssuer) (signer : SignerSeen Id) (c : CmsFields) : Type 0 where
  pub payload : Payload
  pub decided : IsDecided scheme octets when before after payload
  pub signed : IsSignedResponse scheme when signer (reply before.parent payload) c

-- ---- why nothing is sent

-- why nothing is received, as `ProvisioningCms::decode` and `validate_at` say it
abbrev pub error_of : ReceiveError → Error
error_of receipt.CmsDecode = errors.CmsDecode
error_of receipt.XmlError = errors.XmlError xml.Malformed
error_of receipt.CertSyntax = errors.CertSyntax
error_of receipt.InvalidCsrSyntax = errors.InvalidCsrSyntax
error_of (receipt.Validation failed) = errors.Validation failed
error_of receipt.OutOfMemory = errors.OutOfMemory

-- the octets are no message that is accepted under the key, for this reason, which isn't want of
-- memory
pub record RefusesOctets (scheme : Relation) (octets : List ℕ) (key : KeyFields) (when : ℤ)
    (error : Error) : Type 0 where
  pub reason : ReceiveError
  pub given : reason ≢ receipt.OutOfMemory
  pub refuses : RefusesReceipt scheme kinds.Provisioning octets (key ∷ []) when reason
  pub is : error ≡ error_of reason

-- a reply was decided, and isn't signed for this cause; of want of memory no more is said
pub record IsUnsent {Id E : Type 0} (scheme : Relation) (octets : List ℕ) (when : ℤ)
    (before after : ParentAndIssuer) (signer : SignerSeen Id) (error : CreateError E) : Type 0
  where
    pub payload : Payload
    pub decided : IsDecided scheme octets when before after payload
    pub cause : error ≢ create.OutOfMemory
        → FailsToSign scheme when signer (received.Provisioning (reply before.parent payload)) error

-- each cause for which nothing is sent, and what it leaves
abbrev pub SendsNothing : {Id E : Type 0} → Relation → List ℕ → ℤ → ParentAndIssuer
    → ParentAndIssuer → SignerSeen Id → AnswerError E → Type 0
SendsNothing scheme octets when before after signer (answers.Refused error) =
    RefusesOctets scheme octets before.parent.child_key when error × (after ≡ before)
SendsNothing scheme octets when before after signer (answers.Unsent error) =
    IsUnsent scheme octets when before after signer error
SendsNothing scheme octets when before after signer answers.OutOfMemory =
    IsUndecided before after

-- the octets are refused
abbrev pub AreOctetsRefused : {E : Type 0} → AnswerError E → Type 0
AreOctetsRefused (answers.Refused error) = Unit {0}
AreOctetsRefused (answers.Unsent error) = ⊥
AreOctetsRefused answers.OutOfMemory = ⊥

-- how an error of receipt is answered
abbrev pub refused : {E : Type 0} → ReceiveError → AnswerError E
refused receipt.OutOfMemory = answers.OutOfMemory
refused error = answers.Refused (error_of error)
