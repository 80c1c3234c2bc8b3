-- What a parent decided, before it is said in a reply: as the code keeps it.
use Rattle.std.specs.Prelude.{◌≡◌, ℕ, Option, None, Some, map, slice_get}
use Rattle.rpki_base.specs.Scheme.{Relation}
use Rattle.rpki_cert.specs.Cert.{CertFields}
use Rattle.rpki_sets.specs.Resources.{Resources}
use Rattle.rpki_updown.specs.Entitlements.{IssuanceRequestFields, IssuedFields, issuance}
use Rattle.rpki_provisioning.specs.Writable.{IsWritablePayload}
use Rattle.rpki_provisioning.specs.declared.payload.Payload.{Payload}
use Rattle.rpki_provisioning.specs.declared.payload.Payload.TheVariants as payloads
use Rattle.rpki_upserver.specs.declared.decision.Decision.{Decision}
use Rattle.rpki_upserver.specs.declared.decision.Decision.TheVariants as decisions
use Rattle.rpki_upserver.specs.declared.decision.Reason.{Reason}
use Rattle.rpki_upserver.specs.declared.decision.Reason.TheVariants as reasons
use Rattle.rpki_upserver.specs.Answering.{ParentAndIssuer}
use Rattle.rpki_upserver.specs.Issuer.{IsCertificateIssued, IssuerState}
use Rattle.rpki_upserver.specs.Response.{IsEmpty, IsSelfSigned, IsUsed, Outcome, Row, Unless, published, refusal, requested_key}
use Rattle.rpki_upserver.specs.Table.{ClassState, Table, entitled, with_issued, with_table}

-- the status of each reason (RFC 6492, 3.6)
abbrev pub status_of : Reason → ℕ
status_of reasons.UnknownType = 1103
status_of reasons.NoClass = 1201
status_of reasons.NoResources = 1202
status_of reasons.BadRequest = 1203
status_of reasons.UsedKey = 1204
status_of reasons.NoClassToRevoke = 1301
status_of reasons.NoKeyToRevoke = 1302
status_of reasons.ServerError = 2001

-- the certificate at this place of the class at this place
pub record IsIssuance (table : Table) (class_place place : ℕ) (payload : Payload) : Type 0 where
  pub c : ClassState
  pub stands : slice_get table class_place ≡ Some c
  pub issued : IssuedFields
  pub at : slice_get c.issued_certs place ≡ Some issued
  pub is : payload ≡ payloads.IssueResponse (issuance (entitled c) issued)

-- The issuer issued a certificate for these resources on the request, which is kept and stands at
-- this place.
pub record IsIssuedAt (c : ClassState) (request : IssuanceRequestFields) (set : Resources)
    (before after : IssuerState) (next : ClassState) (place : ℕ) : Type 0 where
  pub cert : CertFields
  pub issued : IsCertificateIssued c.class_name request.csr set c.not_after before after cert
  pub kept : next ≡ with_issued (published c request cert) c
  pub at : slice_get next.issued_certs place ≡ Some (published c request cert)

-- what is said of a decision, where this is the table behind it
abbrev pub IsPayloadOf : Table → Decision → Payload → Type 0
IsPayloadOf table (decisions.NotPerformed reason) payload = payload ≡ refusal (status_of reason)
IsPayloadOf table decisions.Listed payload =
    payload ≡ payloads.ListResponse (map entitled table)
IsPayloadOf table (decisions.Issued class_place place) payload =
    IsIssuance table class_place place payload
IsPayloadOf table (decisions.Revoked request) payload =
    payload ≡ payloads.RevokeResponse request

-- what a decision says is there, and can be written so that it is read again
pub record CanBeSaid (table : Table) (decision : Decision) : Type 0 where
  pub payload : Payload
  pub said : IsPayloadOf table decision payload
  pub writable : IsWritablePayload payload

-- What was decided, from parent and issuer to what they are behind it: this outcome comes, which
-- says the decision.
pub record IsDecidedBy (comes : Outcome → Type 0) (before after : ParentAndIssuer)
    (decision : Decision) : Type 0 where
  pub payload : Payload
  pub said : IsPayloadOf after.parent.table decision payload
  pub writable : IsWritablePayload payload
  pub response : comes (record {
    payload = payload;
    next = after.parent.table;
    before = before.issuer;
    after = after.issuer;
  })
  pub behind : after.parent ≡ with_table after.parent.table before.parent

-- the first row that refuses a request for the class, of those before the limit
abbrev pub IsFirstReason : Relation → Table → IssuanceRequestFields → ClassState → Option Reason
    → Type 0
IsFirstReason scheme table request c reason =
    Row (IsEmpty c.resource_set) (reason ≡ Some reasons.NoResources)
    (Unless (IsSelfSigned scheme request.csr) (reason ≡ Some reasons.BadRequest)
    (Row (IsUsed request.class_name (requested_key request) table) (reason ≡ Some reasons.UsedKey)
    (reason ≡ None)))
