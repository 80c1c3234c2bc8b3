-- What a parent answers to a message of its child, row by row (RFC 6492, 3.3 to 3.6).
use Rattle.std.specs.Prelude.{◌≡◌, ◌⊎◌, ◌||◌, ℕ, true, Option, None, Some, List, [], map}
use Rattle.sha1.specs.Sha1.{sha1}
use Rattle.rpki_common.specs.Causes.{Rose}
use Rattle.rpki_base.specs.Scheme.{Relation}
use Rattle.rpki_base.specs.declared.algorithm.SigningAlgorithm.TheVariants.{RsaSha256}
use Rattle.rpki_cert.specs.Cert.{CertFields}
use Rattle.rpki_sets.specs.Resources.{Resources}
use Rattle.rpki_updown.specs.Entitlements.{CaRequest, IssuanceRequestFields, IssuedFields, issuance}
use Rattle.rpki_updown.specs.KeyElement.{KeyElementFields}
use Rattle.rpki_updown.specs.NotPerformedResponse.{reason}
use Rattle.rpki_updown.specs.RequestResourceLimit.{IsContained, limited_set}
use Rattle.rpki_provisioning.specs.Shape.{MessageFields}
use Rattle.rpki_provisioning.specs.declared.payload.Payload.{Payload}
use Rattle.rpki_provisioning.specs.declared.payload.Payload.TheVariants as payloads
use Rattle.rpki_upserver.specs.Issuer.{IsCertificateIssued, IsRevoked, IssuerState, IssuedNothing}
use Rattle.rpki_upserver.specs.Table.{ClassState, ParentState, Table, change, class_named, entitled, is_issued_elsewhere, is_issued_in, is_revoked, place_of, with_issued, with_revoked}

-- what comes of a message: the payload of the reply, the table behind it, and the issuer's state
-- before and after
pub record Outcome : Type 0 where
  pub payload : Payload
  pub next : Table
  pub before : IssuerState
  pub after : IssuerState

-- a row of a table: where its condition holds this comes, and where it doesn't the rows behind it
-- decide
abbrev pub Row : Type 0 → Type 0 → Type 0 → Type 0
Row condition here behind = (condition × here) ⊎ ((condition → ⊥) × behind)

-- unless its condition holds this comes, and where it holds the rows behind it decide
abbrev pub Unless : Type 0 → Type 0 → Type 0 → Type 0
Unless condition here behind = (condition × behind) ⊎ ((condition → ⊥) × here)

-- ---- what is answered

-- nothing is changed
pub record ChangesNothing (table : Table) (o : Outcome) : Type 0 where
  pub next : o.next ≡ table
  pub issuer : o.after ≡ o.before

-- what was asked for isn't done, for the reason with this status (3.6)
abbrev pub refusal : ℕ → Payload
refusal status = payloads.ErrorResponse (record { status = status; description = reason status })

-- the reply is the refusal with this status, and neither table nor issuer changes
pub record RefusesRequest (status : ℕ) (table : Table) (o : Outcome) : Type 0 where
  pub payload : o.payload ≡ refusal status
  pub stays : ChangesNothing table o

-- The issuer failed, and its count rose: so it is an internal error of the server.
pub record FailsIssuing (table : Table) (o : Outcome) : Type 0 where
  pub payload : o.payload ≡ refusal 2001
  pub next : o.next ≡ table
  pub leaves : IssuedNothing o.before o.after
  pub rose : Rose o.before.faults o.after.faults

-- ---- the list request (3.3)

-- the reply tells of each class what the child is entitled to in it (3.3.2), and neither table nor
-- issuer changes
pub record Lists (table : Table) (o : Outcome) : Type 0 where
  pub payload : o.payload ≡ payloads.ListResponse (map entitled table)
  pub stays : ChangesNothing table o

-- ---- the certificate request (3.4)

-- the identifier of the key that is to be certified
abbrev pub requested_key : IssuanceRequestFields → List ℕ
requested_key request = sha1 request.csr.tbs.key.bits

-- the child has no resources in the class
abbrev pub IsEmpty : Resources → Type 0
IsEmpty set = set ≡ record { asn = []; ipv4 = []; ipv6 = [] }

-- the request is signed under the key that it is for
abbrev pub IsSelfSigned : Relation → CaRequest → Type 0
IsSelfSigned scheme csr =
    scheme RsaSha256 csr.tbs.key csr.signed.slice csr.signed.signature.value

-- the key was revoked in any class, or is certified in another one
abbrev pub IsUsed : List ℕ → List ℕ → Table → Type 0
IsUsed name key table = (is_revoked key table || is_issued_elsewhere name key table) ≡ true

-- the certificate that was issued, where it is published and what was asked for
abbrev pub published : ClassState → IssuanceRequestFields → CertFields → IssuedFields
published c request cert = record {
  uri = place_of c.base (requested_key request);
  req_limit = request.limit;
  cert = cert;
}

-- The issuer issued a certificate for the key of the request in the class, for what the limit
-- leaves of the child's resources, until the time of the class. It is answered with, and stands in
-- the class from now on, in the place of that of the same key if there was one.
pub record Issues (table : Table) (c : ClassState) (request : IssuanceRequestFields) (o : Outcome)
    : Type 0 where
  pub cert : CertFields
  pub issued : IsCertificateIssued request.class_name request.csr
      (limited_set request.limit c.resource_set) c.not_after o.before o.after cert
  pub payload : o.payload
      ≡ payloads.IssueResponse (issuance (entitled c) (published c request cert))
  pub next : o.next ≡ change request.class_name (with_issued (published c request cert)) table

-- the rows for a request in this class: no resources 1202, not signed under its key 1203, key used
-- 1204, limit not contained 1202; else the issuer fails, or issues
abbrev pub IsIssueAnswerIn : Relation → Table → IssuanceRequestFields → ClassState → Outcome
    → Type 0
IsIssueAnswerIn scheme table request c o =
    Row (IsEmpty c.resource_set) (RefusesRequest 1202 table o)
    (Unless (IsSelfSigned scheme request.csr) (RefusesRequest 1203 table o)
    (Row (IsUsed request.class_name (requested_key request) table) (RefusesRequest 1204 table o)
    (Unless (IsContained request.limit c.resource_set) (RefusesRequest 1202 table o)
    (FailsIssuing table o ⊎ Issues table c request o))))

-- the rows for a request, by the class that it names, if there is one
abbrev pub IsIssueAnswer : Relation → Table → IssuanceRequestFields → Option ClassState → Outcome
    → Type 0
IsIssueAnswer scheme table request None o = RefusesRequest 1201 table o
IsIssueAnswer scheme table request (Some c) o = IsIssueAnswerIn scheme table request c o

-- ---- the request to revoke the certificates of a key (3.5)

-- The issuer revoked the certificate of the key in the class, and it is taken out of it.
pub record Revokes (table : Table) (request : KeyElementFields) (o : Outcome) : Type 0 where
  pub revoked : IsRevoked request.class_name request.key o.before o.after
  pub payload : o.payload ≡ payloads.RevokeResponse request
  pub next : o.next ≡ change request.class_name (with_revoked request.key) table

-- the rows for a request to revoke: no class of its name 1301, no certificate of the key in it
-- 1302; else the issuer fails, or revokes
abbrev pub IsRevokeAnswer : Table → KeyElementFields → Option ClassState → Outcome → Type 0
IsRevokeAnswer table request None o = RefusesRequest 1301 table o
IsRevokeAnswer table request (Some c) o =
    Unless (is_issued_in request.key c ≡ true) (RefusesRequest 1302 table o)
    (FailsIssuing table o ⊎ Revokes table request o)

-- ---- messages

-- what is answered to a payload; one that asks for nothing is of no type that a parent knows
abbrev pub IsPayloadAnswer : Relation → Table → Payload → Outcome → Type 0
IsPayloadAnswer scheme table payloads.List o = Lists table o
IsPayloadAnswer scheme table (payloads.Issue request) o =
    IsIssueAnswer scheme table request (class_named request.class_name table) o
IsPayloadAnswer scheme table (payloads.Revoke request) o =
    IsRevokeAnswer table request (class_named request.class_name table) o
IsPayloadAnswer scheme table other o = RefusesRequest 1103 table o

-- the child sends it to this parent
pub record IsFromChild (p : ParentState) (m : MessageFields) : Type 0 where
  pub sender : m.sender ≡ p.child
  pub recipient : m.recipient ≡ p.me

-- what comes of a message
abbrev pub IsResponse : Relation → ParentState → MessageFields → Outcome → Type 0
IsResponse scheme p m o =
    Unless (IsFromChild p m) (RefusesRequest 2001 p.table o)
    (IsPayloadAnswer scheme p.table m.payload o)
