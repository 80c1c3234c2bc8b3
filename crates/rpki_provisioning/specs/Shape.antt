-- Messages, and their shapes: messages with octets in the place of certificates and requests
-- (RFC 6492, 3).
use Rattle.std.specs.Prelude.{ℕ, List, Option, Some, map}
use Rattle.rpki_base.specs.RpkiSignatureAlgorithm.{x509_algorithm, spelled_x509}
use Rattle.rpki_base.specs.SignedData.{spelled_data}
use Rattle.rpki_cert.specs.Cert.{CertFields, certificate}
use Rattle.rpki_cert.specs.Csr.{certification_request}
use Rattle.rpki_cert.specs.CsrAttributes.{ca_attributes}
use Rattle.rpki_common.specs.Chaining.{◌>>=◌}
use Rattle.rpki_der.specs.declared.mode.Mode.TheVariants.{Der}
use Rattle.rpki_der.specs.Reader.{decoded}
use Rattle.rpki_der.specs.Whole.{whole_of}
use Rattle.rpki_sets.specs.Texts.{read_all}
use Rattle.rpki_updown.specs.Entitlements.{IssuedOf, SigningOf, ClassOf, IssuanceOf, AskedOf, CaRequest, class_with, issuance_with, asked_with}
use Rattle.rpki_updown.specs.declared.payload_type.PayloadType.{PayloadType}
use Rattle.rpki_updown.specs.declared.payload_type.PayloadType.TheVariants as kind
use Rattle.rpki_provisioning.specs.declared.payload.Payload.{Payload}
use Rattle.rpki_provisioning.specs.declared.payload.Payload.TheVariants as payload
use Rattle.rpki_provisioning.specs.declared.shape.PayloadShape.{PayloadShape}
use Rattle.rpki_provisioning.specs.declared.shape.PayloadShape.TheVariants as shape

-- who sends it to whom, and what it says
pub record MessageOf (P : Type 0) : Type 0 where
  pub sender : List ℕ
  pub recipient : List ℕ
  pub payload : P

-- a message, whose certificates and request were read
abbrev pub MessageFields : Type 0
MessageFields = MessageOf Payload

-- the shape of a message, with octets in the place of certificates and of the request
abbrev pub MessageShape : Type 0
MessageShape = MessageOf PayloadShape

-- the kind of a payload, which stands in the attribute `type`
abbrev pub payload_type_of : Payload → PayloadType
payload_type_of payload.List = kind.List
payload_type_of (payload.ListResponse classes) = kind.ListResponse
payload_type_of (payload.Issue request) = kind.Issue
payload_type_of (payload.IssueResponse response) = kind.IssueResponse
payload_type_of (payload.Revoke request) = kind.Revoke
payload_type_of (payload.RevokeResponse response) = kind.RevokeResponse
payload_type_of (payload.ErrorResponse response) = kind.ErrorResponse

-- ---- from a message to its shape: what is written of its certificates and its request

-- what is written of a certificate: its exact octets
abbrev pub certificate_octets : CertFields → List ℕ
certificate_octets c = c.slice

-- what is written of a request: its signed data in DER
abbrev pub request_octets : CaRequest → List ℕ
request_octets r = spelled_data spelled_x509 r.signed

-- the shape of a payload
unfoldable pub payload_shape : Payload → PayloadShape
payload_shape payload.List = shape.List
payload_shape (payload.ListResponse classes) =
    shape.ListResponse (map (class_with certificate_octets) classes)
payload_shape (payload.Issue request) = shape.Issue (asked_with request_octets request)
payload_shape (payload.IssueResponse response) =
    shape.IssueResponse (issuance_with certificate_octets response)
payload_shape (payload.Revoke request) = shape.Revoke request
payload_shape (payload.RevokeResponse response) = shape.RevokeResponse response
payload_shape (payload.ErrorResponse response) = shape.ErrorResponse response

-- the shape of a message
abbrev pub shape_of : MessageFields → MessageShape
shape_of m = record {
  sender = m.sender;
  recipient = m.recipient;
  payload = payload_shape m.payload;
}

-- ---- from a shape to the message: octets are read as what they begin with, in DER

-- the certificate with which octets begin
abbrev pub certificate_of : List ℕ → Option CertFields
certificate_of octets = decoded (certificate Der) Der octets

-- the request of an authority with which octets begin
abbrev pub request_of : List ℕ → Option CaRequest
request_of octets =
    decoded (certification_request ca_attributes (whole_of x509_algorithm) Der) Der octets

-- an issued certificate, with what f reads its octets as, where it does
unfoldable pub issued_by : {C D : Type 0} → (C → Option D) → IssuedOf C → Option (IssuedOf D)
issued_by f c = f c.cert >>= λ d. Some (record { uri = c.uri; req_limit = c.req_limit; cert = d })

-- the issuing key's certificate, with what f reads its octets as, where it does
unfoldable pub signing_by : {C D : Type 0} → (C → Option D) → SigningOf C → Option (SigningOf D)
signing_by f c = f c.cert >>= λ d. Some (record { url = c.url; cert = d })

-- a class, with what f reads the octets of each of its certificates as, where it does all
unfoldable pub class_by : {C D : Type 0} → (C → Option D) → ClassOf C → Option (ClassOf D)
class_by f c = do
  issued ← read_all (issued_by f) c.issued_certs
  signing ← signing_by f c.signing_cert
  Some (record {
    class_name = c.class_name;
    resource_set = c.resource_set;
    not_after = c.not_after;
    issued_certs = issued;
    signing_cert = signing;
  })

-- what is issued, with what f reads the octets of both certificates as, where it does
unfoldable pub issuance_by : {C D : Type 0} → (C → Option D) → IssuanceOf C
    → Option (IssuanceOf D)
issuance_by f i = do
  issued ← issued_by f i.issued_cert
  signing ← signing_by f i.signing_cert
  Some (record {
    class_name = i.class_name;
    resource_set = i.resource_set;
    not_after = i.not_after;
    issued_cert = issued;
    signing_cert = signing;
  })

-- what is asked for, with what f reads the octets of the request as, where it does
unfoldable pub asked_by : {R S : Type 0} → (R → Option S) → AskedOf R → Option (AskedOf S)
asked_by f a =
    f a.csr >>= λ r. Some (record { class_name = a.class_name; limit = a.limit; csr = r })

-- the payload of a shape, with its octets read as certificates or an authority's request, where
-- they all are
unfoldable pub payload_of_shape : PayloadShape → Option Payload
payload_of_shape shape.List = Some payload.List
payload_of_shape (shape.ListResponse classes) =
    read_all (class_by certificate_of) classes >>= λ read. Some (payload.ListResponse read)
payload_of_shape (shape.Issue request) =
    asked_by request_of request >>= λ read. Some (payload.Issue read)
payload_of_shape (shape.IssueResponse response) =
    issuance_by certificate_of response >>= λ read. Some (payload.IssueResponse read)
payload_of_shape (shape.Revoke request) = Some (payload.Revoke request)
payload_of_shape (shape.RevokeResponse response) = Some (payload.RevokeResponse response)
payload_of_shape (shape.ErrorResponse response) = Some (payload.ErrorResponse response)

-- the message of a shape, with its octets read as certificates or an authority's request, where
-- they all are
unfoldable pub message_of_shape : MessageShape → Option MessageFields
message_of_shape s = do
  read ← payload_of_shape s.payload
  Some (record { sender = s.sender; recipient = s.recipient; payload = read })
