-- What can be written so that it is read again.
use Rattle.std.specs.Prelude.{◌≡◌, ◌<◌, ◌^◌, None, IfSome, length}
use Rattle.std.specs.List.{AllByRecursion}
use Rattle.base64.specs.GeneralPurpose.{IsBytes}
use Rattle.rpki_base.specs.Civil.{IsMoment}
use Rattle.rpki_cert.specs.ReadInDer.{IsCertificate, IsRequest}
use Rattle.rpki_sets.specs.Resources.{Resources}
use Rattle.rpki_sets.specs.Runs.{IsSet}
use Rattle.rpki_text.specs.Handle.{IsHandle}
use Rattle.rpki_text.specs.Uri.{rsync, fault_of}
use Rattle.rpki_updown.specs.Entitlements.{IssuedFields, SigningFields, ClassFields, IssuanceFields, IssuanceRequestFields}
use Rattle.rpki_updown.specs.KeyElement.{KeyElementFields}
use Rattle.rpki_updown.specs.NotPerformedResponse.{NotPerformedFields}
use Rattle.rpki_updown.specs.RequestResourceLimit.{LimitFields}
use Rattle.rpki_xml.specs.Content.{trimmed}
use Rattle.rpki_xml.specs.Lettered.{AreOctets}
use Rattle.rpki_provisioning.specs.declared.payload.Payload.{Payload}
use Rattle.rpki_provisioning.specs.declared.payload.Payload.TheVariants as payload
use Rattle.rpki_provisioning.specs.Shape.{MessageFields}

-- ---- sets. That they are sets of their kind's numbers is kept by their types.

-- each set that the limit states is one of its kind's numbers: 32 bits, and for IPv6 128
pub record IsWritableLimit (l : LimitFields) : Type 0 where
  pub asn : IfSome l.asn (IsSet 32)
  pub ipv4 : IfSome l.ipv4 (IsSet 32)
  pub ipv6 : IfSome l.ipv6 (IsSet 128)

-- each of the three sets is one of its kind's numbers: 32 bits, and for IPv6 128
pub record IsWritableSet (s : Resources) : Type 0 where
  pub asn : IsSet 32 s.asn
  pub ipv4 : IsSet 32 s.ipv4
  pub ipv6 : IsSet 128 s.ipv6

-- ---- certificates. That URIs are lawful, and that certificates were read in DER, is kept by their
-- types.

-- the URI is a lawful rsync URI, what was asked for can be written, and the certificate is read
-- from its octets in DER
pub record IsWritableIssued (c : IssuedFields) : Type 0 where
  pub uri : fault_of rsync c.uri ≡ None
  pub req_limit : IsWritableLimit c.req_limit
  pub cert : IsCertificate c.cert

-- the URI is a lawful rsync URI, and the certificate is read from its octets in DER
pub record IsWritableSigning (c : SigningFields) : Type 0 where
  pub url : fault_of rsync c.url ≡ None
  pub cert : IsCertificate c.cert

-- ---- classes. Their names consist of octets that a document may have; that the time is a moment
-- is kept by its type.

-- the name, the resources, the time and all certificates of the class can be written
pub record IsWritableClass (c : ClassFields) : Type 0 where
  pub class_name : AreOctets c.class_name
  pub resource_set : IsWritableSet c.resource_set
  pub not_after : IsMoment c.not_after
  pub issued_certs : AllByRecursion IsWritableIssued c.issued_certs
  pub signing_cert : IsWritableSigning c.signing_cert

-- the name, the resources and the time of the class, and both certificates, can be written
pub record IsWritableIssuance (i : IssuanceFields) : Type 0 where
  pub class_name : AreOctets i.class_name
  pub resource_set : IsWritableSet i.resource_set
  pub not_after : IsMoment i.not_after
  pub issued_cert : IsWritableIssued i.issued_cert
  pub signing_cert : IsWritableSigning i.signing_cert

-- ---- requests and keys. That a request was read in DER is kept by its type.

-- the name of the class and the limit can be written, and the request is read from what is written
-- of it in DER
pub record IsWritableRequest (a : IssuanceRequestFields) : Type 0 where
  pub class_name : AreOctets a.class_name
  pub limit : IsWritableLimit a.limit
  pub csr : IsRequest a.csr

-- That the identifier is 20 octets is kept by its type.
pub record IsWritableKey (k : KeyElementFields) : Type 0 where
  pub class_name : AreOctets k.class_name
  pub octets : IsBytes k.key
  pub count : length k.key ≡ 20

-- ---- what was not performed. The description consists of octets that a document may have, and has
-- no outer white space; that the status fits 64 bits is kept by its type.

-- the status is below 2^64, and a description consists of octets that a document may have, without
-- outer white space
pub record IsWritableNotPerformed (r : NotPerformedFields) : Type 0 where
  pub status : r.status < 2 ^ 64
  pub description : IfSome r.description AreOctets
  pub trimmed : IfSome r.description (λ t. trimmed t ≡ t)

-- ---- messages

-- what the payload holds can be written so that it is read again; a list request holds nothing
abbrev pub IsWritablePayload : Payload → Type 0
IsWritablePayload payload.List = Unit {0}
IsWritablePayload (payload.ListResponse classes) = AllByRecursion IsWritableClass classes
IsWritablePayload (payload.Issue request) = IsWritableRequest request
IsWritablePayload (payload.IssueResponse response) = IsWritableIssuance response
IsWritablePayload (payload.Revoke request) = IsWritableKey request
IsWritablePayload (payload.RevokeResponse response) = IsWritableKey response
IsWritablePayload (payload.ErrorResponse response) = IsWritableNotPerformed response

-- The type of handles holds any text: that the two are handles is asked for here.
pub record IsWritable (m : MessageFields) : Type 0 where
  pub sender : IsHandle m.sender
  pub recipient : IsHandle m.recipient
  pub payload : IsWritablePayload m.payload
