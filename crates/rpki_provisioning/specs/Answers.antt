-- What calls answer that read messages and write them.
use Rattle.std.specs.Prelude.{◌≡◌, ℕ, ◌<◌, ◌^◌, List, [], ◌∷◌, ◌++◌, length, map, Any, Option, None, Some, Result, ⊤}
use Rattle.std.specs.List.{flat_map}
use Rattle.rpki_common.specs.Limits.{most_content}
use Rattle.rpki_base.specs.declared.validation.ValidationError.{ValidationError}
use Rattle.rpki_der.specs.declared.error.DecodeError.{DecodeError}
use Rattle.rpki_der.specs.declared.error.DecodeError.TheVariants as der
use Rattle.rpki_sigmsg.specs.Checks.{passed_on}
use Rattle.rpki_xml.specs.declared.error.XmlError.TheVariants as xml
use Rattle.rpki_updown.specs.declared.error.Error.{Error}
use Rattle.rpki_updown.specs.declared.error.Error.TheVariants as errors
use Rattle.rpki_updown.specs.Entitlements.{ClassOf}
use Rattle.rpki_provisioning.specs.declared.shape.PayloadShape.{PayloadShape}
use Rattle.rpki_provisioning.specs.declared.shape.PayloadShape.TheVariants as shape
use Rattle.rpki_provisioning.specs.Message.{HasShape, HasNoShape}
use Rattle.rpki_provisioning.specs.Shape.{MessageShape, certificate_of, request_of}

-- where the octets begin with no signed message: CmsDecode, or want of memory
abbrev pub of_der : DecodeError → Error
of_der der.Malformed = errors.CmsDecode
of_der der.OutOfMemory = errors.OutOfMemory

-- ---- octets that are no certificate, or no request

-- the octets in a class that are to be certificates: the issued ones, and the issuing key's last
abbrev pub class_certificates : ClassOf (List ℕ) → List (List ℕ)
class_certificates c = map (λ i. i.cert) c.issued_certs ++ c.signing_cert.cert ∷ []

-- the octets that are to be certificates
abbrev pub certificates_of : PayloadShape → List (List ℕ)
certificates_of (shape.ListResponse classes) = flat_map class_certificates classes
certificates_of (shape.IssueResponse i) = i.issued_cert.cert ∷ i.signing_cert.cert ∷ []
certificates_of _ = []

-- the octets that are to be a request; no message holds certificates and a request
abbrev pub request_in_shape : PayloadShape → Option (List ℕ)
request_in_shape (shape.Issue request) = Some request.csr
request_in_shape _ = None

-- the octets have a shape, in which the octets of some certificate begin with none, in DER
pub record HoldsNoCertificate (octets : List ℕ) : Type 0 where
  pub shape : MessageShape
  pub has : HasShape octets shape
  pub unread : Any (λ o. certificate_of o ≡ None) (certificates_of shape.payload)

-- the octets have a shape, in which the octets of the request begin with none, in DER
pub record HoldsNoRequest (octets : List ℕ) : Type 0 where
  pub shape : MessageShape
  pub has : HasShape octets shape
  pub request : List ℕ
  pub is : request_in_shape shape.payload ≡ Some request
  pub unread : request_of request ≡ None

-- ---- messages from octets

-- The answer is XmlError, of malformed XML, exactly where the octets have no shape; CertSyntax and
-- InvalidCsrSyntax exactly where they have one, and a certificate or the request in it is none.
-- OutOfMemory says nothing, and no other one comes.
abbrev pub RefusesMessage : List ℕ → Error → Type 0
RefusesMessage octets (errors.XmlError e) = (e ≡ xml.Malformed) × HasNoShape octets
RefusesMessage octets errors.CertSyntax = HoldsNoCertificate octets
RefusesMessage octets errors.InvalidCsrSyntax = HoldsNoRequest octets
RefusesMessage octets errors.OutOfMemory = ⊤
RefusesMessage octets _ = ⊥

-- ---- texts

-- The answer is TooLong only where the text has more than 2^31 octets. OutOfMemory says nothing,
-- and no other one comes.
abbrev pub RefusesText : List ℕ → Error → Type 0
RefusesText text errors.TooLong = most_content < length text
RefusesText text errors.OutOfMemory = ⊤
RefusesText text _ = ⊥

-- ---- checks

-- the answer of the checks, as an error of the protocol
abbrev pub validated : {X : Type 0} → Result X ValidationError → Result X Error
validated answer = passed_on errors.Validation answer
