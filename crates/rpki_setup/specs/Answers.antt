-- What calls answer.
use Rattle.std.specs.Prelude.{◌≡◌, ◌≢◌, ℕ, ℤ, List, false, Option, Some, None, ⊤}
use Rattle.rpki_base.specs.Scheme.{Relation}
use Rattle.rpki_der.specs.declared.error.DecodeError.{DecodeError}
use Rattle.rpki_der.specs.declared.error.DecodeError.TheVariants as der
use Rattle.rpki_der.specs.declared.mode.Mode.TheVariants.{Der}
use Rattle.rpki_der.specs.Takes.{BeginsAs}
use Rattle.rpki_idcert.specs.Checks.{IsTaBelieved}
use Rattle.rpki_idcert.specs.IdCert.{CertificateFields, identity_certificate}
use Rattle.rpki_text.specs.declared.json.JsonError.{JsonError}
use Rattle.rpki_text.specs.declared.json.JsonError.TheVariants as json
use Rattle.rpki_text.specs.Uri.{https, fault_of}
use Rattle.rpki_text.specs.declared.reading.ReadAllError.{ReadAllError}
use Rattle.rpki_text.specs.declared.reading.ReadAllError.TheVariants as read
use Rattle.rpki_text.specs.declared.uri.Error.{Error as UriError}
use Rattle.rpki_text.specs.declared.uri.Error.TheVariants as uri
use Rattle.rpki_xml.specs.declared.error.XmlError.{XmlError}
use Rattle.rpki_xml.specs.declared.error.XmlError.TheVariants as xml
use Rattle.rpki_xmltext.specs.declared.cause.Cause.{Cause}
use Rattle.rpki_xmltext.specs.declared.cause.Cause.TheVariants as causes
use Rattle.rpki_setup.specs.declared.error.Error.{Error}
use Rattle.rpki_setup.specs.declared.error.Error.TheVariants as errors
use Rattle.rpki_setup.specs.ServiceUri.{is_http}

-- ---- how errors of lower layers are passed on: want of memory is always OutOfMemory

-- the Error that an XmlError becomes: Malformed is told by InvalidXml
abbrev pub of_xml : XmlError → Error
of_xml xml.Malformed = errors.InvalidXml xml.Malformed
of_xml xml.OutOfMemory = errors.OutOfMemory

-- the Error that a UriError becomes: each rule that is broken is told by InvalidUri
abbrev pub of_uri : UriError → Error
of_uri uri.TooLong = errors.InvalidUri uri.TooLong
of_uri uri.BadCharacter = errors.InvalidUri uri.BadCharacter
of_uri uri.BadScheme = errors.InvalidUri uri.BadScheme
of_uri uri.BadUri = errors.InvalidUri uri.BadUri
of_uri uri.DotSegments = errors.InvalidUri uri.DotSegments
of_uri uri.OutOfMemory = errors.OutOfMemory

-- the Error that a DecodeError of a trust anchor becomes: Malformed is InvalidTaCertEncoding
abbrev pub of_der : DecodeError → Error
of_der der.Malformed = errors.InvalidTaCertEncoding
of_der der.OutOfMemory = errors.OutOfMemory

-- the Error that a ReadAllError becomes: each variant keeps its name
abbrev pub of_reading : ReadAllError → Error
of_reading read.Read = errors.Read
of_reading read.TooLong = errors.TooLong
of_reading read.OutOfMemory = errors.OutOfMemory

-- the Error that a cause becomes: Malformed is InvalidXml, and every other one keeps its name
abbrev pub of_cause : Cause → Error
of_cause causes.Malformed = errors.InvalidXml xml.Malformed
of_cause causes.Read = errors.Read
of_cause causes.Write = errors.Write
of_cause causes.TooLong = errors.TooLong
of_cause causes.OutOfMemory = errors.OutOfMemory

-- the cause of an error of a call that reads or writes a message; every other error has none, and
-- never comes
abbrev pub cause_of : Error → Option Cause
cause_of (errors.InvalidXml xml.Malformed) = Some causes.Malformed
cause_of errors.Read = Some causes.Read
cause_of errors.Write = Some causes.Write
cause_of errors.TooLong = Some causes.TooLong
cause_of errors.OutOfMemory = Some causes.OutOfMemory
cause_of _ = None

-- ---- service URIs

-- what a JSON text is answered that holds a text with this error
abbrev pub json_of : Error → JsonError
json_of errors.OutOfMemory = json.OutOfMemory
json_of _ = json.Malformed

-- The answer is InvalidUri exactly where the text begins with `http://` in no case and is no https
-- URI, with the first rule that it breaks. OutOfMemory comes only where the text is a service URI,
-- and no other one comes.
abbrev pub RefusesServiceUri : List ℕ → Error → Type 0
RefusesServiceUri text (errors.InvalidUri e) =
    (is_http text ≡ false) × (e ≢ uri.OutOfMemory) × (fault_of https text ≡ Some e)
RefusesServiceUri text errors.OutOfMemory =
    (is_http text ≡ false) → fault_of https text ≡ None
RefusesServiceUri text _ = ⊥

-- ---- certificates

-- the octets begin with this identity certificate, in DER
abbrev pub BeginsCertificate : List ℕ → CertificateFields → Type 0
BeginsCertificate octets c = BeginsAs (identity_certificate Der) Der octets c

-- the octets begin with an identity certificate that is not accepted as a trust anchor's
-- certificate at the moment
pub record HoldsUnbelieved (scheme : Relation) (octets : List ℕ) (when : ℤ) : Type 0 where
  pub certificate : CertificateFields
  pub begins : BeginsCertificate octets certificate
  pub unbelieved : ¬ (IsTaBelieved scheme certificate when)

-- the octets begin with this certificate, and it is accepted as a trust anchor's certificate at the
-- moment
pub record IsBelievedIn (scheme : Relation) (octets : List ℕ) (when : ℤ)
    (certificate : CertificateFields) : Type 0 where
  pub begins : BeginsCertificate octets certificate
  pub believed : IsTaBelieved scheme certificate when

-- The answer is InvalidTaCertEncoding exactly where the octets begin with no identity certificate,
-- and InvalidTaCert exactly where they begin with one of which a check of a trust anchor fails at
-- the moment. OutOfMemory says nothing, and no other one comes.
abbrev pub RefusesCertificate : Relation → List ℕ → ℤ → Error → Type 0
RefusesCertificate scheme octets when errors.InvalidTaCertEncoding =
    (c : CertificateFields) → BeginsCertificate octets c → ⊥
RefusesCertificate scheme octets when errors.InvalidTaCert = HoldsUnbelieved scheme octets when
RefusesCertificate scheme octets when errors.OutOfMemory = ⊤
RefusesCertificate scheme octets when _ = ⊥
