-- How an authority's request is made (RFC 2986, 4.1; RFC 6487, 6.1.1 and 6.3; X.690, 10 and 11).
use Rattle.std.specs.Prelude.{◌≡◌, ◌≢◌, ◌⊎◌, ⊤, ℕ, Bool, true, false, if◌then◌else◌, Option, None, Some, List, [], ◌∷◌, ◌++◌, codes}
use Rattle.rpki_common.specs.Causes.{Rose}
use Rattle.rpki_der.specs.declared.mode.Mode.TheVariants.{Der}
use Rattle.rpki_der.specs.Tags.{sequence, set, context, oid_tag, boolean_tag, integer_tag, bit_string_tag, octet_string_tag}
use Rattle.rpki_der.specs.Takes.{BeginsAs}
use Rattle.rpki_der.specs.Whole.{whole_of}
use Rattle.rpki_der.specs.Writing.{der_primitive, der_constructed}
use Rattle.rpki_base.specs.declared.algorithm.SigningAlgorithm.TheVariants.{RsaSha256}
use Rattle.rpki_base.specs.ObjectIdentifiers.{basic_constraints as basic_constraints_name}
use Rattle.rpki_base.specs.PublicKey.{KeyFields, spelled_key}
use Rattle.rpki_base.specs.RpkiSignatureAlgorithm.{RpkiAlgorithm, x509_algorithm, spelled_x509}
use Rattle.rpki_base.specs.Scheme.{Relation}
use Rattle.rpki_base.specs.Signature.{SignatureParts}
use Rattle.rpki_base.specs.SignedData.{Signed, spelled_data}
use Rattle.rpki_text.specs.Uri.{rsync, https, fault_of, path_of, names_directory, joined}
use Rattle.rpki_text.specs.declared.uri.Error.{Error}
use Rattle.rpki_text.specs.declared.uri.Error.TheVariants as uri
use Rattle.rpki_signer.specs.declared.errors.MakeError.{MakeError}
use Rattle.rpki_signer.specs.declared.errors.MakeError.TheVariants as make
use Rattle.rpki_signer.specs.declared.errors.SigningError.TheVariants as signing
use Rattle.rpki_signer.specs.Errors.{signing_text}
use Rattle.rpki_signer.specs.Limits.{IsShort, RefusesKey, StopsBehindKey, default_algorithm}
use Rattle.rpki_signer.specs.Signer.{SignerState, HoldsKey, Stays, SigningFails}
use Rattle.rpki_idcert.specs.Making.{name_of_key}
use Rattle.rpki_cert.specs.declared.construct.CsrError.{CsrError}
use Rattle.rpki_cert.specs.declared.construct.CsrError.TheVariants as csr
use Rattle.rpki_cert.specs.declared.key_usage.KeyUsage.TheVariants.{Ca}
use Rattle.rpki_cert.specs.ObjectIdentifiers as names
use Rattle.rpki_cert.specs.Csr.{RequestFields, certification_request}
use Rattle.rpki_cert.specs.CsrAttributes.{CaAttributes, ca_attributes}

-- ---- what is asked for

-- the URI of a directory: the URI itself, or with a slash behind it where its path names none
abbrev pub slashed : List ℕ → List ℕ
slashed uri = if names_directory (path_of rsync uri) then uri else joined uri (codes "/")

-- where the objects and the manifest of the authority are to be, and where changes are notified
pub record Places : Type 0 where
  pub ca_repository : List ℕ
  pub rpki_manifest : List ℕ
  pub rpki_notify : Option (List ℕ)

-- the octets are a lawful URI, if they are there
abbrev pub IsLawfulIfThere : Option (List ℕ) → Type 0
IsLawfulIfThere None = ⊤
IsLawfulIfThere (Some uri) = fault_of https uri ≡ None

-- each of the places is a lawful URI
pub record AreLawful (places : Places) : Type 0 where
  pub ca_repository : fault_of rsync places.ca_repository ≡ None
  pub rpki_manifest : fault_of rsync places.rpki_manifest ≡ None
  pub rpki_notify : IsLawfulIfThere places.rpki_notify

-- the request of an authority that signs certificates and CRLs
abbrev pub asked_of : KeyFields → Places → RequestFields CaAttributes
asked_of key places = record {
  subject = name_of_key key;
  key = key;
  attributes = record {
    basic_ca = true;
    key_usage = Ca;
    extended_key_usage = None;
    access = record {
      ca_repository = Some places.ca_repository;
      rpki_manifest = Some places.rpki_manifest;
      rpki_notify = places.rpki_notify;
    };
  };
}

-- ---- its spelling

-- the contents octet of a BOOLEAN in DER: FF for true, 00 for false (X.690, 8.2 and 11.1)
abbrev pub flag : Bool → List ℕ
flag true = 255 ∷ []
flag false = 0 ∷ []

-- an extension of a request; the flag is written also where it is false
unfoldable pub requested_extension : List ℕ → Bool → List ℕ → List ℕ
requested_extension identifier critical value =
    der_constructed sequence (der_primitive oid_tag identifier
    ++ (der_primitive boolean_tag (flag critical) ++ der_primitive octet_string_tag value))

-- basicConstraints: a SEQUENCE of TRUE
abbrev pub spelled_authority : List ℕ
spelled_authority = der_constructed sequence (der_primitive boolean_tag (flag true))

-- keyUsage: keyCertSign and cRLSign, with one unused bit
abbrev pub spelled_usage : List ℕ
spelled_usage = der_primitive bit_string_tag (1 ∷ 6 ∷ [])

-- AccessDescription: a SEQUENCE of the method, and of the URI under [6] (RFC 5280, 4.2.2.2 and
-- 4.2.1.6)
unfoldable pub spelled_description : List ℕ → List ℕ → List ℕ
spelled_description method uri =
    der_constructed sequence (der_primitive oid_tag method ++ der_primitive (context 6) uri)

-- the description with the method rpkiNotify, if there is a URI for it (RFC 8182, 3.2)
abbrev pub spelled_notify : Option (List ℕ) → List ℕ
spelled_notify None = []
spelled_notify (Some uri) = spelled_description names.rpki_notify uri

-- SubjectInfoAccessSyntax: a SEQUENCE of caRepository, rpkiManifest, and rpkiNotify if it is there
-- (RFC 6487, 4.8.8.1)
abbrev pub spelled_access : Places → List ℕ
spelled_access places = der_constructed sequence
    (spelled_description names.ca_repository places.ca_repository
    ++ (spelled_description names.rpki_manifest places.rpki_manifest
    ++ spelled_notify places.rpki_notify))

-- basicConstraints, critical, as the request has it
unfoldable pub authority_extension : List ℕ
authority_extension = requested_extension basic_constraints_name true spelled_authority

-- keyUsage, critical, as the request has it
unfoldable pub usage_extension : List ℕ
usage_extension = requested_extension names.key_usage true spelled_usage

-- the extensions in turn: basicConstraints, keyUsage, and subjectInfoAccess, which is not critical
abbrev pub spelled_extensions : Places → List ℕ
spelled_extensions places =
    authority_extension ++ (usage_extension
    ++ requested_extension names.subject_info_access false (spelled_access places))

-- the type of the attribute: extensionRequest (RFC 2985, 5.4.2)
unfoldable pub attribute_name : List ℕ
attribute_name = der_primitive oid_tag names.extension_request

-- the attribute: a SEQUENCE of its type and of a SET that holds the SEQUENCE of the extensions
-- (RFC 2986, 4.1)
abbrev pub spelled_attribute : Places → List ℕ
spelled_attribute places = der_constructed sequence (attribute_name
    ++ der_constructed set (der_constructed sequence (spelled_extensions places)))

-- version 1, which is the INTEGER 0 (RFC 2986, 4.1)
abbrev pub spelled_version : List ℕ
spelled_version = der_primitive integer_tag (0 ∷ [])

-- the fields in their order: the version, the name and the key, and under [0] the attribute
unfoldable pub spelled_info : KeyFields → Places → List ℕ
spelled_info key places = der_constructed sequence (spelled_version
    ++ (name_of_key key ++ (spelled_key key
    ++ der_constructed (context 0) (spelled_attribute places))))

-- ---- the request

-- the request of an authority: what it says, the octets that are signed, and their signature
abbrev pub CaRequest : Type 0
CaRequest = Signed RpkiAlgorithm (RequestFields CaAttributes)

-- what is to be signed: for which key, and where the authority publishes
pub record UnsignedRequest : Type 0 where
  pub key : KeyFields
  pub places : Places

-- the request with a signature (RFC 2986, 4.2)
abbrev pub signed_request_of : UnsignedRequest → SignatureParts RpkiAlgorithm → CaRequest
signed_request_of u signature = record {
  signed = record { slice = spelled_info u.key u.places; signature = signature };
  tbs = asked_of u.key u.places;
}

-- The octets are a request for the identifier's key, signed under it. Whatever stands behind them,
-- they are read as that request.
pub record IsRequestMade {Id : Type 0} (scheme : Relation) (id : Id) (places : Places)
    (before after : SignerState Id) (octets : List ℕ) : Type 0 where
  pub key : KeyFields
  pub holds : HoldsKey before.keyring id key
  pub short : IsShort key.bits
  pub request : CaRequest
  pub tbs : request.tbs ≡ asked_of key places
  pub slice : request.signed.slice ≡ spelled_info key places
  pub algorithm : request.signed.signature.algorithm ≡ default_algorithm
  pub signed : scheme RsaSha256 key request.signed.slice request.signed.signature.value
  pub short_signature : IsShort request.signed.signature.value
  pub octets_are : octets ≡ spelled_data spelled_x509 request.signed
  pub read : (rest : List ℕ) → BeginsAs
      (certification_request ca_attributes (whole_of x509_algorithm) Der) Der (octets ++ rest)
      request
  pub stays : Stays before after
  pub no_fault : after.faults ≡ before.faults

-- the signer held a key for the identifier, which was not too long
pub record IsKeyFound {Id : Type 0} (id : Id) (before : SignerState Id) : Type 0 where
  pub key : KeyFields
  pub holds : HoldsKey before.keyring id key
  pub short : IsShort key.bits

-- Why no request was made: first the signer was asked for the key, then the URI of the repository
-- was tested, and then the signer was asked to sign. Of want of memory nothing is said, and no
-- other error stands for it.
abbrev pub ConstructFails : {Id E : Type 0} → Id → List ℕ → SignerState Id → SignerState Id
    → CsrError E → Type 0
ConstructFails id repository before after (csr.Uri error) =
    (error ≢ uri.OutOfMemory) × (fault_of rsync (slashed repository) ≡ Some error)
    × IsKeyFound id before
ConstructFails id repository before after csr.TooLong = Rose before.overlong after.overlong
ConstructFails id repository before after (csr.Signing error) =
    (error ≢ signing.OutOfMemory) × SigningFails RsaSha256 id before after error
ConstructFails id repository before after csr.OutOfMemory = ⊤

-- Which refusal was the first: the key was refused; or it was given, the URI with its slash is
-- lawful, and the signature was refused.
abbrev pub RefusesInTurn : {Id E : Type 0} → Relation → Id → List ℕ → SignerState Id
    → SignerState Id → MakeError E → Type 0
RefusesInTurn scheme id repository before after error =
    RefusesKey id before after error
    ⊎ ((fault_of rsync (slashed repository) ≡ None) × StopsBehindKey scheme id before after error)

-- where memory ran out, the signer didn't fail
abbrev pub IsFirstRequestRefusal : {Id E : Type 0} → Relation → Id → List ℕ → SignerState Id
    → SignerState Id → CsrError E → Type 0
IsFirstRequestRefusal scheme id repository before after (csr.Uri error) = IsKeyFound id before
IsFirstRequestRefusal {E = E} scheme id repository before after csr.TooLong =
    RefusesInTurn {E = E} scheme id repository before after make.TooLong
IsFirstRequestRefusal scheme id repository before after (csr.Signing error) =
    RefusesInTurn scheme id repository before after (make.Signing error)
IsFirstRequestRefusal scheme id repository before after csr.OutOfMemory =
    after.faults ≡ before.faults

-- ---- errors that become others

-- the CsrError that a MakeError becomes: each variant keeps its name
abbrev pub csr_error_of : {E : Type 0} → MakeError E → CsrError E
csr_error_of make.TooLong = csr.TooLong
csr_error_of (make.Signing error) = csr.Signing error
csr_error_of make.OutOfMemory = csr.OutOfMemory

-- want of memory stands beside what the URI breaks
abbrev pub csr_error_of_uri : {E : Type 0} → Error → CsrError E
csr_error_of_uri uri.OutOfMemory = csr.OutOfMemory
csr_error_of_uri error = csr.Uri error

-- what is printed, where the signer's own errors have these texts
abbrev pub csr_text : {E : Type 0} → (E → Option (List ℕ)) → CsrError E → Option (List ℕ)
csr_text text (csr.Uri error) = Some (codes "the URI with its slash is unlawful")
csr_text text csr.TooLong = Some (codes "key or signature too long")
csr_text text (csr.Signing error) = signing_text text error
csr_text text csr.OutOfMemory = Some (codes "out of memory")
