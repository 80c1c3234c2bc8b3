-- What is to be signed of a message, of an own trust anchor and of a request, and what they are
-- with their signatures (RFC 5652, 5.4; RFC 5280, 4.1 and 5.1; RFC 6492, 3.1; RFC 8183, 5).
use Rattle.std.specs.Prelude.{true, false, ◌++◌, ◌≡◌, ◌≢◌, ◌≤ℤ◌, ◌≤◌, ◌^◌, ◌⊎◌, ℕ, ℤ, None, Some, List, length, ⊤}
use Rattle.rpki_common.specs.Limits.{most_content}
use Rattle.rpki_base.specs.RpkiSignatureAlgorithm.{RpkiAlgorithm}
use Rattle.rpki_base.specs.Scheme.{Relation}
use Rattle.rpki_base.specs.PublicKey.{KeyFields}
use Rattle.rpki_base.specs.Serial.{serial_of}
use Rattle.rpki_base.specs.Signature.{SignatureParts}
use Rattle.rpki_base.specs.Validity.{ValidityFields}
use Rattle.rpki_base.specs.declared.algorithm.PublicKeyFormat.TheVariants.{Rsa}
use Rattle.rpki_base.specs.declared.algorithm.SigningAlgorithm.TheVariants.{RsaSha256}
use Rattle.rpki_cert.specs.Making.{CaRequest, UnsignedRequest, signed_request_of, slashed, spelled_info}
use Rattle.rpki_idcert.specs.IdCert.{CertificateFields}
use Rattle.rpki_idcert.specs.Making.{made_fields}
use Rattle.rpki_idcert.specs.Spelling.{spelled_tbs}
use Rattle.rpki_idcert.specs.TbsIdCert.{TbsFields}
use Rattle.rpki_sigmsg.specs.Making.{HasWindow, UnsignedFields, window, made_covered, made_crl, signed_message_of}
use Rattle.rpki_sigmsg.specs.Checks.{IsAmong}
use Rattle.rpki_sigmsg.specs.Message.{MessageFields}
use Rattle.rpki_sigmsg.specs.Spelling.{rewritten, spelled_tbs_crl}
use Rattle.rpki_ca.specs.Acceptance.{Accepted, accepted_text, normal_form}
use Rattle.rpki_ca.specs.declared.receiving.Kind.{Kind}
use Rattle.rpki_ca.specs.declared.receiving.Received.{Received}
use Rattle.rpki_signer.specs.Limits.{IsShort, default_algorithm}
use Rattle.rpki_text.specs.Uri.{fault_of, rsync}
use Rattle.rpki_text.specs.declared.uri.Error.{Error}
use Rattle.rpki_text.specs.declared.uri.Error.TheVariants as uri
use Rattle.rpki_external.specs.declared.preparing.Plan.{Plan}
use Rattle.rpki_external.specs.declared.preparing.Signatures.{Signatures}
use Rattle.rpki_external.specs.declared.preparing.PrepareError.{PrepareError}
use Rattle.rpki_external.specs.declared.preparing.PrepareError.TheVariants as errors
use Rattle.rpki_external.specs.declared.preparing_requests.RequestPlan.{RequestPlan}

-- ---- what is to be signed

-- of a content by a plan: the content with the moment, an empty CRL of the issuing key, and that
-- key's certificate for the other
abbrev pub unsigned : List ℕ → Plan → UnsignedFields
unsigned content p = record {
  content = record { content = content; moment = p.when };
  crl = made_crl p.issuing_key p.when;
  certificate = made_fields false p.issuing_key p.key p.serial (window p.when);
}

-- the octets of the attributes in a SET
abbrev pub attributes_to_sign : List ℕ → Plan → List ℕ
attributes_to_sign content p = made_covered content p.when

-- the octets of the CRL's fields
abbrev pub crl_to_sign : Plan → List ℕ
crl_to_sign p = spelled_tbs_crl (made_crl p.issuing_key p.when)

-- the octets of the certificate's fields
abbrev pub certificate_to_sign : Plan → List ℕ
certificate_to_sign p =
    spelled_tbs (made_fields false p.issuing_key p.key p.serial (window p.when))

-- ---- what can be signed

-- the content has at most 2^31 octets, and each key at most 2^16
pub record AreWithinLimits (content : List ℕ) (p : Plan) : Type 0 where
  pub text : length content ≤ most_content
  pub issuing_key : IsShort p.issuing_key.bits
  pub key : IsShort p.key.bits

-- both keys are RSA keys (RFC 7935, 3)
pub record AreRsa (p : Plan) : Type 0 where
  pub issuing_key : p.issuing_key.format ≡ Rsa
  pub key : p.key.format ≡ Rsa

-- the moment has a window, the serial number is one, nothing is too long, and the keys are two RSA
-- keys
pub record CanPrepare (content : List ℕ) (p : Plan) : Type 0 where
  pub window_is : HasWindow p.when
  pub twenty : length p.serial ≡ 20
  pub within : AreWithinLimits content p
  pub formats : AreRsa p
  pub other : p.key ≢ p.issuing_key

-- when each error comes, and none before it; OutOfMemory says nothing
abbrev pub PrepareFails : List ℕ → Plan → PrepareError → Type 0
PrepareFails content p errors.Moment = HasWindow p.when → ⊥
PrepareFails content p errors.TooLong = HasWindow p.when × (AreWithinLimits content p → ⊥)
PrepareFails content p errors.IncompatibleKey =
    HasWindow p.when × AreWithinLimits content p × (AreRsa p → ⊥)
PrepareFails content p errors.KeyReused =
    HasWindow p.when × AreWithinLimits content p × AreRsa p × (p.key ≡ p.issuing_key)
PrepareFails content p (errors.Uri error) = ⊥
PrepareFails content p errors.OutOfMemory = ⊤

-- ---- the message

-- octets as a signature of RSA with SHA-256, under rsaEncryption with NULL
abbrev pub signature_of : List ℕ → SignatureParts RpkiAlgorithm
signature_of octets = record { algorithm = default_algorithm; value = octets }

-- the message of this content by the plan, with these three signatures
abbrev pub finished : List ℕ → Plan → Signatures → MessageFields
finished content p s = signed_message_of (unsigned content p)
    (signature_of s.attributes) (signature_of s.crl) (signature_of s.certificate)

-- each of the three signatures has at most 2^16 octets
pub record AreShort (s : Signatures) : Type 0 where
  pub attributes : IsShort s.attributes
  pub crl : IsShort s.crl
  pub certificate : IsShort s.certificate

-- why there is no message: nothing is prepared, or a signature is too long
abbrev pub FinishFails : List ℕ → Plan → Signatures → PrepareError → Type 0
FinishFails content p s errors.TooLong =
    PrepareFails content p errors.TooLong ⊎ (CanPrepare content p × (AreShort s → ⊥))
FinishFails content p s error = PrepareFails content p error

-- the signatures are those of the three under their keys
pub record AreSignatures (scheme : Relation) (content : List ℕ) (p : Plan) (s : Signatures) : Type 0
  where
    pub attributes : scheme RsaSha256 p.key (attributes_to_sign content p) s.attributes
    pub crl : scheme RsaSha256 p.issuing_key (crl_to_sign p) s.crl
    pub certificate : scheme RsaSha256 p.issuing_key (certificate_to_sign p) s.certificate

-- the moment is a second of the plan's window
pub record IsInWindow (p : Plan) (when : ℤ) : Type 0 where
  pub from : (window p.when).not_before ≤ℤ when
  pub to : when ≤ℤ (window p.when).not_after

-- the signed message of this one by the plan, with these signatures: written anew it is accepted as
-- the normal form, where the signatures hold, whatever stands behind it, under each list of keys
-- that holds the issuing key, at each second of the window
pub record IsAcceptedSo (scheme : Relation) (kind : Kind) (m : Received) (p : Plan) (s : Signatures)
    (octets : List ℕ) : Type 0 where
  pub are : octets ≡ rewritten (finished (accepted_text m) p s)
  pub accepted : AreSignatures scheme (accepted_text m) p s
      → (keys : List KeyFields) → IsAmong keys p.issuing_key
      → (when : ℤ) → IsInWindow p when → (rest : List ℕ)
      → Accepted scheme kind (octets ++ rest) keys when (normal_form m)

-- ---- the own trust anchor

-- the fields of a key's own certificate: serial number 1, cA true, and this validity
abbrev pub anchor_fields : KeyFields → ValidityFields → TbsFields
anchor_fields key validity = made_fields true key key (serial_of 1) validity

-- the key is an RSA key, and has at most 2^16 octets
pub record CanPrepareAnchor (key : KeyFields) : Type 0 where
  pub within : IsShort key.bits
  pub format : key.format ≡ Rsa

-- when each error comes, and none before it; OutOfMemory says nothing
abbrev pub PrepareAnchorFails : KeyFields → PrepareError → Type 0
PrepareAnchorFails key errors.TooLong = IsShort key.bits → ⊥
PrepareAnchorFails key errors.IncompatibleKey = IsShort key.bits × (key.format ≢ Rsa)
PrepareAnchorFails key errors.OutOfMemory = ⊤
PrepareAnchorFails key other = ⊥

-- the certificate with this signature
abbrev pub finished_anchor : KeyFields → ValidityFields → List ℕ → CertificateFields
finished_anchor key validity signature = record {
  signed = record {
    slice = spelled_tbs (anchor_fields key validity);
    signature = signature_of signature;
  };
  tbs = anchor_fields key validity;
}

-- why there is no certificate: nothing is prepared, or the signature has more than 2^16 octets
abbrev pub FinishAnchorFails : KeyFields → List ℕ → PrepareError → Type 0
FinishAnchorFails key signature errors.TooLong =
    PrepareAnchorFails key errors.TooLong ⊎ (CanPrepareAnchor key × (IsShort signature → ⊥))
FinishAnchorFails key signature error = PrepareAnchorFails key error

-- ---- a certificate request

-- of whose key, and where the authority publishes: at the repository's URI with a slash behind it
abbrev pub unsigned_request : RequestPlan → UnsignedRequest
unsigned_request p = record {
  key = p.key;
  places = record {
    ca_repository = slashed p.ca_repository;
    rpki_manifest = p.rpki_manifest;
    rpki_notify = p.rpki_notify;
  };
}

-- the octets of the request's fields
abbrev pub request_to_sign : RequestPlan → List ℕ
request_to_sign p = spelled_info p.key (unsigned_request p).places

-- the key is an RSA key of at most 2^16 octets, and the repository's URI with its slash is lawful
pub record CanPrepareRequest (p : RequestPlan) : Type 0 where
  pub within : IsShort p.key.bits
  pub format : p.key.format ≡ Rsa
  pub lawful : fault_of rsync (slashed p.ca_repository) ≡ None

-- when each error comes, and none before it; OutOfMemory says nothing
abbrev pub PrepareRequestFails : RequestPlan → PrepareError → Type 0
PrepareRequestFails p errors.TooLong = IsShort p.key.bits → ⊥
PrepareRequestFails p errors.IncompatibleKey = IsShort p.key.bits × (p.key.format ≢ Rsa)
PrepareRequestFails p (errors.Uri e) =
    IsShort p.key.bits × (p.key.format ≡ Rsa) × (e ≢ uri.OutOfMemory)
    × (fault_of rsync (slashed p.ca_repository) ≡ Some e)
PrepareRequestFails p errors.OutOfMemory = ⊤
PrepareRequestFails p other = ⊥

-- the request with this signature
abbrev pub finished_request : RequestPlan → List ℕ → CaRequest
finished_request p signature =
    signed_request_of (unsigned_request p) (signature_of signature)

-- why there is no request: nothing is prepared, or the signature has more than 2^16 octets
abbrev pub FinishRequestFails : RequestPlan → List ℕ → PrepareError → Type 0
FinishRequestFails p signature errors.TooLong =
    PrepareRequestFails p errors.TooLong ⊎ (CanPrepareRequest p × (IsShort signature → ⊥))
FinishRequestFails p signature error = PrepareRequestFails p error

-- want of memory stands beside what a URI breaks
abbrev pub prepare_error_of_uri : Error → PrepareError
prepare_error_of_uri uri.OutOfMemory = errors.OutOfMemory
prepare_error_of_uri error = errors.Uri error
