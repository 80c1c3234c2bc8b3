-- Signed messages: signed data with one certificate, one or two CRLs and one signer (RFC 5652, 3,
-- 5.1 and 5.2; RFC 6492, 3.1.1;
-- RFC 8181, 2).
use Rattle.std.specs.Prelude.{◌≤◌, ℕ, ℤ, Bool, true, false, Option, None, Some, List, [], ◌∷◌, length}
use Rattle.rpki_common.specs.Chaining.{◌>>=◌}
use Rattle.rpki_der.specs.declared.mode.Mode.{Mode}
use Rattle.rpki_der.specs.declared.mode.Mode.TheVariants.{Ber, Der}
use Rattle.rpki_der.specs.Tags.{sequence, set, context}
use Rattle.rpki_der.specs.Value.{Value, Values, End, ◌▸◌}
use Rattle.rpki_der.specs.Grammar.{any, within, first, done, wrapped, so}
use Rattle.rpki_der.specs.Held.{with_octets}
use Rattle.rpki_der.specs.InDer.{in_der}
use Rattle.rpki_der.specs.Integer.{integer_is}
use Rattle.rpki_der.specs.Oid.{oid_is}
use Rattle.rpki_der.specs.OctetString.{octet_string}
use Rattle.rpki_base.specs.Signature.{SignatureParts}
use Rattle.rpki_base.specs.RpkiSignatureAlgorithm.{RpkiAlgorithm}
use Rattle.rpki_idcert.specs.IdCert.{CertificateFields, identity_certificate}
use Rattle.rpki_sigmsg.specs.ObjectIdentifiers.{signed_data_type, xml_content}
use Rattle.rpki_sigmsg.specs.Algorithm.{digest_algorithm}
use Rattle.rpki_sigmsg.specs.Attributes.{covered}
use Rattle.rpki_sigmsg.specs.Crl.{CrlFields, revocation_list}
use Rattle.rpki_sigmsg.specs.Signer.{SignerFields, signer_info}

-- what a message says: its content; the signer's key identifier, the digest and the time that were
-- signed, the octets that the signature covers, and the signature; the certificate of the signer's
-- key; the one or two CRLs in their order
pub record MessageFields : Type 0 where
  pub content : List ℕ
  pub signer : List ℕ
  pub digest : List ℕ
  pub signing_time : Option ℤ
  pub covered : List ℕ
  pub signature : SignatureParts RpkiAlgorithm
  pub certificate : CertificateFields
  pub crls : List CrlFields

-- a list of one or two
abbrev pub AreOneOrTwo : {X : Type 0} → List X → Type 0
AreOneOrTwo list = (1 ≤ length list) × (length list ≤ 2)

-- the message, and the octets of its parts as they stand in it: the OCTET STRING of the content,
-- the certificate, the first CRL and, where there are two, the second, the signed attributes
-- without what is round them, and the OCTET STRING of the signature
pub record ViewFields : Type 0 where
  pub message : MessageFields
  pub content_value : List ℕ
  pub certificate : List ℕ
  pub crl : List ℕ
  pub second_crl : Option (List ℕ)
  pub attributes : List ℕ
  pub signature_value : List ℕ

--     EncapsulatedContentInfo ::= SEQUENCE {
--       eContentType ContentType,
--       eContent [0] EXPLICIT OCTET STRING OPTIONAL }
--
-- eContentType is id-ct-xml, and eContent has to be there.
-- encapsulated XML: the octets of the OCTET STRING, and its joined octets (RFC 5652, 5.2)
unfoldable pub encapsulated_content : Mode → Value → Option (List ℕ × List ℕ)
encapsulated_content mode = within sequence (λ vs. do
  type ← first (oid_is xml_content) vs
  content ← first (wrapped (context 0) (with_octets (octet_string mode))) type.1
  done content.0 content.1)

-- a value whose octets are a CRL in DER, whatever the mode round it
abbrev pub crl_in_der : Value → Option CrlFields
crl_in_der = so any (in_der (revocation_list Der))

-- the CRLs in their order, the octets of the first, and those of the second, if there is one
pub record CrlSet : Type 0 where
  pub lists : List CrlFields
  pub first : List ℕ
  pub second : Option (List ℕ)

-- the set of a first CRL, and of a second one if there is one, each given as its octets and the CRL
abbrev pub crl_set_of : List ℕ × CrlFields → Option (List ℕ × CrlFields) → CrlSet
crl_set_of one None = record { lists = one.1 ∷ []; first = one.0; second = None }
crl_set_of one (Some other) = record {
  lists = one.1 ∷ other.1 ∷ [];
  first = one.0;
  second = Some other.0;
}

-- the first value, if there is one, and the values behind it
unfoldable pub if_any : {X : Type 0} → (Value → Option X) → Values → Option (Option X × Values)
if_any field End = Some (None, End)
if_any field (v ▸ vs) = field v >>= λ x. Some (Some x, vs)

-- RevocationInfoChoices (RFC 5652, 5.1 and 10.2.1): one CRL, or two. Each is in DER whatever the
-- mode round it.
unfoldable pub crl_set : Value → Option CrlSet
crl_set = within (context 1) (λ vs. do
  one ← first (with_octets crl_in_der) vs
  other ← if_any (with_octets crl_in_der) one.1
  done (crl_set_of one.0 other.0) other.1)

-- the parts of a message as a view of it
abbrev pub view_of : List ℕ × List ℕ → List ℕ × CertificateFields → CrlSet → SignerFields
    → ViewFields
view_of content certificate crls signer = record {
  message = record {
    content = content.1;
    signer = signer.identifier;
    digest = signer.said.digest;
    signing_time = signer.said.signing_time;
    covered = covered signer.attributes;
    signature = signer.signature;
    certificate = certificate.1;
    crls = crls.lists;
  };
  content_value = content.0;
  certificate = certificate.0;
  crl = crls.first;
  second_crl = crls.second;
  attributes = signer.attributes;
  signature_value = signer.signature_value;
}

--     SignedData ::= SEQUENCE {
--       version CMSVersion,
--       digestAlgorithms DigestAlgorithmIdentifiers,
--       encapContentInfo EncapsulatedContentInfo,
--       certificates [0] IMPLICIT CertificateSet OPTIONAL,
--       crls [1] IMPLICIT RevocationInfoChoices OPTIONAL,
--       signerInfos SignerInfos }
--
-- The first, second and last set have exactly one member each: SHA-256, the EE certificate, the
-- signer. The third has its issuer's CRL, or two. Signed data of version 3 (RFC 5652, 5.1).
unfoldable pub signed_parts : Mode → Value → Option ViewFields
signed_parts mode = within sequence (λ vs. do
  version ← first (integer_is 3) vs
  algorithms ← first (wrapped set digest_algorithm) version.1
  content ← first (encapsulated_content mode) algorithms.1
  certificate ← first (wrapped (context 0) (with_octets (identity_certificate mode))) content.1
  crls ← first crl_set certificate.1
  signer ← first (wrapped set (signer_info mode)) crls.1
  done (view_of content.0 certificate.0 crls.0 signer.0) signer.1)

--     ContentInfo ::= SEQUENCE {
--       contentType ContentType,
--       content [0] EXPLICIT ANY DEFINED BY contentType }
--
-- the whole message: content information that holds signed data (RFC 5652, 3)
unfoldable pub viewed_message : Mode → Value → Option ViewFields
viewed_message mode = within sequence (λ vs. do
  type ← first (oid_is signed_data_type) vs
  parts ← first (wrapped (context 0) (signed_parts mode)) type.1
  done parts.0 parts.1)

-- without the octets of the parts
abbrev pub message_of_view : ViewFields → Option MessageFields
message_of_view view = Some view.message

-- a signed message, as a value is read: content information that holds signed data (RFC 5652, 3)
unfoldable pub signed_message : Mode → Value → Option MessageFields
signed_message mode = so (viewed_message mode) message_of_view

-- strictly: in DER; loosely: in BER
abbrev pub mode_of : Bool → Mode
mode_of true = Der
mode_of false = Ber
