-- What is in a signed message, as a JSON value (RFC 8259). Nothing of it is judged.
--
-- Members stand in the order of their names, as the text has them; what isn't there is null.
use Rattle.std.specs.Prelude.{◌≡◌, ℕ, ℤ, Bool, true, false, ◌&&◌, bytes_eq, if◌then◌else◌, Option, None, Some, option_map, List, [], ◌∷◌, length, map, codes}
use Rattle.hex.specs.Hex.{encode_lower}
use Rattle.serde_json.specs.Data.{Data, null, boolean, number, string, array, object, unsigned, Members, no_members, member}
use Rattle.serde_json.specs.Find.{of_integer}
use Rattle.serde_json.specs.View.{items_of}
use Rattle.serde_json.specs.Written.{compact_text}
use Rattle.sha2.specs.Sha256.{sha256}
use Rattle.rpki_der.specs.Arcs.{oid_text}
use Rattle.rpki_der.specs.Leaf.{LeafFields, one_or_two}
use Rattle.rpki_der.specs.Tags.{integer_tag}
use Rattle.rpki_der.specs.Whole.{whole_of}
use Rattle.rpki_der.specs.declared.mode.Mode.TheVariants.{Der}
use Rattle.rpki_base.specs.declared.algorithm.PublicKeyFormat.{PublicKeyFormat}
use Rattle.rpki_base.specs.declared.algorithm.PublicKeyFormat.TheVariants.{Rsa, EcdsaP256}
use Rattle.rpki_base.specs.declared.rpki_algorithm.RsaIdentifier.{RsaIdentifier}
use Rattle.rpki_base.specs.declared.rpki_algorithm.RsaIdentifier.TheVariants.{RsaEncryption, Sha256WithRsaEncryption}
use Rattle.rpki_base.specs.RpkiSignatureAlgorithm.{RpkiAlgorithm, spelled_x509}
use Rattle.rpki_base.specs.Serial.{significant}
use Rattle.rpki_base.specs.SignedData.{spelled_data}
use Rattle.rpki_idcert.specs.IdCert.{CertificateFields}
use Rattle.rpki_sigmsg.specs.Beginning.{BeginsSigned}
use Rattle.rpki_sigmsg.specs.Crl.{CrlFields}
use Rattle.rpki_sigmsg.specs.Message.{MessageFields}
use Rattle.rpki_sigmsg.specs.ObjectIdentifiers.{xml_content}

-- ---- single values

-- octets: hexadecimal digits of lower case, two each
abbrev pub json_octets : List ℕ → Data
json_octets octets = string (encode_lower octets)

-- how many there are
abbrev pub json_count : ℕ → Data
json_count n = number (unsigned n)

-- a moment: its seconds since 1970
abbrev pub json_moment : ℤ → Data
json_moment when = number (of_integer when)

-- one octet where there is none
abbrev pub at_least_one_octet : List ℕ → List ℕ
at_least_one_octet [] = 0 ∷ []
at_least_one_octet (a ∷ more) = a ∷ more

-- a serial number, or that of a CRL: its octets without the zeros in front, and 00 for the number 0
abbrev pub json_serial : List ℕ → Data
json_serial octets = json_octets (at_least_one_octet (significant octets))

-- what may be there
abbrev pub json_or_null : {X : Type 0} → (X → Data) → Option X → Data
json_or_null form None = null
json_or_null form (Some x) = form x

-- an object of these members
abbrev pub json_members : List (List ℕ × Data) → Members
json_members [] = no_members
json_members (m ∷ more) = member m.0 m.1 (json_members more)

-- ---- algorithms

-- the name of a signature's algorithm (RFC 8017, C)
abbrev pub identifier_name : RsaIdentifier → List ℕ
identifier_name RsaEncryption = codes "rsaEncryption"
identifier_name Sha256WithRsaEncryption = codes "sha256WithRSAEncryption"

-- what stands behind the object identifier (RFC 4055, 5)
abbrev pub parameters_name : Bool → List ℕ
parameters_name true = codes "NULL"
parameters_name false = codes "absent"

-- an AlgorithmIdentifier (RFC 5280, 4.1.1.2)
unfoldable pub algorithm_inspection : List ℕ → Bool → Data
algorithm_inspection name parameters = object (json_members (
    (codes "algorithm", string name)
    ∷ (codes "parameters", string (parameters_name parameters)) ∷ []))

-- in a signer's information: rsaEncryption or sha256WithRSAEncryption (RFC 7935, 2)
abbrev pub cms_inspection : RpkiAlgorithm → Data
cms_inspection a = algorithm_inspection (identifier_name a.identifier) a.null

-- in a CRL: always sha256WithRSAEncryption (RFC 7935, 2)
abbrev pub x509_inspection : RpkiAlgorithm → Data
x509_inspection a = algorithm_inspection (codes "sha256WithRSAEncryption") a.null

-- the algorithm of a key
abbrev pub format_name : PublicKeyFormat → List ℕ
format_name Rsa = codes "RSA"
format_name EcdsaP256 = codes "ECDSA P-256"

--     RSAPublicKey ::= SEQUENCE {
--       modulus INTEGER,
--       publicExponent INTEGER }
--
-- both values are INTEGERs
abbrev pub are_integers : LeafFields → LeafFields → Bool
are_integers first second = bytes_eq first.tag integer_tag && bytes_eq second.tag integer_tag

-- the contents octets of the modulus, in a SEQUENCE of two INTEGERs
abbrev pub modulus_in : Option (LeafFields × Option LeafFields) → Option (List ℕ)
modulus_in None = None
modulus_in (Some (modulus, None)) = None
modulus_in (Some (modulus, Some exponent)) =
    if are_integers modulus exponent then Some modulus.content else None

-- the modulus of the RSA key that the octets are in DER, if they are one (RFC 8017, A.1.1)
unfoldable pub rsa_modulus : List ℕ → Option (List ℕ)
rsa_modulus octets = modulus_in (whole_of one_or_two Der octets)

-- how many octets it has without the zeros in front
abbrev pub modulus_length : List ℕ → Option ℕ
modulus_length octets = option_map (λ modulus. length (significant modulus)) (rsa_modulus octets)

-- ---- the parts

-- the certificate (RFC 5280, 4.1): what it says, the length of its key's modulus and of the BIT
-- STRING that holds the key, and length and SHA-256 of the whole certificate in DER
unfoldable pub certificate_inspection : CertificateFields → Data
certificate_inspection c = object (json_members (
    (codes "authority_key_identifier", json_or_null json_octets c.tbs.authority_key_id)
    ∷ (codes "ca", json_or_null boolean c.tbs.basic_ca)
    ∷ (codes "key_algorithm", string (format_name c.tbs.key.format))
    ∷ (codes "length", json_count (length (spelled_data spelled_x509 c.signed)))
    ∷ (codes "modulus_length", json_or_null json_count (modulus_length c.tbs.key.bits))
    ∷ (codes "not_after", json_moment c.tbs.validity.not_after)
    ∷ (codes "not_before", json_moment c.tbs.validity.not_before)
    ∷ (codes "serial_number", json_serial c.tbs.serial)
    ∷ (codes "sha256", json_octets (sha256 (spelled_data spelled_x509 c.signed)))
    ∷ (codes "subject_key_identifier", json_octets c.tbs.subject_key_id)
    ∷ (codes "subject_public_key_length", json_count (length c.tbs.key.bits)) ∷ []))

-- a CRL (RFC 5280, 5.1): how many certificates it revokes, the algorithm that is signed and the one
-- that stands beside the signature
unfoldable pub crl_inspection : CrlFields → Data
crl_inspection c = object (json_members (
    (codes "authority_key_identifier", json_or_null json_octets c.tbs.authority_key_id)
    ∷ (codes "crl_number", json_or_null json_serial c.tbs.crl_number)
    ∷ (codes "entries", json_count (length c.tbs.revoked.entries))
    ∷ (codes "next_update", json_moment c.tbs.next_update)
    ∷ (codes "signature_algorithm", x509_inspection c.signed.signature.algorithm)
    ∷ (codes "tbs_algorithm", x509_inspection c.tbs.algorithm)
    ∷ (codes "this_update", json_moment c.tbs.this_update) ∷ []))

-- the signed message (RFC 5652, 5.1 and 5.3): its content, which is id-ct-xml, by length and
-- SHA-256; the attributes messageDigest and signingTime; the signer's key identifier; the
-- certificate and the CRLs in their order; the signature, by algorithm and length
unfoldable pub inspection : MessageFields → Data
inspection m = object (json_members (
    (codes "certificate", certificate_inspection m.certificate)
    ∷ (codes "content_length", json_count (length m.content))
    ∷ (codes "content_sha256", json_octets (sha256 m.content))
    ∷ (codes "content_type", string (oid_text xml_content))
    ∷ (codes "crls", array (items_of (map crl_inspection m.crls)))
    ∷ (codes "message_digest", json_octets m.digest)
    ∷ (codes "signature_algorithm", cms_inspection m.signature.algorithm)
    ∷ (codes "signature_length", json_count (length m.signature.value))
    ∷ (codes "signer_identifier", json_octets m.signer)
    ∷ (codes "signing_time", json_or_null json_moment m.signing_time) ∷ []))

-- the octets begin with a signed message, and this text says what is in it
pub record IsInspectedAs (octets text : List ℕ) : Type 0 where
  pub signed : MessageFields
  pub begins : BeginsSigned octets signed
  pub is : text ≡ compact_text (inspection signed)
