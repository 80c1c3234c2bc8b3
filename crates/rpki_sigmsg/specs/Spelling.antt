-- How CRLs and signed messages are written in DER (RFC 5280, 5.1; RFC 5652, 5.1 and 5.3; X.690, 10
-- and 11). What was signed is written as it is held.
use Rattle.std.specs.Prelude.{ℕ, ◌^◌, ◌<◌, Option, None, Some, List, [], ◌∷◌, ◌++◌, length, false}
use Rattle.rpki_der.specs.Tags.{sequence, set, context, oid_tag, integer_tag, octet_string_tag}
use Rattle.rpki_der.specs.Writing.{der_primitive, der_constructed}
use Rattle.rpki_base.specs.ObjectIdentifiers as names
use Rattle.rpki_base.specs.RpkiSignatureAlgorithm.{spelled_x509, spelled_cms}
use Rattle.rpki_base.specs.Serial.{der_serial}
use Rattle.rpki_base.specs.SignedData.{spelled_data}
use Rattle.rpki_base.specs.TimeText.{der_time}
use Rattle.rpki_idcert.specs.Spelling.{spelled_extension, spelled_authority_key}
use Rattle.rpki_sigmsg.specs.Crl.{CrlFields}
use Rattle.rpki_sigmsg.specs.Message.{MessageFields}
use Rattle.rpki_sigmsg.specs.ObjectIdentifiers.{signed_data_type, xml_content, sha256_name}
use Rattle.rpki_sigmsg.specs.RevokedCertificates.{EntryFields, RevokedFields}
use Rattle.rpki_sigmsg.specs.TbsCrl.{TbsCrlFields}

-- ---- CRLs

-- an entry without extensions
abbrev pub spelled_entry : EntryFields → List ℕ
spelled_entry e =
    der_constructed sequence (der_serial e.user_certificate ++ der_time e.revocation_date)

-- the entries as they are held, in a SEQUENCE that is there in any case
abbrev pub spelled_revoked : RevokedFields → List ℕ
spelled_revoked r = der_constructed sequence r.octets

-- the extension cRLNumber, not critical, if there is a number (RFC 5280, 5.2.3)
abbrev pub spelled_crl_number : Option (List ℕ) → List ℕ
spelled_crl_number None = []
spelled_crl_number (Some number) = spelled_extension names.crl_number false (der_serial number)

-- the extensions of a CRL: authorityKeyIdentifier and cRLNumber, each if there (RFC 5280, 5.2)
abbrev pub spelled_crl_extensions : TbsCrlFields → List ℕ
spelled_crl_extensions t =
    spelled_authority_key t.authority_key_id ++ spelled_crl_number t.crl_number

-- the fields in their order; version 2, the algorithm and the name as they are held
abbrev pub spelled_crl_fields : TbsCrlFields → List ℕ
spelled_crl_fields t =
    der_primitive integer_tag (1 ∷ [])
    ++ (spelled_x509 t.algorithm
    ++ (t.issuer
    ++ (der_time t.this_update
    ++ (der_time t.next_update
    ++ (spelled_revoked t.revoked
    ++ der_constructed (context 0) (der_constructed sequence (spelled_crl_extensions t)))))))

-- TBSCertList: a SEQUENCE of the fields (RFC 5280, 5.1)
unfoldable pub spelled_tbs_crl : TbsCrlFields → List ℕ
spelled_tbs_crl t = der_constructed sequence (spelled_crl_fields t)

-- four length octets can say how long the fields are (X.690, 8.1.3)
abbrev pub CrlCanBeSpelled : TbsCrlFields → Type 0
CrlCanBeSpelled t = length (spelled_crl_fields t) < 2 ^ 32

-- each CRL with its signature, one behind the other
abbrev pub spelled_crls : List CrlFields → List ℕ
spelled_crls [] = []
spelled_crls (c ∷ more) = spelled_data spelled_x509 c.signed ++ spelled_crls more

-- ---- signed messages

-- SHA-256, without parameters (RFC 5754, 2)
unfoldable pub spelled_digest_algorithm : List ℕ
spelled_digest_algorithm = der_constructed sequence (der_primitive oid_tag sha256_name)

-- the content as one OCTET STRING (RFC 5652, 5.2)
unfoldable pub spelled_content : List ℕ → List ℕ
spelled_content content = der_constructed sequence
    (der_primitive oid_tag xml_content ++ der_constructed (context 0)
    (der_primitive octet_string_tag content))

-- the attributes that a signature covers, under [0] in place of SET (RFC 5652, 5.4)
abbrev pub under_context : List ℕ → List ℕ
under_context [] = []
under_context (tag ∷ more) = 160 ∷ more

-- the fields of SignerInfo: version 3, [0] the signer's key identifier, digest algorithm, [0]
-- signed attributes, signature algorithm and signature (RFC 5652, 5.3)
abbrev pub signer_fields : MessageFields → List ℕ
signer_fields m =
    der_primitive integer_tag (3 ∷ [])
    ++ (der_primitive (context 0) m.signer
    ++ (spelled_digest_algorithm
    ++ (under_context m.covered
    ++ (spelled_cms m.signature.algorithm
    ++ der_primitive octet_string_tag m.signature.value))))

-- SignerInfo: a SEQUENCE of the fields (RFC 5652, 5.3)
unfoldable pub spelled_signer : MessageFields → List ℕ
spelled_signer m = der_constructed sequence (signer_fields m)

-- the fields of SignedData: version 3, digest algorithms, content, [0] the certificate, [1] the
-- CRLs, and the one SignerInfo (RFC 5652, 5.1)
unfoldable pub signed_data_fields : MessageFields → List ℕ
signed_data_fields m =
    der_primitive integer_tag (3 ∷ [])
    ++ (der_constructed set spelled_digest_algorithm
    ++ (spelled_content m.content
    ++ (der_constructed (context 0) (spelled_data spelled_x509 m.certificate.signed)
    ++ (der_constructed (context 1) (spelled_crls m.crls)
    ++ der_constructed set (spelled_signer m)))))

-- the fields of ContentInfo: the type signed-data, and under [0] the signed data (RFC 5652, 3)
unfoldable pub message_parts : MessageFields → List ℕ
message_parts m = der_primitive oid_tag signed_data_type
    ++ der_constructed (context 0) (der_constructed sequence (signed_data_fields m))

-- The message in DER: content and signature are one OCTET STRING each; the attributes, and what is
-- signed of the certificate and of each CRL, stand as they are held.
unfoldable pub rewritten : MessageFields → List ℕ
rewritten m = der_constructed sequence (message_parts m)

-- four length octets can say how long its parts are (X.690, 8.1.3)
abbrev pub CanSpellMessage : MessageFields → Type 0
CanSpellMessage m = length (message_parts m) < 2 ^ 32
