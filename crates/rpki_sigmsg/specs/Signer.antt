-- Signer information (RFC 5652, 5.3).
use Rattle.std.specs.Prelude.{ℕ, Option, List}
use Rattle.rpki_common.specs.Chaining.{◌>>=◌}
use Rattle.rpki_der.specs.declared.mode.Mode.{Mode}
use Rattle.rpki_der.specs.Tags.{sequence, context}
use Rattle.rpki_der.specs.Value.{Value}
use Rattle.rpki_der.specs.Grammar.{within, first, done}
use Rattle.rpki_der.specs.Held.{with_octets}
use Rattle.rpki_der.specs.Integer.{integer_is}
use Rattle.rpki_der.specs.OctetString.{octet_string}
use Rattle.rpki_base.specs.KeyIdentifier.{key_identifier_under}
use Rattle.rpki_base.specs.Signature.{SignatureParts}
use Rattle.rpki_base.specs.RpkiSignatureAlgorithm.{RpkiAlgorithm}
use Rattle.rpki_sigmsg.specs.Algorithm.{digest_algorithm, signature_algorithm}
use Rattle.rpki_sigmsg.specs.Attributes.{AttributeFields, signed_attributes}

-- the signer's key identifier; the octets of the attributes as they stand, and what they say; the
-- value that holds the signature, by its octets, and the signature
pub record SignerFields : Type 0 where
  pub identifier : List ℕ
  pub attributes : List ℕ
  pub said : AttributeFields
  pub signature_value : List ℕ
  pub signature : SignatureParts RpkiAlgorithm

--     SignerInfo ::= SEQUENCE {
--       version CMSVersion,
--       sid SignerIdentifier,
--       digestAlgorithm DigestAlgorithmIdentifier,
--       signedAttrs [0] IMPLICIT SignedAttributes OPTIONAL,
--       signatureAlgorithm SignatureAlgorithmIdentifier,
--       signature SignatureValue,
--       unsignedAttrs [1] IMPLICIT UnsignedAttributes OPTIONAL }
--
-- sid is subjectKeyIdentifier [0], signedAttrs have to be there, and unsignedAttrs can't be.
-- one signer, of version 3, named by its key identifier
unfoldable pub signer_info : Mode → Value → Option SignerFields
signer_info mode = within sequence (λ vs. do
  version ← first (integer_is 3) vs
  identifier ← first (key_identifier_under (context 0) mode) version.1
  digest ← first digest_algorithm identifier.1
  attributes ← first (signed_attributes mode) digest.1
  algorithm ← first (signature_algorithm mode) attributes.1
  signature ← first (with_octets (octet_string mode)) algorithm.1
  done (record {
    identifier = identifier.0;
    attributes = attributes.0.0;
    said = attributes.0.1;
    signature_value = signature.0.0;
    signature = record { algorithm = algorithm.0; value = signature.0.1 };
  }) signature.1)
