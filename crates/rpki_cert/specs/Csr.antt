-- Certificate requests (RFC 2986, 4; RFC 6487, 6).
use Rattle.std.specs.Prelude.{ℕ, Option, List}
use Rattle.rpki_common.specs.Chaining.{◌>>=◌}
use Rattle.rpki_der.specs.declared.mode.Mode.{Mode}
use Rattle.rpki_der.specs.Tags.{sequence}
use Rattle.rpki_der.specs.Value.{Value}
use Rattle.rpki_der.specs.Grammar.{within, first, done}
use Rattle.rpki_der.specs.Integer.{integer_is}
use Rattle.rpki_base.specs.SignedData.{Signed, signed_value}
use Rattle.rpki_base.specs.Name.{name}
use Rattle.rpki_base.specs.PublicKey.{KeyFields, public_key}

-- the name's octets, the key, and what the attributes say
pub record RequestFields (T : Type 0) : Type 0 where
  pub subject : List ℕ
  pub key : KeyFields
  pub attributes : T

--     CertificationRequestInfo ::= SEQUENCE {
--       version INTEGER { v1(0) },
--       subject Name,
--       subjectPKInfo SubjectPublicKeyInfo,
--       attributes [0] Attributes }
unfoldable pub request_info : {T : Type 0} → (Mode → Value → Option T) → Mode → Value
    → Option (RequestFields T)
request_info attributes mode = within sequence (λ vs. do
  version ← first (integer_is 0) vs
  subject ← first name version.1
  key ← first public_key subject.1
  asked ← first (attributes mode) key.1
  done (record { subject = subject.0; key = key.0; attributes = asked.0 }) asked.1)

-- the exact octets that are signed with their signature, and what they say
--
--     CertificationRequest ::= SEQUENCE {
--       certificationRequestInfo CertificationRequestInfo,
--       signatureAlgorithm AlgorithmIdentifier,
--       signature BIT STRING }
unfoldable pub certification_request : {A T : Type 0} → (Mode → Value → Option T)
    → (Mode → List ℕ → Option A) → Mode → Value → Option (Signed A (RequestFields T))
certification_request attributes reads mode = signed_value (request_info attributes) reads mode
