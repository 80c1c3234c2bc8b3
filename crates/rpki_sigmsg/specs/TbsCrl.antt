-- What is signed of a CRL (RFC 5280, 5.1.2).
use Rattle.std.specs.Prelude.{ℕ, ℤ, unwrap_or, Option, List}
use Rattle.rpki_common.specs.Chaining.{◌>>=◌}
use Rattle.rpki_der.specs.declared.mode.Mode.{Mode}
use Rattle.rpki_der.specs.Tags.{sequence, context}
use Rattle.rpki_der.specs.Value.{Value}
use Rattle.rpki_der.specs.Grammar.{within, first, optional, done, wrapped}
use Rattle.rpki_der.specs.Integer.{integer_is}
use Rattle.rpki_base.specs.RpkiSignatureAlgorithm.{RpkiAlgorithm, algorithm}
use Rattle.rpki_base.specs.Name.{name}
use Rattle.rpki_base.specs.Time.{time}
use Rattle.rpki_sigmsg.specs.RevokedCertificates.{RevokedFields, revoked_certificates, none_revoked}
use Rattle.rpki_sigmsg.specs.CrlExtensions.{extension_list}

-- The issuer's name is its octets, the two times are seconds since 1970, and the number of the CRL
-- is twenty octets.
pub record TbsCrlFields : Type 0 where
  pub algorithm : RpkiAlgorithm
  pub issuer : List ℕ
  pub this_update : ℤ
  pub next_update : ℤ
  pub revoked : RevokedFields
  pub authority_key_id : Option (List ℕ)
  pub crl_number : Option (List ℕ)

--     TBSCertList ::= SEQUENCE {
--       version Version OPTIONAL,
--       signature AlgorithmIdentifier,
--       issuer Name,
--       thisUpdate Time,
--       nextUpdate Time OPTIONAL,
--       revokedCertificates SEQUENCE OF SEQUENCE { .. } OPTIONAL,
--       crlExtensions [0] EXPLICIT Extensions OPTIONAL }
--
-- The version has to be there and is 2, which is spelled 1. The list of entries may be absent;
-- nextUpdate and the extensions have to be there.
unfoldable pub tbs_crl : Mode → Value → Option TbsCrlFields
tbs_crl mode = within sequence (λ vs. do
  version ← first (integer_is 1) vs
  algorithm ← first (algorithm mode) version.1
  issuer ← first name algorithm.1
  this_update ← first time issuer.1
  next_update ← first time this_update.1
  revoked ← optional sequence revoked_certificates next_update.1
  known ← first (wrapped (context 0) (extension_list mode)) revoked.1
  done (record {
    algorithm = algorithm.0;
    issuer = issuer.0;
    this_update = this_update.0;
    next_update = next_update.0;
    revoked = unwrap_or revoked.0 none_revoked;
    authority_key_id = known.0.0;
    crl_number = known.0.1;
  }) known.1)
