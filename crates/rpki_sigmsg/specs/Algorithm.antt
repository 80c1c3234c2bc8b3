-- Algorithm identifiers (RFC 5280, 4.1.1.2).
use Rattle.std.specs.Prelude.{Option}
use Rattle.rpki_common.specs.Chaining.{◌>>=◌}
use Rattle.rpki_der.specs.declared.mode.Mode.{Mode}
use Rattle.rpki_der.specs.Tags.{sequence, null_tag}
use Rattle.rpki_der.specs.Value.{Value}
use Rattle.rpki_der.specs.Grammar.{within, first, optional, done, anything}
use Rattle.rpki_der.specs.Oid.{oid_is}
use Rattle.rpki_der.specs.Null.{null}
use Rattle.rpki_der.specs.Whole.{whole_of}
use Rattle.rpki_base.specs.SignedData.{algorithm_in}
use Rattle.rpki_base.specs.RpkiSignatureAlgorithm.{RpkiAlgorithm, cms_algorithm}
use Rattle.rpki_sigmsg.specs.ObjectIdentifiers.{sha256_name}

--     DigestAlgorithmIdentifier ::= AlgorithmIdentifier
--
-- SHA-256, with NULL or without parameters (RFC 5754, 2)
unfoldable pub digest_algorithm : Value → Option (Unit {0})
digest_algorithm = within sequence (λ vs. do
  name ← first (oid_is sha256_name) vs
  parameters ← optional null_tag null name.1
  done tt parameters.1)

-- the algorithm of a signer's signature: RSA over SHA-256, under either of its names (RFC 7935, 2)
abbrev pub signature_algorithm : Mode → Value → Option RpkiAlgorithm
signature_algorithm mode = algorithm_in (whole_of cms_algorithm) mode

-- any SEQUENCE, unread
unfoldable pub any_sequence : Value → Option (Unit {0})
any_sequence = within sequence anything
