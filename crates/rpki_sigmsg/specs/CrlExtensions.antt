-- The extensions of a CRL (RFC 5280, 5.2).
use Rattle.std.specs.Prelude.{ℕ, filter, Option, Some, List}
use Rattle.rpki_common.specs.Chaining.{◌>>=◌}
use Rattle.rpki_common.specs.Items.{at_most_one}
use Rattle.rpki_der.specs.declared.mode.Mode.{Mode}
use Rattle.rpki_der.specs.declared.mode.Mode.TheVariants.{Der}
use Rattle.rpki_der.specs.Tags.{sequence, context}
use Rattle.rpki_der.specs.Value.{Value}
use Rattle.rpki_der.specs.Grammar.{within, wrapped, every}
use Rattle.rpki_der.specs.InDer.{in_der}
use Rattle.rpki_base.specs.KeyIdentifier.{key_identifier_under}
use Rattle.rpki_base.specs.Serial.{serial}
use Rattle.rpki_base.specs.ObjectIdentifiers as names
use Rattle.rpki_base.specs.Extension.{ExtensionFields, extension, is}

--     AuthorityKeyIdentifier ::= SEQUENCE {
--       keyIdentifier [0] IMPLICIT KeyIdentifier OPTIONAL,
--       authorityCertIssuer [1] IMPLICIT GeneralNames OPTIONAL,
--       authorityCertSerialNumber [2] IMPLICIT CertificateSerialNumber OPTIONAL }
--
-- authorityKeyIdentifier (5.2.1): a SEQUENCE of the key identifier alone
unfoldable pub issuer_key : Mode → Value → Option (List ℕ)
issuer_key mode = wrapped sequence (key_identifier_under (context 0) mode)

-- What an extension holds is in DER whatever the mode round it: a value stands at its beginning,
-- and the rest is unread.
unfoldable pub authority_in : ExtensionFields → Option (List ℕ)
authority_in e = in_der (issuer_key Der) e.value

-- CRLNumber ::= INTEGER (0..MAX) (5.2.3), held as twenty octets
unfoldable pub number_in : ExtensionFields → Option (List ℕ)
number_in e = in_der serial e.value

-- the key identifier of the issuer, and the number of the CRL, each if it is there
abbrev pub KnownExtensions : Type 0
KnownExtensions = Option (List ℕ) × Option (List ℕ)

-- each of the two is there at most once; others may be there
unfoldable pub known_extensions : List ExtensionFields → Option KnownExtensions
known_extensions all = do
  authority ← at_most_one authority_in (filter (is names.authority_key_identifier) all)
  number ← at_most_one number_in (filter (is names.crl_number) all)
  Some (authority, number)

-- a SEQUENCE of extensions
unfoldable pub extension_list : Mode → Value → Option KnownExtensions
extension_list mode = within sequence (λ vs. every (extension mode) vs >>= known_extensions)
