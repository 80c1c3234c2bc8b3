-- The extensions of identity certificates (RFC 5280, 4.2.1; RFC 6487, 4.8).
use Rattle.std.specs.Prelude.{ℕ, Bool, false, filter, unwrap_or, Option, None, Some, List}
use Rattle.rpki_common.specs.Chaining.{◌>>=◌}
use Rattle.rpki_common.specs.Items.{the_one, at_most_one, the_last}
use Rattle.rpki_der.specs.declared.mode.Mode.{Mode}
use Rattle.rpki_der.specs.declared.mode.Mode.TheVariants.{Der}
use Rattle.rpki_der.specs.Tags.{sequence, boolean_tag, integer_tag, context}
use Rattle.rpki_der.specs.Value.{Value, Values}
use Rattle.rpki_der.specs.Grammar.{within, optional, every, done, anything}
use Rattle.rpki_der.specs.Boolean.{boolean}
use Rattle.rpki_der.specs.Number.{u64}
use Rattle.rpki_der.specs.InDer.{in_der}
use Rattle.rpki_base.specs.KeyIdentifier.{key_identifier, key_identifier_under}
use Rattle.rpki_base.specs.ObjectIdentifiers as names
use Rattle.rpki_base.specs.Extension.{ExtensionFields, extension, is}

-- ---- what the known ones hold

-- the length of a path, or nothing, and nothing behind it
unfoldable pub path_length : Values → Option (Unit {0})
path_length vs = do
  length ← optional integer_tag u64 vs
  done tt length.1

--     BasicConstraints ::= SEQUENCE {
--       cA BOOLEAN DEFAULT FALSE,
--       pathLenConstraint INTEGER (0..MAX) OPTIONAL }
--
-- basicConstraints (4.2.1.9): whether the subject is an authority, which is false where nothing
-- says so
unfoldable pub basic_constraints : Mode → Value → Option Bool
basic_constraints mode = within sequence (λ vs. do
  ca ← optional boolean_tag (boolean mode) vs
  length ← path_length ca.1
  Some (unwrap_or ca.0 false))

--     AuthorityKeyIdentifier ::= SEQUENCE {
--       keyIdentifier [0] IMPLICIT KeyIdentifier OPTIONAL,
--       authorityCertIssuer [1] IMPLICIT GeneralNames OPTIONAL,
--       authorityCertSerialNumber [2] IMPLICIT CertificateSerialNumber OPTIONAL }
--
-- authorityKeyIdentifier (4.2.1.1), in DER: the key identifier, if it is there; what stands behind
-- it is unread
unfoldable pub authority_key : Value → Option (Option (List ℕ))
authority_key = within sequence (λ vs. do
  key ← optional (context 0) (key_identifier_under (context 0) Der) vs
  rest ← anything key.1
  Some key.0)

-- What an extension holds is in DER whatever the mode round it (4.2): a value stands at its
-- beginning, and the rest is unread.
unfoldable pub ca_in : ExtensionFields → Option Bool
ca_in e = in_der (basic_constraints Der) e.value

-- SubjectKeyIdentifier ::= KeyIdentifier (4.2.1.2)
unfoldable pub subject_in : ExtensionFields → Option (List ℕ)
subject_in e = in_der (key_identifier Der) e.value

-- AuthorityKeyIdentifier, of which the key identifier counts, if it is there (4.2.1.1)
unfoldable pub authority_in : ExtensionFields → Option (Option (List ℕ))
authority_in e = in_der authority_key e.value

-- ---- all together

-- the subject's key identifier; whether the subject is an authority, if that is said; the issuer's
-- key identifier, if it is there
pub record KnownExtensions : Type 0 where
  pub subject : List ℕ
  pub basic_ca : Option Bool
  pub authority : Option (List ℕ)

-- subjectKeyIdentifier is there exactly once, basicConstraints at most once. Of several
-- authorityKeyIdentifiers the last one counts, also where it has no key identifier. Others may be
-- there.
unfoldable pub known_extensions : List ExtensionFields → Option KnownExtensions
known_extensions all = do
  subject ← the_one subject_in (filter (is names.subject_key_identifier) all)
  ca ← at_most_one ca_in (filter (is names.basic_constraints) all)
  authority ← the_last None authority_in (filter (is names.authority_key_identifier) all)
  Some (record { subject = subject; basic_ca = ca; authority = authority })

-- a SEQUENCE of extensions
unfoldable pub extension_list : Mode → Value → Option KnownExtensions
extension_list mode = within sequence (λ vs. every (extension mode) vs >>= known_extensions)
