-- What was found so far, while the extensions are read: a means for the reader, tied to
-- `known_extensions` by proofs/Gathering.antt.
use Rattle.std.specs.Prelude.{ℕ, Bool, Option, Some, List}
use Rattle.rpki_common.specs.Chaining.{◌>>=◌}
use Rattle.rpki_common.specs.Collecting.{slot, last_slot, both}
use Rattle.rpki_base.specs.ObjectIdentifiers as names
use Rattle.rpki_base.specs.Extension.{ExtensionFields, is}
use Rattle.rpki_idcert.specs.Extensions.{ca_in, subject_in, authority_in, KnownExtensions}

-- the subject's key identifier, whether the subject is an authority, and the issuer's key
-- identifier, each if it was found
abbrev pub FoundSoFar : Type 0
FoundSoFar = Option (List ℕ) × (Option Bool × Option (List ℕ))

-- each of the three extensions is noted, and refused if it isn't read or, but for
-- authorityKeyIdentifier, whose last one counts, was noted before; others are passed over
unfoldable pub add : FoundSoFar → ExtensionFields → Option FoundSoFar
add = both (slot (is names.subject_key_identifier) subject_in)
    (both (slot (is names.basic_constraints) ca_in)
    (last_slot (is names.authority_key_identifier) authority_in))

-- the known extensions, where subjectKeyIdentifier was found
unfoldable pub complete : FoundSoFar → Option KnownExtensions
complete found = found.0 >>= λ subject. Some (record
    { subject = subject; basic_ca = found.1.0; authority = found.1.1 })
