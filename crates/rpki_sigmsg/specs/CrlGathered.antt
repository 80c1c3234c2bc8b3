-- What was found so far, while the extensions of a CRL are read: a means for the reader, tied to
-- `known_extensions` by proofs/CrlGathering.antt.
use Rattle.std.specs.Prelude.{Option}
use Rattle.rpki_common.specs.Collecting.{slot, both}
use Rattle.rpki_base.specs.ObjectIdentifiers as names
use Rattle.rpki_base.specs.Extension.{ExtensionFields, is}
use Rattle.rpki_sigmsg.specs.CrlExtensions.{authority_in, number_in, KnownExtensions}

-- an extension that is authorityKeyIdentifier or cRLNumber is noted; a second one of its kind, or
-- one whose value isn't read, is refused; all others are passed over
unfoldable pub add : KnownExtensions → ExtensionFields → Option KnownExtensions
add = both (slot (is names.authority_key_identifier) authority_in)
    (slot (is names.crl_number) number_in)
