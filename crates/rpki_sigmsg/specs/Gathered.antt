-- What was found so far, while the signed attributes are read: a means for the reader, tied to
-- `attributes` by proofs/Adding.antt.
use Rattle.std.specs.Prelude.{ℕ, ℤ, Option, Some, List}
use Rattle.rpki_common.specs.Chaining.{◌>>=◌}
use Rattle.rpki_common.specs.Collecting.{slot, both}
use Rattle.rpki_der.specs.declared.mode.Mode.{Mode}
use Rattle.rpki_der.specs.Tags.{sequence}
use Rattle.rpki_der.specs.Value.{Value, Values}
use Rattle.rpki_der.specs.Grammar.{within, first}
use Rattle.rpki_der.specs.Oid.{oid}
use Rattle.rpki_der.specs.Entry.{is}
use Rattle.rpki_sigmsg.specs.ObjectIdentifiers.{content_type, message_digest, signing_time, binary_signing_time}
use Rattle.rpki_sigmsg.specs.declared.attributes.Found.{Found}
use Rattle.rpki_sigmsg.specs.Attributes.{AttributeFields, type_in, digest_in, time_in, binary_in}

-- signingTime and binarySigningTime, each if it was found
abbrev pub TimesFound : Type 0
TimesFound = Option ℤ × Option ℕ

-- contentType, messageDigest and the two times, each if it was found
abbrev pub FoundSoFar : Type 0
FoundSoFar = Option (Unit {0}) × (Option (List ℕ) × TimesFound)

-- an attribute that is signingTime or binarySigningTime is noted; a second one of its kind, or one
-- whose value isn't read, is refused; all others are passed over
unfoldable pub add_times : TimesFound → List ℕ × Values → Option TimesFound
add_times = both (slot (is signing_time) time_in) (slot (is binary_signing_time) binary_in)

-- an attribute of the four known types is noted; a second one of its type, or one whose value isn't
-- read, is refused; all others are passed over
unfoldable pub add : Mode → FoundSoFar → List ℕ × Values → Option FoundSoFar
add mode = both (slot (is content_type) type_in)
    (both (slot (is message_digest) (digest_in mode)) add_times)

-- the attribute that a SEQUENCE spells, its type and the values behind that, is added to what was
-- found
unfoldable pub add_value : Mode → FoundSoFar → Value → Option FoundSoFar
add_value mode found = within sequence (λ vs. first oid vs >>= add mode found)

-- the attributes, where contentType and messageDigest were found; binarySigningTime is dropped
unfoldable pub complete : FoundSoFar → Option AttributeFields
complete found = found.0 >>= λ type. found.1.0
    >>= λ digest. Some (record { digest = digest; signing_time = found.1.1.0 })

-- what the code's record of what was found holds, in pairs
abbrev pub shown : Found → FoundSoFar
shown f = (f.content_type, (f.digest, (f.times.signing, f.times.binary)))
