-- Signed attributes (RFC 5652, 5.3 and 11.1 to 11.3; RFC 6019).
use Rattle.std.specs.Prelude.{ℕ, ℤ, filter, Option, Some, List}
use Rattle.rpki_common.specs.Chaining.{◌>>=◌}
use Rattle.rpki_common.specs.Items.{the_one, at_most_one}
use Rattle.rpki_der.specs.declared.mode.Mode.{Mode}
use Rattle.rpki_der.specs.Tags.{context, set}
use Rattle.rpki_der.specs.Value.{Value, Values}
use Rattle.rpki_der.specs.Grammar.{within, every}
use Rattle.rpki_der.specs.Held.{held}
use Rattle.rpki_der.specs.Number.{u64}
use Rattle.rpki_der.specs.Oid.{oid_is}
use Rattle.rpki_der.specs.OctetString.{octet_string}
use Rattle.rpki_der.specs.Entry.{entry, is, set_of}
use Rattle.rpki_der.specs.Writing.{der_constructed}
use Rattle.rpki_base.specs.Time.{time}
use Rattle.rpki_sigmsg.specs.ObjectIdentifiers.{content_type, message_digest, signing_time, binary_signing_time, xml_content}

-- the signed digest, and the time of signing, if it is said
pub record AttributeFields : Type 0 where
  pub digest : List ℕ
  pub signing_time : Option ℤ

-- the value of contentType: XML
unfoldable pub type_in : List ℕ × Values → Option (Unit {0})
type_in attribute = set_of (oid_is xml_content) attribute.1

-- the value of messageDigest: its octets
unfoldable pub digest_in : Mode → List ℕ × Values → Option (List ℕ)
digest_in mode attribute = set_of (octet_string mode) attribute.1

-- the value of signingTime
unfoldable pub time_in : List ℕ × Values → Option ℤ
time_in attribute = set_of time attribute.1

-- the value of binarySigningTime: seconds since 1970
unfoldable pub binary_in : List ℕ × Values → Option ℕ
binary_in attribute = set_of u64 attribute.1

-- contentType and messageDigest are there exactly once each, signingTime and binarySigningTime at
-- most once each; others may be there
unfoldable pub attributes : Mode → List (List ℕ × Values) → Option AttributeFields
attributes mode all = do
  type ← the_one type_in (filter (is content_type) all)
  digest ← the_one (digest_in mode) (filter (is message_digest) all)
  time ← at_most_one time_in (filter (is signing_time) all)
  binary ← at_most_one binary_in (filter (is binary_signing_time) all)
  Some (record { digest = digest; signing_time = time })

--     SignedAttributes ::= SET SIZE (1..MAX) OF Attribute
--     Attribute ::= SEQUENCE {
--       attrType OBJECT IDENTIFIER,
--       attrValues SET OF AttributeValue }
--
-- Of the four known ones attrValues is a SET of exactly one value; of others it isn't looked at.
-- [0] with attributes, each a SEQUENCE of an identifier and any values: their octets as they stand
-- there, and what they say
unfoldable pub signed_attributes : Mode → Value → Option (List ℕ × AttributeFields)
signed_attributes mode = within (context 0) (held (λ vs. every entry vs >>= attributes mode))

-- what the signature of the attributes covers: their octets as they stand, in a SET with a DER
-- length in place of [0] (5.4)
abbrev pub covered : List ℕ → List ℕ
covered octets = der_constructed set octets
