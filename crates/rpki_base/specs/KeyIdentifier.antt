-- KeyIdentifier ::= OCTET STRING (RFC 5280, 4.2.1.1 and 4.2.1.2): twenty octets.
use Rattle.std.specs.Prelude.{ℕ, ◌==◌, if◌then◌else◌, Option, None, Some, List, length}
use Rattle.rpki_der.specs.declared.mode.Mode.{Mode}
use Rattle.rpki_der.specs.Tags.{octet_string_tag}
use Rattle.rpki_der.specs.Value.{Value}
use Rattle.rpki_der.specs.Grammar.{so}
use Rattle.rpki_der.specs.OctetString.{octets_under}

-- the octets, if there are exactly twenty
abbrev pub twenty : List ℕ → Option (List ℕ)
twenty octets = if length octets == 20 then Some octets else None

-- an octet string under this tag, of twenty octets
unfoldable pub key_identifier_under : List ℕ → Mode → Value → Option (List ℕ)
key_identifier_under tag mode = so (octets_under tag mode) twenty

-- a key identifier under the universal tag of OCTET STRING
abbrev pub key_identifier : Mode → Value → Option (List ℕ)
key_identifier = key_identifier_under octet_string_tag
