-- What a key may be used for (RFC 5280, 4.2.1.3; RFC 6487, 4.8.4).
use Rattle.std.specs.Prelude.{◌==◌, ◌&&◌, bytes_eq, if◌then◌else◌, Option, None, Some, [], ◌∷◌}
use Rattle.rpki_der.specs.Value.{Value}
use Rattle.rpki_der.specs.Grammar.{so}
use Rattle.rpki_der.specs.Bits.{BitFields, bit_string}
use Rattle.rpki_cert.specs.declared.key_usage.KeyUsage.{KeyUsage}
use Rattle.rpki_cert.specs.declared.key_usage.KeyUsage.TheVariants.{Ca, Ee}

--     KeyUsage ::= BIT STRING {
--       digitalSignature (0), nonRepudiation (1), keyEncipherment (2), dataEncipherment (3),
--       keyAgreement (4), keyCertSign (5), cRLSign (6), encipherOnly (7), decipherOnly (8) }
--
-- keyCertSign and cRLSign and no other bit are an authority's, and digitalSignature alone an end
-- entity's; there is no other. In DER the zero bits at the end aren't spelled (X.690, 11.2.2).
abbrev pub usage_of : BitFields → Option KeyUsage
usage_of bits =
    if (bits.unused == 1) && bytes_eq bits.octets (6 ∷ []) then Some Ca
    else if (bits.unused == 7) && bytes_eq bits.octets (128 ∷ []) then Some Ee
    else None

-- KeyUsage: a BIT STRING that is an authority's or an end entity's
unfoldable pub key_usage : Value → Option KeyUsage
key_usage = so bit_string usage_of
