-- Extensions of certificates and CRLs (RFC 5280, 4.1 and 4.2).
use Rattle.std.specs.Prelude.{ℕ, Bool, false, bytes_eq, unwrap_or, Option, List}
use Rattle.rpki_common.specs.Chaining.{◌>>=◌}
use Rattle.rpki_der.specs.declared.mode.Mode.{Mode}
use Rattle.rpki_der.specs.Tags.{sequence, boolean_tag}
use Rattle.rpki_der.specs.Value.{Value}
use Rattle.rpki_der.specs.Grammar.{within, first, optional, done, gather, so}
use Rattle.rpki_der.specs.Oid.{oid}
use Rattle.rpki_der.specs.Boolean.{boolean}
use Rattle.rpki_der.specs.OctetString.{octet_string}

-- the contents of the object identifier, whether it is critical, and the octets that it holds
pub record ExtensionFields : Type 0 where
  pub identifier : List ℕ
  pub critical : Bool
  pub value : List ℕ

--     Extension ::= SEQUENCE {
--       extnID OBJECT IDENTIFIER,
--       critical BOOLEAN DEFAULT FALSE,
--       extnValue OCTET STRING }
--
-- an extension; it isn't critical where nothing says so
unfoldable pub extension : Mode → Value → Option ExtensionFields
extension mode = within sequence (λ vs. do
  identifier ← first oid vs
  critical ← optional boolean_tag (boolean mode) identifier.1
  value ← first (octet_string mode) critical.1
  done (record {
    identifier = identifier.0;
    critical = unwrap_or critical.0 false;
    value = value.0;
  }) value.1)

-- the extension has this identifier
abbrev pub is : List ℕ → ExtensionFields → Bool
is identifier e = bytes_eq e.identifier identifier

-- A SEQUENCE of extensions, each of which adds what it says to what was found before it.
unfoldable pub gathered : {F : Type 0} → (F → ExtensionFields → Option F) → Mode → F → Value
    → Option F
gathered add mode found = within sequence (gather (λ so_far. so (extension mode) (add so_far))
    found)
