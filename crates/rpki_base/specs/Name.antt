-- Names (RFC 5280, 4.1.2.4).
use Rattle.std.specs.Prelude.{ℕ, Option, Some, List, [], ◌∷◌, ◌++◌}
use Rattle.rpki_common.specs.Chaining.{◌>>=◌}
use Rattle.rpki_der.specs.Tags.{sequence, set, oid_tag}
use Rattle.rpki_der.specs.Value.{Value, Values}
use Rattle.rpki_der.specs.Grammar.{within, first, every, done, any}
use Rattle.rpki_der.specs.Held.{octets_of}
use Rattle.rpki_der.specs.Oid.{oid}
use Rattle.rpki_der.specs.Writing.{der_primitive, der_constructed}
use Rattle.rpki_base.specs.ObjectIdentifiers.{common_name}

-- what was read is dropped
abbrev pub unread : {X : Type 0} → List X → Option (Unit {0})
unread xs = Some tt

-- the values are all of this kind
unfoldable pub each : {X : Type 0} → (Value → Option X) → Values → Option (Unit {0})
each field vs = every field vs >>= unread

--     RDNSequence ::= SEQUENCE OF RelativeDistinguishedName
--     RelativeDistinguishedName ::= SET SIZE (1..MAX) OF AttributeTypeAndValue
--     AttributeTypeAndValue ::= SEQUENCE {
--       type AttributeType,
--       value AttributeValue }
--
-- How many attributes a SET has isn't looked at, and may be none.

-- an attribute: its type, and one value of any kind
unfoldable pub name_attribute : Value → Option (Unit {0})
name_attribute = within sequence (λ vs. do
  type ← first oid vs
  value ← first any type.1
  done tt value.1)

-- a relative distinguished name: a SET of attributes
unfoldable pub relative_name : Value → Option (Unit {0})
relative_name = within set (each name_attribute)

-- a name: a SEQUENCE of relative distinguished names, by its octets
unfoldable pub name : Value → Option (List ℕ)
name = octets_of (within sequence (each relative_name))

-- PrintableString (X.680, 8.4)
abbrev pub printable_string_tag : List ℕ
printable_string_tag = 19 ∷ []

-- the name whose one attribute, commonName, is this text
abbrev pub name_of_text : List ℕ → List ℕ
name_of_text text = der_constructed sequence (der_constructed set
    (der_constructed sequence (der_primitive oid_tag common_name
    ++ der_primitive printable_string_tag text)))
