-- Octet strings (X.690, 8.7): one primitive value, or octet strings inside a constructed one, at
-- any depth.
use Rattle.std.specs.Prelude.{ℕ, Option, None, Some, if◌then◌else◌, List, [], ◌++◌}
use Rattle.rpki_der.specs.declared.mode.Mode.{Mode}
use Rattle.rpki_der.specs.declared.mode.Mode.TheVariants.{Ber, Der}
use Rattle.rpki_der.specs.Identifier.{has_tag}
use Rattle.rpki_der.specs.Tags.{octet_string_tag}
use Rattle.rpki_der.specs.Value.{Value, Primitive, Constructed, Values, End, ◌▸◌}
use Rattle.rpki_common.specs.Chaining.{◌>>=◌}
use Rattle.rpki_der.specs.Grammar.{primitive}

-- the octets of a value with this tag: its contents, or those of the octet strings inside it,
-- joined in their order
unfoldable mutual
  pub joined_pieces : List ℕ → Value → Option (List ℕ)
  joined_pieces tag (Primitive identifier lengths contents) =
      if has_tag tag identifier then Some contents else None
  joined_pieces tag (Constructed identifier form inner) =
      if has_tag tag identifier then joined_all inner else None

  pub joined_all : Values → Option (List ℕ)
  joined_all End = Some []
  joined_all (v ▸ vs) =
      joined_pieces octet_string_tag v >>= λ a. joined_all vs >>= λ b. Some (a ++ b)

-- an octet string under this tag; in DER it is primitive (X.690, 10.2)
unfoldable pub octets_under : List ℕ → Mode → Value → Option (List ℕ)
octets_under tag Ber = joined_pieces tag
octets_under tag Der = primitive tag

-- an OCTET STRING under its universal tag, of either form in BER and primitive in DER (X.690, 8.7
-- and 10.2)
abbrev pub octet_string : Mode → Value → Option (List ℕ)
octet_string = octets_under octet_string_tag
