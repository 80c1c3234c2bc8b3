-- Key identifiers as messages spell them: 20 octets in the URL-safe alphabet of RFC 4648, section
-- 5.
use Rattle.std.specs.Prelude.{◌≡◌, ℕ, ◌==◌, if◌then◌else◌, ◌⊎◌, List, length}
use Rattle.std.specs.declared.option.Option.{Option}
use Rattle.std.specs.declared.option.Option.TheVariants.{None, Some}
use Rattle.std.specs.Option.{option_or}
use Rattle.base64.specs.Engines.{url_safe, url_safe_no_pad}
use Rattle.base64.specs.GeneralPurpose.{encode_of, decoded_of, IsBytes}

-- The text of 20 octets, with its padding or without.
abbrev pub IsKeyIdentifierText : List ℕ → List ℕ → Type 0
IsKeyIdentifierText text octets =
    IsBytes octets
    × (length octets ≡ 20)
    × ((text ≡ encode_of url_safe_no_pad octets) ⊎ (text ≡ encode_of url_safe octets))

-- Octets, if they are 20.
abbrev pub twenty : Option (List ℕ) → Option (List ℕ)
twenty None = None
twenty (Some octets) = if length octets == 20 then Some octets else None

-- The 20 octets that a text spells, without padding or with it.
abbrev pub key_identifier_of_text : List ℕ → Option (List ℕ)
key_identifier_of_text text =
    option_or (twenty (decoded_of url_safe_no_pad text)) (twenty (decoded_of url_safe text))
