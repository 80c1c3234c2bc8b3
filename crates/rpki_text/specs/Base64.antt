-- Octets as base64 text.
use Rattle.std.specs.Prelude.{◌≡◌, ℕ, Bool, ◌||◌, ◌==◌, not, List, [], filter, unwrap_or, option_and_then}
use Rattle.std.specs.declared.option.Option.{Option}
use Rattle.base64.specs.Engines.{standard}
use Rattle.base64.specs.GeneralPurpose.{encode_of, decoded_of, IsBytes}
use Rattle.rpki_text.specs.Json.{string_of_json}

-- The octets of text that are no white space: all but the tab, the line feed, the carriage return
-- and the space.
abbrev pub is_not_space : ℕ → Bool
is_not_space octet = not ((octet == 9) || (octet == 10) || (octet == 13) || (octet == 32))

-- A text that, once its white space is dropped, is the one that RFC 4648, section 4, gives some
-- octets: in the standard alphabet, with its padding, and with zeros in the bits that are left
-- over.
abbrev pub IsBase64Text : List ℕ → List ℕ → Type 0
IsBase64Text text octets = IsBytes octets × (filter is_not_space text ≡ encode_of standard octets)

-- The octets that base64 text spells, once its white space is dropped.
abbrev pub base64_content : List ℕ → Option (List ℕ)
base64_content text = decoded_of standard (filter is_not_space text)

-- The octets that a JSON text spells in base64 as its one string.
abbrev pub base64_content_of_json : List ℕ → Option (List ℕ)
base64_content_of_json text = option_and_then base64_content (string_of_json text)

-- The octets whose base64 text, with no white space, is the one string of a JSON text.
abbrev pub octets_of_json : List ℕ → Option (List ℕ)
octets_of_json text = option_and_then (decoded_of standard) (string_of_json text)

-- The octets that a base64 text with no white space spells.
abbrev pub held_content : List ℕ → List ℕ
held_content text = unwrap_or (decoded_of standard text) []

-- A text that is the base64 text of octets.
abbrev pub IsHeld : List ℕ → Type 0
IsHeld text = (text ≡ encode_of standard (held_content text)) × IsBytes (held_content text)
