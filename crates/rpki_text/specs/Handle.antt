-- The names of parties, and the JSON texts that hold them.
use Rattle.std.specs.Prelude.{ℕ, ◌≤◌, Bool, ◌||◌, ◌&&◌, ◌==◌, nat_le, if◌then◌else◌, List, length, option_and_then}
use Rattle.std.specs.List.{AllPass, list_all}
use Rattle.std.specs.declared.option.Option.{Option}
use Rattle.std.specs.declared.option.Option.TheVariants.{None, Some}
use Rattle.rpki_text.specs.Json.{string_of_json}

-- A letter, a digit, or one of the three marks `-`, `_` and `/`.
abbrev pub is_handle_octet : ℕ → Bool
is_handle_octet octet =
    (nat_le 65 octet && nat_le octet 90) || (nat_le 97 octet && nat_le octet 122)
    || (nat_le 48 octet && nat_le octet 57) || (octet == 45) || (octet == 95) || (octet == 47)

-- 1 to 255 of these octets. RFC 8183, appendix A, has the empty text too; here it is none.
abbrev pub IsHandle : List ℕ → Type 0
IsHandle text = (1 ≤ length text) × (length text ≤ 255) × AllPass is_handle_octet text

-- Whether a text is 1 to 255 of these octets.
abbrev pub is_handle : List ℕ → Bool
is_handle text = nat_le 1 (length text) && nat_le (length text) 255 && list_all is_handle_octet text

-- The handle that a text is.
abbrev pub handle_of_text : List ℕ → Option (List ℕ)
handle_of_text text = if is_handle text then Some text else None

-- The handle that a JSON text holds as its one string.
abbrev pub handle_of_json : List ℕ → Option (List ℕ)
handle_of_json text = option_and_then handle_of_text (string_of_json text)
