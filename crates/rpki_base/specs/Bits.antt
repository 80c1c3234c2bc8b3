-- BIT STRINGs as they are written: with no unused bits (X.690, 8.6 and 11.2).
use Rattle.std.specs.Prelude.{ℕ, List, ◌∷◌}
use Rattle.rpki_der.specs.Tags.{bit_string_tag}
use Rattle.rpki_der.specs.Writing.{der_primitive}

-- the octets stand behind the count of unused bits, which is 0
abbrev pub spelled_bits : List ℕ → List ℕ
spelled_bits octets = der_primitive bit_string_tag (0 ∷ octets)
