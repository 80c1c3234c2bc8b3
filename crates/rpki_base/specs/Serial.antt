-- Serial numbers (RFC 5280, 4.1.2.2): not negative, in at most twenty octets, held as twenty.
use Rattle.std.specs.Prelude.{ℕ, ◌-◌, ◌==◌, nat_lt, nat_le, if◌then◌else◌, Option, None, Some, List, [], ◌∷◌, ◌++◌, length, replicate}
use Rattle.std.specs.Int.{to_be_bytes, w64}
use Rattle.rpki_der.specs.Tags.{integer_tag}
use Rattle.rpki_der.specs.Value.{Value}
use Rattle.rpki_der.specs.Grammar.{so}
use Rattle.rpki_der.specs.Number.{integer, is_not_negative}
use Rattle.rpki_der.specs.Writing.{primitive_value, der_primitive}

-- without a leading 00
abbrev pub without_zero : List ℕ → List ℕ
without_zero [] = []
without_zero (a ∷ more) = if a == 0 then more else a ∷ more

-- a number in twenty octets, by its octets if there are no more than that
abbrev pub in_twenty : List ℕ → Option (List ℕ)
in_twenty octets = if nat_le (length octets) 20
    then Some (replicate (20 - length octets) 0 ++ octets) else None

-- the serial number that the contents of an INTEGER are
abbrev pub serial_number : List ℕ → Option (List ℕ)
serial_number octets = if is_not_negative octets then in_twenty (without_zero octets) else None

-- CertificateSerialNumber ::= INTEGER
unfoldable pub serial : Value → Option (List ℕ)
serial = so integer serial_number

-- the number n, for an n below 2^64: its eight octets behind twelve zeros
abbrev pub serial_of : ℕ → List ℕ
serial_of n = replicate 12 0 ++ to_be_bytes w64 n

-- ---- written

-- without the zeros in front
unfoldable pub significant : List ℕ → List ℕ
significant [] = []
significant (a ∷ more) = if a == 0 then significant more else a ∷ more

-- 00 stands in front of a first octet whose bit 8 is set, and alone for the number 0
abbrev pub unsigned_content : List ℕ → List ℕ
unsigned_content [] = 0 ∷ []
unsigned_content (a ∷ more) = if nat_lt a 128 then a ∷ more else 0 ∷ a ∷ more

-- the contents of the INTEGER
abbrev pub serial_content : List ℕ → List ℕ
serial_content octets = unsigned_content (significant octets)

-- the INTEGER as a value
abbrev pub serial_value : List ℕ → Value
serial_value octets = primitive_value integer_tag (serial_content octets)

-- the octets of the INTEGER in DER
abbrev pub der_serial : List ℕ → List ℕ
der_serial octets = der_primitive integer_tag (serial_content octets)
