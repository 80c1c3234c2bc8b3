-- Spelling values in DER (X.690, 8.1.2, 8.1.3 and 10.1).
use Rattle.std.specs.Prelude.{◌≡◌, ℕ, zero, suc, ◌+◌, ◌/◌, ◌%◌, nat_lt, if◌then◌else◌, List, [], ◌∷◌, ◌++◌, length}
use Rattle.rpki_der.specs.declared.mode.Mode.{Mode}
use Rattle.rpki_der.specs.Value.{Definite, Value, Primitive, Constructed, Values, End, ◌▸◌, spellings, AreValues}

-- the number in this many octets, the most significant first
abbrev pub octets_of_number : ℕ → ℕ → List ℕ
octets_of_number zero n = []
octets_of_number (suc k) n = octets_of_number k (n / 256) ++ (n % 256) ∷ []

-- the length octets of n, for an n below 2^32: n itself below 80, and otherwise 81 to 84 and n in
-- the fewest octets
abbrev pub der_length : ℕ → List ℕ
der_length n =
    if nat_lt n 128 then n ∷ []
    else if nat_lt n 256 then 129 ∷ octets_of_number 1 n
    else if nat_lt n 65536 then 130 ∷ octets_of_number 2 n
    else if nat_lt n 16777216 then 131 ∷ octets_of_number 3 n
    else 132 ∷ octets_of_number 4 n

-- the identifier of a constructed value with this tag: bit 6 of its first octet is set
abbrev pub with_bit_6 : List ℕ → List ℕ
with_bit_6 [] = []
with_bit_6 (a ∷ more) = (a + 32) ∷ more

-- a primitive value with this tag and these contents
abbrev pub primitive_value : List ℕ → List ℕ → Value
primitive_value tag content = Primitive tag (der_length (length content)) content

-- the octets of a primitive value with this tag and these contents octets
abbrev pub der_primitive : List ℕ → List ℕ → List ℕ
der_primitive tag content = tag ++ (der_length (length content) ++ content)

-- a constructed value with this tag and these values inside it
abbrev pub constructed_value : List ℕ → Values → Value
constructed_value tag inner = Constructed (with_bit_6 tag)
    (Definite (der_length (length (spellings inner)))) inner

-- the octets of a constructed value with this tag and these contents octets
abbrev pub der_constructed : List ℕ → List ℕ → List ℕ
der_constructed tag content = with_bit_6 tag ++ (der_length (length content) ++ content)

-- ---- values in turn

-- the octets are the spellings of these values
pub record Spells (mode : Mode) (octets : List ℕ) (vs : Values) : Type 0 where
  pub lawful : AreValues mode vs
  pub parts : octets ≡ spellings vs

-- the values, and further ones behind them
abbrev pub followed : Values → Values → Values
followed End ws = ws
followed (v ▸ vs) ws = v ▸ followed vs ws
