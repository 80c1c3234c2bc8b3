-- The tags of universal identifiers, and of context-specific ones (X.690, 8.1.2; X.680, 8.4):
-- identifiers with bit 6 cleared.
use Rattle.std.specs.Prelude.{ℕ, ◌+◌, List, [], ◌∷◌}

-- BOOLEAN, universal 1
abbrev pub boolean_tag : List ℕ
boolean_tag = 1 ∷ []

-- INTEGER, universal 2
abbrev pub integer_tag : List ℕ
integer_tag = 2 ∷ []

-- BIT STRING, universal 3
abbrev pub bit_string_tag : List ℕ
bit_string_tag = 3 ∷ []

-- OCTET STRING, universal 4
abbrev pub octet_string_tag : List ℕ
octet_string_tag = 4 ∷ []

-- NULL, universal 5
abbrev pub null_tag : List ℕ
null_tag = 5 ∷ []

-- OBJECT IDENTIFIER, universal 6
abbrev pub oid_tag : List ℕ
oid_tag = 6 ∷ []

-- spelled 30, since it is constructed
abbrev pub sequence : List ℕ
sequence = 16 ∷ []

-- spelled 31
abbrev pub set : List ℕ
set = 17 ∷ []

-- UTCTime, universal 23
abbrev pub utc_time_tag : List ℕ
utc_time_tag = 23 ∷ []

-- GeneralizedTime, universal 24
abbrev pub generalized_time_tag : List ℕ
generalized_time_tag = 24 ∷ []

-- [n] for n below 31: spelled 80 + n where it is primitive, A0 + n where it is constructed
abbrev pub context : ℕ → List ℕ
context n = (128 + n) ∷ []
