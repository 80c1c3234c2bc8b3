-- The header that stands at the beginning of octets.
use Rattle.std.specs.Prelude.{◌≡◌, ℕ, List, [], ◌∷◌, ◌++◌}
use Rattle.rpki_der.specs.declared.header.Length.{Length}
use Rattle.rpki_der.specs.declared.header.Length.TheVariants as length_is
use Rattle.rpki_der.specs.declared.mode.Mode.{Mode}
use Rattle.rpki_der.specs.declared.mode.Mode.TheVariants.{Ber}
use Rattle.rpki_der.specs.Identifier.{IsIdentifier}
use Rattle.rpki_der.specs.Lengths.{IsLength}

-- the length octets say so
abbrev pub SaysLength : Mode → List ℕ → Length → Type 0
SaysLength mode lengths (length_is.Definite n) = IsLength mode lengths n
SaysLength mode lengths length_is.Indefinite = (mode ≡ Ber) × (lengths ≡ 128 ∷ [])

-- an identifier stands at the beginning of the octets, and rest behind it
pub record IdentifierFirst (octets identifier rest : List ℕ) : Type 0 where
  pub is_identifier : IsIdentifier identifier
  pub parts : octets ≡ identifier ++ rest

-- no identifier stands at the beginning of the octets
abbrev pub NoIdentifier : List ℕ → Type 0
NoIdentifier octets = (identifier rest : List ℕ) → IdentifierFirst octets identifier rest → ⊥

-- an identifier and length octets that say this length stand at the beginning of the octets, and
-- rest behind them
pub record HeaderFirst (mode : Mode) (octets identifier : List ℕ) (length : Length)
    (rest : List ℕ) : Type 0 where
  pub lengths : List ℕ
  pub is_identifier : IsIdentifier identifier
  pub says : SaysLength mode lengths length
  pub parts : octets ≡ identifier ++ (lengths ++ rest)

-- no identifier with lawful length octets behind it stands at the beginning of the octets
abbrev pub NoHeader : Mode → List ℕ → Type 0
NoHeader mode octets = (identifier : List ℕ) (length : Length) (rest : List ℕ)
    → HeaderFirst mode octets identifier length rest → ⊥
