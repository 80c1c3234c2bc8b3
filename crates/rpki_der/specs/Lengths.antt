-- Length octets (X.690, 8.1.3 and 10.1).
use Rattle.std.specs.Prelude.{◌≡◌, ◌≢◌, ℕ, ◌+◌, ◌*◌, ◌<◌, ◌≤◌, List, [], ◌∷◌, length, fold, ⊤}
use Rattle.rpki_der.specs.declared.mode.Mode.{Mode}
use Rattle.rpki_der.specs.declared.mode.Mode.TheVariants.{Ber, Der}

-- the number that the octets spell, the most significant first
abbrev pub number : List ℕ → ℕ
number octets = fold (λ n a. n * 256 + a) 0 octets

-- in DER no shorter spelling stands for the number
abbrev pub IsShortest : Mode → List ℕ → Type 0
IsShortest Ber octets = ⊤
IsShortest Der [] = ⊥
IsShortest Der (a ∷ more) = (a ≢ 0) × (128 ≤ number (a ∷ more))

-- the definite length n: one octet below 80, or 81 to 84 and that many less 80 octets
abbrev pub IsLength : Mode → List ℕ → ℕ → Type 0
IsLength mode [] n = ⊥
IsLength mode (a ∷ []) n = (a < 128) × (n ≡ a)
IsLength mode (a ∷ b ∷ more) n =
    (a ≡ 129 + length more) × (length more ≤ 3) × (n ≡ number (b ∷ more))
    × IsShortest mode (b ∷ more)
