-- Lists of checks, and the first that fails.
use Rattle.std.specs.Prelude.{◌≡◌, ℕ, ◌+◌, All, length, Bool, true, false, Result, Ok, Err, List, [], ◌∷◌, ◌++◌}
use Rattle.rpki_base.specs.declared.algorithm.SigningAlgorithm.TheVariants.{RsaSha256}
use Rattle.rpki_base.specs.declared.validation.ValidationKind.{ValidationKind}
use Rattle.rpki_base.specs.declared.validation.ValidationError.{ValidationError}
use Rattle.rpki_base.specs.PublicKey.{KeyFields}
use Rattle.rpki_base.specs.RpkiSignatureAlgorithm.{RpkiAlgorithm}
use Rattle.rpki_base.specs.Scheme.{Relation}
use Rattle.rpki_base.specs.SignedData.{Signed}

-- the first false value, if any is, by its number; the first of the list has number n
abbrev pub first_failure : ℕ → List Bool → Result (Unit {0}) ℕ
first_failure n [] = Ok tt
first_failure n (true ∷ more) = first_failure (n + 1) more
first_failure n (false ∷ more) = Err n

-- all values before this place are true, and it holds false
pub record FirstFalse (n k : ℕ) (list : List Bool) : Type 0 where
  pub before : List Bool
  pub after : List Bool
  pub parts : list ≡ before ++ false ∷ after
  pub holds : All (λ b. b ≡ true) before
  pub place : k ≡ n + length before

-- the answer to a failing check is its number and its kind
abbrev pub failing : {X : Type 0} → (ℕ → ValidationKind) → Result X ℕ → Result X ValidationError
failing kind (Ok x) = Ok x
failing kind (Err n) = Err (record { kind = kind n; check = n })

-- the question to a scheme: whether the signature of a certificate or a CRL holds under a key
abbrev pub IsSigned : {T : Type 0} → Relation → Signed RpkiAlgorithm T → KeyFields → Type 0
IsSigned scheme c key = scheme RsaSha256 key c.signed.slice c.signed.signature.value
