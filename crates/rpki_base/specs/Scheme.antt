-- What a signature scheme says.
use Rattle.std.specs.Prelude.{ℕ, List}
use Rattle.rpki_base.specs.declared.algorithm.SigningAlgorithm.{SigningAlgorithm}
use Rattle.rpki_base.specs.PublicKey.{KeyFields}

-- which signatures hold: a relation between kind, key, message and signature
abbrev pub Relation : Type 1
Relation = SigningAlgorithm → KeyFields → List ℕ → List ℕ → Type 0
