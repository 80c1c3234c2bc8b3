-- Signatures (RFC 5280, 4.1.1.2 and 4.1.1.3).
use Rattle.std.specs.Prelude.{ℕ, List}

-- the algorithm that made it, and its octets
pub record SignatureParts (A : Type 0) : Type 0 where
  pub algorithm : A
  pub value : List ℕ
