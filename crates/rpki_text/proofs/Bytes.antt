-- Octets below 256, put together.
use Rattle.std.proofs.Common.{ℕ, zero, suc, ◌<◌, List, [], ◌∷◌, ◌++◌, arith}
use Rattle.base64.specs.GeneralPurpose.{IsBytes}

pub byte_first : (x : ℕ) (m : List ℕ) → x < 256 → IsBytes m → IsBytes (x ∷ m)
byte_first x m lt h zero = lt
byte_first x m lt h (suc i) = h i

pub no_bytes : IsBytes []
no_bytes i = omega arith

pub both_bytes : (a b : List ℕ) → IsBytes a → IsBytes b → IsBytes (a ++ b)
both_bytes [] b h k = k
both_bytes (x ∷ a) b h k = byte_first x (a ++ b) (h 0) (both_bytes a b (λ i. h (suc i)) k)
