-- The texts that a list of references lends.
use Rattle.std.specs.Prelude.{ℕ, List, map}
use Rattle.std.specs.Borrow.{Bor}

-- the octets of texts that are lent
abbrev pub texts : List (Bor (List ℕ)) → List (List ℕ)
texts list = map (λ t. t.now) list
