-- Partial functions one after the other, as `do` writes them.
use Rattle.std.specs.Prelude.{Option, None, Some}

infixl 10 ◌>>=◌
-- f of what is there, and nothing where nothing is
unfoldable pub ◌>>=◌ : {A B : Type 0} → Option A → (A → Option B) → Option B
None >>= f = None
(Some x) >>= f = f x
