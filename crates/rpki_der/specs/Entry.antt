-- Values that an object identifier names, as attributes and extensions.
use Rattle.std.specs.Prelude.{ℕ, Bool, bytes_eq, Option, List}
use Rattle.rpki_common.specs.Chaining.{◌>>=◌}
use Rattle.rpki_der.specs.Oid.{oid}
use Rattle.rpki_der.specs.Tags.{sequence, set}
use Rattle.rpki_der.specs.Value.{Value, Values}
use Rattle.rpki_der.specs.Grammar.{within, first, done, wrapped}

-- SEQUENCE of an object identifier and any values: the identifier, and the values behind it
unfoldable pub entry : Value → Option (List ℕ × Values)
entry = within sequence (first oid)

-- the entry has this identifier
abbrev pub is : List ℕ → List ℕ × Values → Bool
is identifier e = bytes_eq e.0 identifier

-- a SET of exactly one value, and nothing behind it
unfoldable pub set_of : {X : Type 0} → (Value → Option X) → Values → Option X
set_of leaf vs = do
  x ← first (wrapped set leaf) vs
  done x.0 x.1
