-- Lists that grow in two steps: room is made, which takes memory, and then an item is put there,
-- which takes none.
use Rattle.std.specs.Prelude.{◌≡◌, ◌≤◌, ◌⊎◌, true, ℕ, ◌-◌, Option, None, Some, List, [], vec_capacity, vec_len}
use Rattle.std.specs.List.{list_any}
use Rattle.std.specs.Global.{Vec}
use Rattle.rpki_updown.specs.Entitlements.{IssuedFields}
use Rattle.rpki_upserver.specs.Table.{has_key}

-- the items that a list holds, and for how many more it has room
pub record KeptItems (T : Type 0) : Type 0 where
  pub items : List T
  -- for how many more there is room
  pub room : ℕ

-- of a vector, its items and as much room as its capacity exceeds its length; of None, no items and
-- no room
abbrev pub kept_items : {T : Type 0} → Option (Vec T) → KeptItems T
kept_items None = record { items = []; room = 0 }
kept_items (Some held) = record { items = held.items; room = vec_capacity held - vec_len held }

-- a certificate of the key is there, or there is room for it
abbrev pub HasKeptRoom : KeptItems IssuedFields → List ℕ → Type 0
HasKeptRoom held key = (list_any (has_key key) held.items ≡ true) ⊎ (1 ≤ held.room)
