-- A value whose first header was read, and counted, before: a means for the readers of whole
-- values.
use Rattle.std.specs.Prelude.{◌≡◌, ℕ, ◌+◌, ◌-◌, List, length, take}
use Rattle.rpki_der.specs.declared.mode.Mode.{Mode}
use Rattle.rpki_der.specs.Value.{Value, Begins}
use Rattle.rpki_der.specs.Level.{Level, Sized, Marked}
use Rattle.rpki_der.specs.Ticks.{counts}
use Rattle.rpki_der.specs.Item.{ItemFields, item}

-- A value stands at the beginning of the octets that shows these fields, and behind it rest; it
-- ticked for all its headers and end marks but the first.
abbrev pub ShowsWhole : Mode → List ℕ → List ℕ → ℕ → ℕ → ItemFields → Type 0
ShowsWhole mode here rest before after fields =
    (v : Value) × Begins mode here v rest × (fields ≡ item v) × (after + 1 ≡ before + counts v)

-- the contents of a constructed value, where inner begins with them and rest stands behind the
-- value
abbrev pub content_in : Level → List ℕ → List ℕ → List ℕ
content_in (Sized after) inner rest = inner
content_in Marked inner rest = take (length inner - length rest - 2) inner
