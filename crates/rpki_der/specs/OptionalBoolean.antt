-- A BOOLEAN, read of what a value with its tag shows: a means for the reader of an optional one,
-- tied to `boolean` by proofs/Booleans.antt.
use Rattle.std.specs.Prelude.{Bool, if◌then◌else◌, Option, None}
use Rattle.rpki_der.specs.declared.mode.Mode.{Mode}
use Rattle.rpki_der.specs.Item.{ItemFields}
use Rattle.rpki_der.specs.Boolean.{truth}

-- the truth that the contents octets of a value say, if it is primitive
abbrev pub boolean_shown : Mode → ItemFields → Option Bool
boolean_shown mode i = if i.constructed then None else truth mode i.content
