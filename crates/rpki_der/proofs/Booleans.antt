-- An optional BOOLEAN, read of what a value shows.
use Rattle.std.proofs.Common.{◌≡◌, true, refl}
use Rattle.rpki_common.specs.Chaining.{◌>>=◌}
use Rattle.rpki_der.specs.declared.mode.Mode.{Mode}
use Rattle.rpki_der.specs.Identifier.{has_tag}
use Rattle.rpki_der.specs.Grammar.{identifier_of, so}
use Rattle.rpki_der.specs.Item.{item}
use Rattle.rpki_der.specs.Tags.{boolean_tag}
use Rattle.rpki_der.specs.Value.{Value, Primitive, Constructed}
use Rattle.rpki_der.specs.Boolean.{boolean}
use Rattle.rpki_der.proofs.Items.{Converts}
use Rattle.rpki_der.specs.OptionalBoolean.{boolean_shown}

boolean_is : (mode : Mode) (v : Value) → has_tag boolean_tag (identifier_of v) ≡ true → boolean mode v ≡ boolean_shown mode (item v)
unfolding boolean so ◌>>=◌
boolean_is mode (Primitive i l c) t = rw t refl
boolean_is mode (Constructed i f vs) t = refl

pub boolean_converts : (mode : Mode) → Converts boolean_tag (boolean mode) (boolean_shown mode)
boolean_converts mode = record { is = boolean_is mode }
