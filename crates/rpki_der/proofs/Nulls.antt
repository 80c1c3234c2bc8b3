-- NULL, read of what a value shows.
use Rattle.std.proofs.Common.{◌≡◌, true, [], ◌∷◌, refl}
use Rattle.rpki_der.specs.Identifier.{has_tag}
use Rattle.rpki_der.specs.Grammar.{identifier_of}
use Rattle.rpki_der.specs.Item.{item}
use Rattle.rpki_der.specs.Tags.{null_tag}
use Rattle.rpki_der.specs.Value.{Value, Primitive, Constructed}
use Rattle.rpki_der.specs.Null.{null, null_shown}
use Rattle.rpki_der.proofs.Items.{Converts}

null_is : (v : Value) → has_tag null_tag (identifier_of v) ≡ true → null v ≡ null_shown (item v)
unfolding null
null_is (Primitive i l []) t = rw t refl
null_is (Primitive i l (a ∷ more)) t = refl
null_is (Constructed i f vs) t = refl

pub null_converts : Converts null_tag null null_shown
null_converts = record { is = null_is }
