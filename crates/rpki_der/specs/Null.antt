-- NULL: a primitive value with no contents octets (X.690, 8.8).
use Rattle.std.specs.Prelude.{ℕ, Bool, true, false, if◌then◌else◌, Option, None, Some, List, [], ◌∷◌}
use Rattle.rpki_der.specs.Identifier.{has_tag}
use Rattle.rpki_der.specs.Tags.{null_tag}
use Rattle.rpki_der.specs.Value.{Value, Primitive, Constructed}
use Rattle.rpki_der.specs.Item.{ItemFields}

-- NULL: a primitive value with its tag, which has no contents octets
unfoldable pub null : Value → Option (Unit {0})
null (Primitive identifier lengths []) = if has_tag null_tag identifier then Some tt else None
null (Primitive identifier lengths (a ∷ more)) = None
null (Constructed identifier form inner) = None

-- NULL by what a value with its tag shows: its contents are empty
abbrev pub no_octets : List ℕ → Option (Unit {0})
no_octets [] = Some tt
no_octets (a ∷ more) = None

-- NULL by what a value with its tag shows: it is primitive, and has no contents octets
abbrev pub null_shown : ItemFields → Option (Unit {0})
null_shown i = if i.constructed then None else no_octets i.content

-- whether it stands there
abbrev pub present : Bool → Option (Unit {0})
present true = Some tt
present false = None
