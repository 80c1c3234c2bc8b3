-- Elements whose texts have no outer white space.
use Rattle.std.specs.Prelude.{◌≡◌}
use Rattle.rpki_xml.specs.Content.{trimmed}
use Rattle.rpki_xml.specs.Element.{Elements, none, first}

-- the texts of the elements and of all below them have no outer white space
abbrev pub AreTrimmed : Elements → Type 0
AreTrimmed none = Unit {0}
AreTrimmed (first head children rest) =
    (trimmed head.text ≡ head.text) × (AreTrimmed children × AreTrimmed rest)
