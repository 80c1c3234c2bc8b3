-- What a layer says of octets.
use Rattle.std.specs.Prelude.{◌≡◌, ◌≤◌, ℕ, List, Option, Some, None, length, drop, bytes_eq, if◌then◌else◌, codes, ⊤}
use Rattle.rpki_xml.specs.Element.{Element}
use Rattle.rpki_xml.specs.Lexing.{IsDocument}
use Rattle.rpki_der.specs.declared.mode.Mode.TheVariants.{Ber}
use Rattle.rpki_der.specs.Value.{Value, spelling, Begins}
use Rattle.rpki_der.specs.Part.{NoValue}
use Rattle.bench_layers.specs.declared.layer.Layer.{Layer}
use Rattle.bench_layers.specs.declared.layer.Layer.TheVariants as layers
use Rattle.bench_layers.specs.declared.layer.Outcome.{Outcome}
use Rattle.bench_layers.specs.declared.layer.Outcome.TheVariants as outcome

-- the layer that has this name
abbrev pub layer_named : List ℕ → Option Layer
layer_named name =
    if bytes_eq name (codes "document") then Some layers.Document
    else if bytes_eq name (codes "tree") then Some layers.Tree
    else if bytes_eq name (codes "walk") then Some layers.Walk
    else None

-- the octets are one document, or they are none
abbrev pub SaysOfDocument : Outcome → List ℕ → Type 0
SaysOfDocument outcome.Read octets = (x : Element) × IsDocument octets x
SaysOfDocument outcome.Malformed octets = (x : Element) → IsDocument octets x → ⊥
SaysOfDocument outcome.OutOfMemory octets = ⊤
SaysOfDocument (outcome.Octets count) octets = ⊥
SaysOfDocument (outcome.Values count) octets = ⊥

-- a value of so many octets begins the octets, or none does
abbrev pub SaysOfTree : Outcome → List ℕ → Type 0
SaysOfTree (outcome.Octets count) octets =
    (v : Value) × Begins Ber octets v (drop count octets) × (count ≡ length (spelling v))
SaysOfTree outcome.Malformed octets = NoValue Ber octets
SaysOfTree outcome.OutOfMemory octets = ⊤
SaysOfTree outcome.Read octets = ⊥
SaysOfTree (outcome.Values count) octets = ⊥

-- a value begins the octets, of which so many values were met, or none does
abbrev pub SaysOfWalk : Outcome → List ℕ → Type 0
SaysOfWalk (outcome.Values count) octets =
    (v : Value) × (rest : List ℕ) × Begins Ber octets v rest × (1 ≤ count) × (count ≤ length octets)
SaysOfWalk outcome.Malformed octets = NoValue Ber octets
SaysOfWalk outcome.OutOfMemory octets = ⊤
SaysOfWalk outcome.Read octets = ⊥
SaysOfWalk (outcome.Octets count) octets = ⊥

-- what an outcome says of octets, by the layer
abbrev pub Says : Layer → Outcome → List ℕ → Type 0
Says layers.Document o octets = SaysOfDocument o octets
Says layers.Tree o octets = SaysOfTree o octets
Says layers.Walk o octets = SaysOfWalk o octets
