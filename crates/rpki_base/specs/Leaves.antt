-- An algorithm identifier by the primitive values in it: a means for the reader that takes no
-- memory, tied to AlgorithmIdentifier by proofs/Identifiers.antt.
use Rattle.std.specs.Prelude.{ℕ, Bool, true, false, bytes_eq, if◌then◌else◌, Option, None, Some, List, [], ◌∷◌}
use Rattle.rpki_common.specs.Chaining.{◌>>=◌}
use Rattle.rpki_der.specs.Tags.{null_tag, oid_tag}
use Rattle.rpki_der.specs.Leaf.{LeafFields}
use Rattle.rpki_der.specs.Oid.{subidentifiers}

-- the object identifier that the contents octets are, if the tag is that of OBJECT IDENTIFIER
abbrev pub oid_contents : List ℕ → List ℕ → Option (List ℕ)
oid_contents tag content = if bytes_eq tag oid_tag then subidentifiers content else None

-- the object identifier that a primitive value is, if it is one
abbrev pub oid_leaf : LeafFields → Option (List ℕ)
oid_leaf l = oid_contents l.tag l.content

-- that NULL is there, if there are no contents octets
abbrev pub null_without_octets : List ℕ → Option Bool
null_without_octets [] = Some true
null_without_octets (a ∷ more) = None

-- that NULL is there, if the tag is that of NULL and there are no contents octets
abbrev pub null_contents : List ℕ → List ℕ → Option Bool
null_contents tag content = if bytes_eq tag null_tag then null_without_octets content else None

-- whether NULL is there
abbrev pub null_leaf : Option LeafFields → Option Bool
null_leaf None = Some false
null_leaf (Some l) = null_contents l.tag l.content

-- the object identifier that the first value is, and whether NULL is there as the second
abbrev pub identifier_leaves : LeafFields × Option LeafFields → Option (List ℕ × Bool)
identifier_leaves (name, parameter) =
    oid_leaf name >>= λ n. null_leaf parameter >>= λ p. Some (n, p)
