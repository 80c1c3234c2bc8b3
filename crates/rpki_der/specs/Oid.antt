-- Object identifiers (X.690, 8.19).
use Rattle.std.specs.Prelude.{ℕ, ◌-◌, nat_lt, slice_index_or, if◌then◌else◌, Option, None, Some, List, length}
use Rattle.rpki_der.specs.Tags.{oid_tag}
use Rattle.rpki_der.specs.Value.{Value}
use Rattle.rpki_der.specs.Grammar.{primitive, so, exactly}

-- there is a last octet, and its bit 8 is clear
abbrev pub subidentifiers : List ℕ → Option (List ℕ)
subidentifiers octets = if nat_lt (slice_index_or octets (length octets - 1) 128) 128
    then Some octets else None

-- the contents of an object identifier
unfoldable pub oid : Value → Option (List ℕ)
oid = so (primitive oid_tag) subidentifiers

-- this object identifier and no other
unfoldable pub oid_is : List ℕ → Value → Option (Unit {0})
oid_is wanted = so oid (exactly wanted)
