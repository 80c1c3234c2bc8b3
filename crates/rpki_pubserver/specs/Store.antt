-- What a publication server keeps: the objects of one publisher (RFC 8181, 1).
use Rattle.std.specs.Prelude.{◌≡◌, ℕ, true, Option, List, map, nat_eq}
use Rattle.std.specs.BTreeMap.{insert_entry}
use Rattle.std.specs.Cmp.Lexicographic.{slice_cmp}
use Rattle.std.specs.List.{AllByRecursion, starts_with}
use Rattle.std.specs.List.Sorted.{IsStrictlySortedBy}
use Rattle.std.specs.Map.{keys_of, lookup, remove_entry}
use Rattle.std.specs.Option.{option_map}
use Rattle.std.specs.Ordering.{nat_cmp}
use Rattle.std.specs.Str.{bytes_eq}
use Rattle.sha2.specs.Sha256.{sha256}
use Rattle.rpki_publication.specs.ListElement.{ListElementFields}

-- pairs of the text of a URI and the octets of the object that is there
abbrev pub Store : Type 0
Store = List (List ℕ × List ℕ)

-- the objects ascend by the octets of their URIs' texts, so no URI is there twice
abbrev pub IsStore : Store → Type 0
IsStore store = IsStrictlySortedBy (slice_cmp nat_cmp) (keys_of store)

-- the octets at a URI
abbrev pub octets_at : Store → List ℕ → Option (List ℕ)
octets_at store uri = lookup (bytes_eq uri) store

-- the SHA-256 of the octets at a URI
abbrev pub digest_at : Store → List ℕ → Option (List ℕ)
digest_at store uri = option_map sha256 (octets_at store uri)

-- the store with these octets at a URI: in the place of those that are there, or in a new pair at
-- its place in the order
abbrev pub put : Store → List ℕ → List ℕ → Store
put store uri octets = insert_entry (slice_cmp nat_cmp) store uri octets

-- the store without what is at a URI
abbrev pub without : Store → List ℕ → Store
without store uri = remove_entry (bytes_eq uri) store

-- the list of all objects: each URI with the digest of the octets there (2.3)
abbrev pub listed_store : Store → List ListElementFields
listed_store store = map (λ pair. record { uri = pair.0; hash = sha256 pair.1 }) store

-- each URI begins with this text
abbrev pub LieUnder : List ℕ → Store → Type 0
LieUnder base store = AllByRecursion (λ pair. starts_with nat_eq pair.0 base ≡ true) store
