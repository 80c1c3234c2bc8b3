-- Objects in places of which some may be empty, as the code keeps them.
use Rattle.std.specs.Prelude.{◌≡◌, ℕ, Bool, false, true, Option, None, Some, List, [], ◌∷◌, map, string_bytes, String}
use Rattle.std.specs.List.{AllByRecursion, list_any}
use Rattle.std.specs.Map.{keys_of, lookup, set_value}
use Rattle.std.specs.Str.{bytes_eq}
use Rattle.rpki_publication.specs.declared.publish_delta_element.PublishDeltaElement.{PublishDeltaElement}
use Rattle.rpki_publication.specs.declared.publish_delta_element.PublishDeltaElement.TheVariants as change
use Rattle.rpki_pubserver.specs.Changes.{uri_of}
use Rattle.rpki_pubserver.specs.Store.{Store, put, without}

-- pairs of the text of a URI and what is there
abbrev pub Places : Type 0
Places = List (List ℕ × Option (List ℕ))

-- places, by the texts of their URIs
abbrev pub placed : {Z : Type 0} → List (String Z × Option (List ℕ)) → Places
placed entries = map (λ e. (string_bytes e.0, e.1)) entries

-- the objects that are there
abbrev pub live : Places → Store
live [] = []
live ((uri, None) ∷ places) = live places
live ((uri, Some octets) ∷ places) = (uri, octets) ∷ live places

-- what is at a place that may be missing
abbrev pub flattened : Option (Option (List ℕ)) → Option (List ℕ)
flattened None = None
flattened (Some there) = there

-- there is a place for a URI
abbrev pub HasPlace : Places → List ℕ → Type 0
HasPlace places uri = list_any (bytes_eq uri) (keys_of places) ≡ true

-- there is a place for a URI, and no object is there
abbrev pub IsEmptyAt : Places → List ℕ → Type 0
IsEmptyAt places uri = lookup (bytes_eq uri) places ≡ Some None

-- at no URI is an empty place
abbrev pub NoneIsEmpty : Places → Type 0
NoneIsEmpty places = (uri : List ℕ) → IsEmptyAt places uri → ⊥

-- at a URI there is what was there before, or no place as before
abbrev pub IsSameAt : List ℕ → Places → Places → Type 0
IsSameAt uri before after = lookup (bytes_eq uri) after ≡ lookup (bytes_eq uri) before

-- the places where an object, or none, is put at a URI for which there is one
abbrev pub with_object : Places → List ℕ → Option (List ℕ) → Places
with_object places uri object = set_value (bytes_eq uri) places object

-- the objects where one, or none, is put at a URI
abbrev pub with_octets : Store → List ℕ → Option (List ℕ) → Store
with_octets store uri None = without store uri
with_octets store uri (Some octets) = put store uri octets

-- ---- by changes

-- what is at its URI behind a change
abbrev pub object_of : PublishDeltaElement → Option (List ℕ)
object_of (change.Publish p) = Some p.content
object_of (change.Update u) = Some u.content
object_of (change.Withdraw w) = None

-- there is a place for the URI of each change
abbrev pub HavePlaces : Places → List PublishDeltaElement → Type 0
HavePlaces places changes = AllByRecursion (λ e. HasPlace places (uri_of e)) changes

-- whether one of the changes is at a URI
abbrev pub has_change : List PublishDeltaElement → List ℕ → Bool
has_change changes uri = list_any (λ e. bytes_eq uri (uri_of e)) changes

-- at each URI at which no change is, all is as before
abbrev pub IsSameElsewhere : List PublishDeltaElement → Places → Places → Type 0
IsSameElsewhere changes before after =
    (uri : List ℕ) → has_change changes uri ≡ false → IsSameAt uri before after

-- the places where each change, the last one first, is undone: what was there before it is put back
abbrev pub undone : List PublishDeltaElement → List (Option (List ℕ)) → Places → Places
undone [] before places = places
undone (e ∷ more) [] places = places
undone (e ∷ more) (there ∷ before) places =
    with_object (undone more before places) (uri_of e) there
