-- The objects in places, where one is put, taken or asked for.
use Rattle.std.proofs.Common.{◌≡◌, ◌||◌, ℕ, Bool, true, false, cond, Option, None, Some, List, [], ◌∷◌, refl, sym, ap, subst, ◌∙◌}
use Rattle.std.specs.BTreeMap.{insert_entry}
use Rattle.std.specs.Cmp.Lexicographic.{slice_cmp}
use Rattle.std.specs.List.{AllByRecursion, list_any}
use Rattle.std.specs.List.Sorted.{IsStrictlySortedBy}
use Rattle.std.specs.Map.{keys_of, lookup, remove_entry}
use Rattle.std.specs.Ordering.{is_eq, match_ordering, nat_cmp}
use Rattle.std.specs.declared.cmp.Ordering.TheVariants.{Less, Equal, Greater}
use Rattle.std.specs.Str.{bytes_eq}
use Rattle.std.proofs.lemmas.Map.Keys.{sorted_head, sorted_tail}
use Rattle.std.proofs.lemmas.Map.Text.{is_eq-slice_cmp}
use Rattle.std.proofs.lemmas.Slice.Eq.{bytes_eq-Decides}
use Rattle.rpki_publication.specs.declared.publish_delta_element.PublishDeltaElement.{PublishDeltaElement}
use Rattle.rpki_publication.specs.declared.publish_delta_element.PublishDeltaElement.TheVariants as change
use Rattle.rpki_pubserver.specs.Store.{Store, IsStore, octets_at, put, without}
use Rattle.rpki_pubserver.specs.Changes.{changed, uri_of}
use Rattle.rpki_pubserver.specs.Places.{HasPlace, Places, flattened, live, object_of, with_object, with_octets}
use Rattle.rpki_pubserver.proofs.Entries.{AreBehind, AreSorted, equal_from_same, greater_from_less, other_before, text_cmp}

-- ---- texts behind another

-- a text that has a place among those behind another is behind it
behind_from_place : (uri one : List ℕ) (places : Places) → AreBehind one places → HasPlace places uri → text_cmp one uri ≡ Less
behind_from_place uri one [] behind has = cc
behind_from_place uri one ((key, there) ∷ places) behind has =
    elim (bytes_eq uri key) as (λ t. bytes_eq uri key ≡ t → text_cmp one uri ≡ Less) [
      | true ↦ λ same. subst (λ (k : List ℕ). text_cmp one k ≡ Less) (sym ((bytes_eq-Decides uri key).0 same)) behind.0
      | false ↦ λ other. behind_from_place uri one places behind.1 (sym (ap (λ (b : Bool). b || list_any (bytes_eq uri) (keys_of places)) other) ∙ has)
    ] refl

-- ---- the objects behind a text

none_among : (uri : List ℕ) (places : Places) → AreBehind uri places → octets_at (live places) uri ≡ None
none_among uri [] behind = refl
none_among uri ((key, None) ∷ places) behind = none_among uri places behind.1
none_among uri ((key, Some octets) ∷ places) behind = rw (other_before uri key behind.0) (none_among uri places behind.1)

kept_without : (uri : List ℕ) (places : Places) → AreBehind uri places → without (live places) uri ≡ live places
kept_without uri [] behind = refl
kept_without uri ((key, None) ∷ places) behind = kept_without uri places behind.1
kept_without uri ((key, Some octets) ∷ places) behind = rw (other_before uri key behind.0) (ap (λ (s : Store). (key, octets) ∷ s) (kept_without uri places behind.1))

put_first : (uri octets : List ℕ) (places : Places) → AreBehind uri places → put (live places) uri octets ≡ (uri, octets) ∷ live places
put_first uri octets [] behind = refl
put_first uri octets ((key, None) ∷ places) behind = put_first uri octets places behind.1
put_first uri octets ((key, Some there) ∷ places) behind = rw behind.0 refl

-- ---- what is at a place

pub octets_live : (uri : List ℕ) (places : Places) → AreSorted places → octets_at (live places) uri ≡ flattened (lookup (bytes_eq uri) places)
octets_live uri [] sorted = refl
octets_live uri ((key, None) ∷ places) sorted =
    elim (bytes_eq uri key) as (λ t. bytes_eq uri key ≡ t → octets_at (live places) uri ≡ flattened (cond t (Some None) (lookup (bytes_eq uri) places))) [
      | true ↦ λ same. none_among uri places (subst (λ (k : List ℕ). AreBehind k places) (sym ((bytes_eq-Decides uri key).0 same)) (sorted_head _ key (keys_of places) sorted))
      | false ↦ λ other. octets_live uri places (sorted_tail _ key (keys_of places) sorted)
    ] refl
octets_live uri ((key, Some octets) ∷ places) sorted =
    elim (bytes_eq uri key) as (λ t. bytes_eq uri key ≡ t → cond t (Some octets) (octets_at (live places) uri) ≡ flattened (cond t (Some (Some octets)) (lookup (bytes_eq uri) places))) [
      | true ↦ λ same. refl
      | false ↦ λ other. octets_live uri places (sorted_tail _ key (keys_of places) sorted)
    ] refl

-- ---- where an object is put

pub live_put : (uri octets : List ℕ) (places : Places) → AreSorted places → HasPlace places uri → live (with_object places uri (Some octets)) ≡ put (live places) uri octets
live_put uri octets [] sorted has = cc
live_put uri octets ((key, there) ∷ places) sorted has =
    elim (bytes_eq uri key) as (λ t. bytes_eq uri key ≡ t → live (cond t ((key, Some octets) ∷ places) ((key, there) ∷ with_object places uri (Some octets))) ≡ put (live ((key, there) ∷ places)) uri octets) [
      | true ↦ λ same. here there same
      | false ↦ λ other.
          let more : HasPlace places uri = sym (ap (λ (b : Bool). b || list_any (bytes_eq uri) (keys_of places)) other) ∙ has in
          elsewhere there more (live_put uri octets places (sorted_tail _ key (keys_of places) sorted) more)
    ] refl
  where
    behind : AreBehind key places
    behind = sorted_head _ key (keys_of places) sorted

    here : (there : Option (List ℕ)) → bytes_eq uri key ≡ true → (key, octets) ∷ live places ≡ put (live ((key, there) ∷ places)) uri octets
    here None same =
        let is : uri ≡ key = (bytes_eq-Decides uri key).0 same in
        sym (ap (λ (k : List ℕ). put (live places) k octets) is ∙ put_first key octets places behind)
    here (Some old) same = rw (equal_from_same uri key same) refl

    elsewhere : (there : Option (List ℕ)) → HasPlace places uri → live (with_object places uri (Some octets)) ≡ put (live places) uri octets
        → live ((key, there) ∷ with_object places uri (Some octets)) ≡ put (live ((key, there) ∷ places)) uri octets
    elsewhere None more e = e
    elsewhere (Some old) more e = rw (greater_from_less key uri (behind_from_place uri key places behind more)) (ap (λ (s : Store). (key, old) ∷ s) e)

-- ---- where one is taken

pub live_without : (uri : List ℕ) (places : Places) → AreSorted places → live (with_object places uri None) ≡ without (live places) uri
live_without uri [] sorted = refl
live_without uri ((key, None) ∷ places) sorted =
    elim (bytes_eq uri key) as (λ t. bytes_eq uri key ≡ t → live (cond t ((key, None) ∷ places) ((key, None) ∷ with_object places uri None)) ≡ without (live places) uri) [
      | true ↦ λ same. sym (kept_without uri places (subst (λ (k : List ℕ). AreBehind k places) (sym ((bytes_eq-Decides uri key).0 same)) (sorted_head _ key (keys_of places) sorted)))
      | false ↦ λ other. live_without uri places (sorted_tail _ key (keys_of places) sorted)
    ] refl
live_without uri ((key, Some octets) ∷ places) sorted =
    elim (bytes_eq uri key) as (λ t. bytes_eq uri key ≡ t → live (cond t ((key, None) ∷ places) ((key, Some octets) ∷ with_object places uri None)) ≡ cond t (live places) ((key, octets) ∷ without (live places) uri)) [
      | true ↦ λ same. refl
      | false ↦ λ other. ap (λ (s : Store). (key, octets) ∷ s) (live_without uri places (sorted_tail _ key (keys_of places) sorted))
    ] refl

-- ---- where one, or none, is put

pub live_set : (uri : List ℕ) (places : Places) (object : Option (List ℕ)) → AreSorted places → HasPlace places uri → live (with_object places uri object) ≡ with_octets (live places) uri object
live_set uri places None sorted has = live_without uri places sorted
live_set uri places (Some octets) sorted has = live_put uri octets places sorted has

-- ---- empty places

-- where one that was empty is taken out
pub live_dropped : (uri : List ℕ) (places : Places) → lookup (bytes_eq uri) places ≡ Some None → live (remove_entry (bytes_eq uri) places) ≡ live places
live_dropped uri [] none = cc
live_dropped uri ((key, there) ∷ places) none =
    elim (bytes_eq uri key) as (λ t. cond t (Some there) (lookup (bytes_eq uri) places) ≡ Some None → live (cond t places ((key, there) ∷ remove_entry (bytes_eq uri) places)) ≡ live ((key, there) ∷ places)) [
      | true ↦ λ here. empty there here
      | false ↦ λ behind. more there (live_dropped uri places behind)
    ] none
  where
    empty : (there : Option (List ℕ)) → Some there ≡ Some None → live places ≡ live ((key, there) ∷ places)
    empty None e = refl
    empty (Some octets) e = cc

    more : (there : Option (List ℕ)) → live (remove_entry (bytes_eq uri) places) ≡ live places → live ((key, there) ∷ remove_entry (bytes_eq uri) places) ≡ live ((key, there) ∷ places)
    more None e = e
    more (Some octets) e = ap (λ (s : Store). (key, octets) ∷ s) e

-- where an empty one is new
pub live_new : (uri : List ℕ) (places : Places) → list_any (bytes_eq uri) (keys_of places) ≡ false → live (insert_entry (slice_cmp nat_cmp) places uri None) ≡ live places
live_new uri [] none = refl
live_new uri ((key, there) ∷ places) none =
    elim (text_cmp uri key) as (λ o. text_cmp uri key ≡ o → live (match_ordering o ((uri, None) ∷ (key, there) ∷ places) ((key, None) ∷ places) ((key, there) ∷ insert_entry (slice_cmp nat_cmp) places uri None)) ≡ live ((key, there) ∷ places)) [
      | Less ↦ λ e. refl
      | Equal ↦ λ e. absurd (not_here (sym (is_eq-slice_cmp uri key) ∙ ap is_eq e) none)
      | Greater ↦ λ e. more there (live_new uri places (behind (bytes_eq uri key) none))
    ] refl
  where
    not_here : bytes_eq uri key ≡ true → (bytes_eq uri key || list_any (bytes_eq uri) (keys_of places)) ≡ false → ⊥
    not_here e n = cc

    behind : (b : Bool) → (b || list_any (bytes_eq uri) (keys_of places)) ≡ false → list_any (bytes_eq uri) (keys_of places) ≡ false
    behind true e = cc
    behind false e = e

    more : (there : Option (List ℕ)) → live (insert_entry (slice_cmp nat_cmp) places uri None) ≡ live places → live ((key, there) ∷ insert_entry (slice_cmp nat_cmp) places uri None) ≡ live ((key, there) ∷ places)
    more None e = e
    more (Some octets) e = ap (λ (s : Store). (key, octets) ∷ s) e

-- ---- the order of the objects

behind_live : (uri : List ℕ) (places : Places) → AreBehind uri places → AllByRecursion (λ other. text_cmp uri other ≡ Less) (keys_of (live places))
behind_live uri [] behind = tt
behind_live uri ((key, None) ∷ places) behind = behind_live uri places behind.1
behind_live uri ((key, Some octets) ∷ places) behind = (behind.0, behind_live uri places behind.1)

pub live_ordered : (places : Places) → AreSorted places → IsStore (live places)
unfolding IsStrictlySortedBy
live_ordered [] sorted = tt
live_ordered ((key, None) ∷ places) sorted = live_ordered places sorted.1
live_ordered ((key, Some octets) ∷ places) sorted = (behind_live key places sorted.0, live_ordered places sorted.1)

-- ---- by changes

pub octets_changed : (store : Store) (e : PublishDeltaElement) → with_octets store (uri_of e) (object_of e) ≡ changed store e
octets_changed store (change.Publish p) = refl
octets_changed store (change.Update u) = refl
octets_changed store (change.Withdraw w) = refl
