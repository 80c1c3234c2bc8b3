-- Places by their texts, and by the keys of a map.
use Rattle.std.proofs.Common.{◌≡◌, ◌||◌, ℕ, Bool, true, false, cond, Option, None, Some, is_some, List, [], ◌∷◌, refl, sym, ap, subst, ◌∙◌}
use Rattle.std.specs.Prelude.{string_bytes, String}
use Rattle.std.specs.BTreeMap.{insert_entry, is_at}
use Rattle.std.specs.Cmp.Lexicographic.{slice_cmp}
use Rattle.std.specs.List.{AllByRecursion, list_any}
use Rattle.std.specs.List.Sorted.{IsStrictlySortedBy}
use Rattle.std.specs.Map.{keys_of, lookup, remove_entry, set_value}
use Rattle.std.specs.Ordering.{match_ordering, nat_cmp}
use Rattle.std.specs.declared.cmp.Ordering.{Ordering}
use Rattle.std.specs.declared.cmp.Ordering.TheVariants.{Less, Equal, Greater}
use Rattle.std.specs.String.{string_cmp}
use Rattle.std.specs.Str.{bytes_eq}
use Rattle.std.proofs.lemmas.Map.Text.{is_eq-slice_cmp}
use Rattle.rpki_pubserver.specs.Places.{HasPlace, Places, placed}
use Rattle.rpki_common.proofs.Truths.{equal_octets}
use Rattle.rpki_pubserver.proofs.Entries.{equal_text}

module _ {Z : Type 0} where
  -- the test by which the map looks a text up
  abbrev pub at_text : List ℕ → String Z → Bool
  at_text uri key = is_at (λ (k : String Z). slice_cmp nat_cmp uri (string_bytes k)) key

  pub lookup_placed : (uri : List ℕ) (entries : List (String Z × Option (List ℕ))) → lookup (at_text uri) entries ≡ lookup (bytes_eq uri) (placed entries)
  lookup_placed uri [] = refl
  lookup_placed uri (e ∷ entries) = rw (is_eq-slice_cmp uri (string_bytes e.0)) (ap (λ (o : Option (Option (List ℕ))). cond (bytes_eq uri (string_bytes e.0)) (Some e.1) o) (lookup_placed uri entries))

  pub set_placed : (uri : List ℕ) (entries : List (String Z × Option (List ℕ))) (object : Option (List ℕ)) → placed (set_value (at_text uri) entries object) ≡ set_value (bytes_eq uri) (placed entries) object
  set_placed uri [] object = refl
  set_placed uri (e ∷ entries) object = rw (is_eq-slice_cmp uri (string_bytes e.0)) (by (bytes_eq uri (string_bytes e.0)) (set_placed uri entries object))
    where
      by : (b : Bool) → placed (set_value (at_text uri) entries object) ≡ set_value (bytes_eq uri) (placed entries) object → placed (cond b ((e.0, object) ∷ entries) (e ∷ set_value (at_text uri) entries object)) ≡ cond b ((string_bytes e.0, object) ∷ placed entries) ((string_bytes e.0, e.1) ∷ set_value (bytes_eq uri) (placed entries) object)
      by true more = refl
      by false more = ap (λ (p : Places). (string_bytes e.0, e.1) ∷ p) more

  pub removed_placed : (uri : List ℕ) (entries : List (String Z × Option (List ℕ))) → placed (remove_entry (at_text uri) entries) ≡ remove_entry (bytes_eq uri) (placed entries)
  removed_placed uri [] = refl
  removed_placed uri (e ∷ entries) = rw (is_eq-slice_cmp uri (string_bytes e.0)) (by (bytes_eq uri (string_bytes e.0)) (removed_placed uri entries))
    where
      by : (b : Bool) → placed (remove_entry (at_text uri) entries) ≡ remove_entry (bytes_eq uri) (placed entries) → placed (cond b entries (e ∷ remove_entry (at_text uri) entries)) ≡ cond b (placed entries) ((string_bytes e.0, e.1) ∷ remove_entry (bytes_eq uri) (placed entries))
      by true more = refl
      by false more = ap (λ (p : Places). (string_bytes e.0, e.1) ∷ p) more

  pub inserted_placed : (entries : List (String Z × Option (List ℕ))) (key : String Z) (object : Option (List ℕ)) → placed (insert_entry string_cmp entries key object) ≡ insert_entry (slice_cmp nat_cmp) (placed entries) (string_bytes key) object
  inserted_placed [] key object = refl
  inserted_placed (e ∷ entries) key object = by (slice_cmp nat_cmp (string_bytes key) (string_bytes e.0)) (inserted_placed entries key object)
    where
      by : (o : Ordering) → placed (insert_entry string_cmp entries key object) ≡ insert_entry (slice_cmp nat_cmp) (placed entries) (string_bytes key) object → placed (match_ordering o ((key, object) ∷ e ∷ entries) ((e.0, object) ∷ entries) (e ∷ insert_entry string_cmp entries key object))
          ≡ match_ordering o ((string_bytes key, object) ∷ (string_bytes e.0, e.1) ∷ placed entries) ((string_bytes e.0, object) ∷ placed entries) ((string_bytes e.0, e.1) ∷ insert_entry (slice_cmp nat_cmp) (placed entries) (string_bytes key) object)
      by Less more = refl
      by Equal more = refl
      by Greater more = ap (λ (p : Places). (string_bytes e.0, e.1) ∷ p) more

  -- ---- the order

  behind_placed : (key : String Z) (entries : List (String Z × Option (List ℕ))) → AllByRecursion (λ other. string_cmp key other ≡ Less) (keys_of entries) → AllByRecursion (λ other. slice_cmp nat_cmp (string_bytes key) other ≡ Less) (keys_of (placed entries))
  behind_placed key [] behind = tt
  behind_placed key (e ∷ entries) behind = (behind.0, behind_placed key entries behind.1)

  pub placed_ordered : (entries : List (String Z × Option (List ℕ))) → IsStrictlySortedBy string_cmp (keys_of entries) → IsStrictlySortedBy (slice_cmp nat_cmp) (keys_of (placed entries))
  unfolding IsStrictlySortedBy
  placed_ordered [] sorted = tt
  placed_ordered (e ∷ entries) sorted = (behind_placed e.0 entries sorted.0, placed_ordered entries sorted.1)

  pub placed_sorted : (entries : List (String Z × Option (List ℕ))) (places : Places) → placed entries ≡ places → IsStrictlySortedBy string_cmp (keys_of entries) → IsStrictlySortedBy (slice_cmp nat_cmp) (keys_of places)
  placed_sorted entries places is sorted = subst (λ (p : Places). IsStrictlySortedBy (slice_cmp nat_cmp) (keys_of p)) is (placed_ordered entries sorted)

-- ---- whether there is a place

pub some_found : (uri : List ℕ) (places : Places) → is_some (lookup (bytes_eq uri) places) ≡ list_any (bytes_eq uri) (keys_of places)
some_found uri [] = refl
some_found uri ((key, o) ∷ places) = by (bytes_eq uri key) (some_found uri places)
  where
    by : (b : Bool) → is_some (lookup (bytes_eq uri) places) ≡ list_any (bytes_eq uri) (keys_of places) → is_some (cond b (Some o) (lookup (bytes_eq uri) places)) ≡ (b || list_any (bytes_eq uri) (keys_of places))
    by true more = refl
    by false more = more

pub not_nowhere : (uri : List ℕ) (places : Places) → HasPlace places uri → lookup (bytes_eq uri) places ≡ None → ⊥
not_nowhere uri places has none = let no : false ≡ true = ap is_some (sym none) ∙ some_found uri places ∙ has in cc

-- ---- a new place

pub new_place : (uri : List ℕ) (places : Places) (object : Option (List ℕ)) → HasPlace (insert_entry (slice_cmp nat_cmp) places uri object) uri
new_place uri [] object = rw (equal_octets uri) refl
new_place uri ((key, o) ∷ places) object = by (slice_cmp nat_cmp uri key) refl (new_place uri places object)
  where
    behind : (b c : Bool) → c ≡ true → (b || c) ≡ true
    behind true c e = refl
    behind false c e = e

    by : (r : Ordering) → slice_cmp nat_cmp uri key ≡ r → HasPlace (insert_entry (slice_cmp nat_cmp) places uri object) uri
        → list_any (bytes_eq uri) (keys_of (match_ordering r ((uri, object) ∷ (key, o) ∷ places) ((key, object) ∷ places) ((key, o) ∷ insert_entry (slice_cmp nat_cmp) places uri object))) ≡ true
    by Less e more = rw (equal_octets uri) refl
    by Equal e more = rw (equal_text uri key e) refl
    by Greater e more = behind (bytes_eq uri key) _ more

pub place_still : (uri other : List ℕ) (places : Places) (object : Option (List ℕ)) → HasPlace places other → HasPlace (insert_entry (slice_cmp nat_cmp) places uri object) other
place_still uri other [] object has = cc
place_still uri other ((key, o) ∷ places) object has = by (slice_cmp nat_cmp uri key) (place_still uri other places object)
  where
    or_more : (b c d : Bool) → (c ≡ true → d ≡ true) → (b || c) ≡ true → (b || d) ≡ true
    or_more true c d f e = refl
    or_more false c d f e = f e

    behind : (b c : Bool) → c ≡ true → (b || c) ≡ true
    behind true c e = refl
    behind false c e = e

    by : (r : Ordering) → (HasPlace places other → HasPlace (insert_entry (slice_cmp nat_cmp) places uri object) other) → list_any (bytes_eq other) (keys_of (match_ordering r ((uri, object) ∷ (key, o) ∷ places) ((key, object) ∷ places) ((key, o) ∷ insert_entry (slice_cmp nat_cmp) places uri object))) ≡ true
    by Less more = behind (bytes_eq other uri) _ has
    by Equal more = has
    by Greater more = or_more (bytes_eq other key) _ _ more has
