-- Places of which none is empty, at the URIs of changes and elsewhere.
use Rattle.std.proofs.Common.{◌≡◌, ◌+◌, ◌<◌, ◌||◌, ℕ, suc, Bool, true, false, cond, None, Some, List, [], ◌∷◌, length, get_or, take, refl, sym, ap, subst, ◌∙◌}
use Rattle.std.specs.Map.{keys_of, lookup}
use Rattle.std.specs.Str.{bytes_eq}
use Rattle.std.proofs.lemmas.List.Folds.{list_any_at, list_any_more}
use Rattle.std.proofs.lemmas.Map.Keys.{sorted_head, sorted_tail}
use Rattle.std.proofs.lemmas.Slice.Eq.{bytes_eq-Decides}
use Rattle.rpki_common.proofs.Truths.{equal_octets}
use Rattle.rpki_publication.specs.declared.publish_delta_element.PublishDeltaElement.{PublishDeltaElement}
use Rattle.rpki_pubserver.specs.Changes.{uri_of}
use Rattle.rpki_pubserver.specs.Places.{IsEmptyAt, IsSameAt, IsSameElsewhere, NoneIsEmpty, Places, has_change, live}
use Rattle.rpki_pubserver.proofs.Entries.{AreBehind, AreSorted, none_at}

-- ---- what is no empty place

pub not_empty_none : (uri : List ℕ) (places : Places) → lookup (bytes_eq uri) places ≡ None → IsEmptyAt places uri → ⊥
not_empty_none uri places none empty = let no : None ≡ Some None = sym none ∙ empty in cc

pub not_empty_some : (uri : List ℕ) (places : Places) (octets : List ℕ) → lookup (bytes_eq uri) places ≡ Some (Some octets) → IsEmptyAt places uri → ⊥
not_empty_some uri places octets some empty = let no : Some (Some octets) ≡ Some None = sym some ∙ empty in cc

-- ---- as many places as objects

pub none_empty_count : (places : Places) → AreSorted places → NoneIsEmpty places → length places ≡ length (live places)
none_empty_count [] sorted none = refl
none_empty_count ((key, None) ∷ places) sorted none = absurd (none key (rw (equal_octets key) refl))
none_empty_count ((key, Some octets) ∷ places) sorted none = ap (λ (n : ℕ). suc n) (none_empty_count places (sorted_tail _ key (keys_of places) sorted) (λ uri empty. none uri (by uri (bytes_eq uri key) refl empty)))
  where
    by : (uri : List ℕ) (b : Bool) → bytes_eq uri key ≡ b → IsEmptyAt places uri → cond b (Some (Some octets)) (lookup (bytes_eq uri) places) ≡ Some None
    by uri true same empty = absurd (not_empty_none uri places (none_at uri places (subst (λ (k : List ℕ). AreBehind k places) (sym ((bytes_eq-Decides uri key).0 same)) (sorted_head _ key (keys_of places) sorted))) empty)
    by uri false apart empty = empty

-- ---- by changes

-- a URI at which no change is isn't that of the change at a place
apart_change : (changes : List PublishDeltaElement) (i : ℕ) (e : PublishDeltaElement) (uri : List ℕ) → i < length changes → e ≡ get_or changes i e → has_change changes uri ≡ false → bytes_eq uri (uri_of e) ≡ false
apart_change changes i e uri lt at none = by (bytes_eq uri (uri_of e)) refl
  where
    by : (b : Bool) → bytes_eq uri (uri_of e) ≡ b → b ≡ false
    by true same = let some = list_any_at (λ (x : PublishDeltaElement). bytes_eq uri (uri_of x)) changes i e lt (ap (λ (x : PublishDeltaElement). bytes_eq uri (uri_of x)) (sym at) ∙ same) in sym some ∙ none
    by false apart = refl

module _ (changes : List PublishDeltaElement) (i : ℕ) (e : PublishDeltaElement) (at_uri : List ℕ) (old new : Places) (lt : i < length changes) (at : e ≡ get_or changes i e) (is : at_uri ≡ uri_of e) (others : (other : List ℕ) → bytes_eq other at_uri ≡ false → IsSameAt other old new) where
  -- what is done at the URI of a change leaves what is elsewhere
  pub same_still : (first : Places) → IsSameElsewhere changes first old → IsSameElsewhere changes first new
  same_still first so_far uri none = others uri (ap (λ (u : List ℕ). bytes_eq uri u) is ∙ apart_change changes i e uri lt at none) ∙ so_far uri none

  -- one more is dropped
  pub one_dropped : ((uri : List ℕ) → has_change (take i changes) uri ≡ true → IsEmptyAt old uri → ⊥) → (IsEmptyAt new at_uri → ⊥)
      → (uri : List ℕ) → has_change (take (i + 1) changes) uri ≡ true → IsEmptyAt new uri → ⊥
  one_dropped so_far here uri has empty = by (bytes_eq uri at_uri) refl
    where
      first : (a b : Bool) → (a || b) ≡ true → b ≡ false → a ≡ true
      first true b some none = refl
      first false b some none = sym none ∙ some

      by : (b : Bool) → bytes_eq uri at_uri ≡ b → ⊥
      by true same = here (subst (λ (u : List ℕ). IsEmptyAt new u) ((bytes_eq-Decides uri at_uri).0 same) empty)
      by false apart =
          let some = sym (list_any_more (λ (x : PublishDeltaElement). bytes_eq uri (uri_of x)) changes i e lt) ∙ has in
          let none = ap (λ (x : PublishDeltaElement). bytes_eq uri (uri_of x)) (sym at) ∙ ap (λ (u : List ℕ). bytes_eq uri u) (sym is) ∙ apart in
          so_far uri (first (has_change (take i changes) uri) _ some none) (sym (others uri apart) ∙ empty)

-- behind changes whose empty places are dropped none is empty, if none was
pub none_empty_behind : (changes : List PublishDeltaElement) (before between after : Places) → NoneIsEmpty before → IsSameElsewhere changes before between → IsSameElsewhere changes between after
    → ((uri : List ℕ) → has_change changes uri ≡ true → IsEmptyAt after uri → ⊥) → NoneIsEmpty after
none_empty_behind changes before between after none made kept dropped uri empty = by (has_change changes uri) refl
  where
    by : (b : Bool) → has_change changes uri ≡ b → ⊥
    by true has = dropped uri has empty
    by false apart = none uri (sym (kept uri apart ∙ made uri apart) ∙ empty)
