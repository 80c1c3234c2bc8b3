-- Places that stay, while what is in them changes.
use Rattle.std.proofs.Common.{◌≡◌, ◌<◌, ℕ, zero, suc, Option, List, [], ◌∷◌, ◌++◌, length, get_or, set, refl, ap, ◌∙◌, arith}
use Rattle.std.specs.List.{list_any}
use Rattle.std.specs.Map.{keys_of}
use Rattle.std.specs.Str.{bytes_eq}
use Rattle.std.proofs.lemmas.Map.{keys-set_value}
use Rattle.rpki_publication.specs.declared.publish_delta_element.PublishDeltaElement.{PublishDeltaElement}
use Rattle.rpki_pubserver.specs.Changes.{uri_of}
use Rattle.rpki_pubserver.specs.Places.{HasPlace, HavePlaces, Places, with_object}

-- ---- elements of lists

pub get_any : {X : Type 0} (xs : List X) (i : ℕ) (d e : X) → i < length xs → get_or xs i d ≡ get_or xs i e
get_any [] i d e lt = absurd (omega (arith, lt))
get_any (x ∷ xs) zero d e lt = refl
get_any (x ∷ xs) (suc i) d e lt = get_any xs i d e (omega (arith, lt))

pub get_behind : {X : Type 0} (xs : List X) (i k : ℕ) (x d : X) → i < k → get_or (set xs i x) k d ≡ get_or xs k d
get_behind [] i k x d lt = refl
get_behind (y ∷ xs) zero zero x d lt = absurd (omega (arith, lt))
get_behind (y ∷ xs) zero (suc k) x d lt = refl
get_behind (y ∷ xs) (suc i) zero x d lt = absurd (omega (arith, lt))
get_behind (y ∷ xs) (suc i) (suc k) x d lt = get_behind xs i k x d (omega (arith, lt))

-- ---- places stay

pub same_keys : (uri : List ℕ) (places : Places) (object : Option (List ℕ)) → keys_of (with_object places uri object) ≡ keys_of places
same_keys uri places object = keys-set_value (bytes_eq uri) places object

pub has_still : (old new : Places) (uri : List ℕ) → keys_of new ≡ keys_of old → HasPlace old uri → HasPlace new uri
has_still old new uri same has = ap (λ (ks : List (List ℕ)). list_any (bytes_eq uri) ks) same ∙ has

pub have_still : (old new : Places) (changes : List PublishDeltaElement) → keys_of new ≡ keys_of old → HavePlaces old changes → HavePlaces new changes
have_still old new [] same have = tt
have_still old new (e ∷ changes) same have = (has_still old new (uri_of e) same have.0, have_still old new changes same have.1)

pub have_more : (old new : Places) (changes : List PublishDeltaElement) → ((other : List ℕ) → HasPlace old other → HasPlace new other) → HavePlaces old changes → HavePlaces new changes
have_more old new [] still have = tt
have_more old new (e ∷ changes) still have = (still (uri_of e) have.0, have_more old new changes still have.1)

pub one_place_more : (places : Places) (changes : List PublishDeltaElement) (e : PublishDeltaElement) → HavePlaces places changes → HasPlace places (uri_of e) → HavePlaces places (changes ++ e ∷ [])
one_place_more places [] e have has = (has, tt)
one_place_more places (c ∷ changes) e have has = (have.0, one_place_more places changes e have.1 has)
