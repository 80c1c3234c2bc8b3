-- What is known, where more is told.
use Rattle.std.proofs.Common.{◌≡◌, ◌∙◌, ◌+◌, ◌<◌, Bool, true, false, Option, None, Some, IsNone, IsSome, IsTrue, List, [], ◌∷◌, ◌++◌, ℕ, ap, cond, get_or, is_some, length, refl, subst, sym, take}
use Rattle.std.specs.Map.{lookup}
use Rattle.std.specs.Option.{option_or}
use Rattle.std.specs.Str.{bytes_eq}
use Rattle.std.proofs.lemmas.Slice.Eq.{bytes_eq-Decides}
use Rattle.rpki_common.proofs.Truths.{equal_octets}
use Rattle.rpki_ca.proofs.Stepping.{take_more}
use Rattle.rpki_publication.specs.ListElement.{ListElementFields}
use Rattle.rpki_publication.specs.declared.publish_delta_element.PublishDeltaElement.{PublishDeltaElement}
use Rattle.rpki_pubserver.specs.Changes.{uri_of}
use Rattle.rpki_pubserver.specs.Deciding.{AgreesAt, AgreesOn, AreKnown, IsKnown, Knowledge, known_objects}
use Rattle.rpki_pubserver.specs.Store.{Store, digest_at}
use Rattle.rpki_pubserver.specs.Places.{IsSameAt, Places, with_object}
use Rattle.rpki_pubserver.proofs.Entries.{at_more}

pub some_iff : {X : Type 0} (b : Bool) (o : Option X) → b ≡ is_some o → (IsTrue b → IsSome o) × (IsSome o → IsTrue b)
some_iff b o e = ((λ t. sym e ∙ t), (λ s. e ∙ s))

pub not_none : {X : Type 0} (o : Option X) → true ≡ is_some o → IsNone o → ⊥
not_none None e none = cc
not_none (Some x) e none = cc

pub not_some : {X : Type 0} (o : Option X) (x : X) → false ≡ is_some o → o ≡ Some x → ⊥
not_some None x e some = cc
not_some (Some y) x e some = cc

-- nothing is set where there is no place
pub none_set : (uri : List ℕ) (places : Places) (object : Option (List ℕ)) → lookup (bytes_eq uri) places ≡ None → with_object places uri object ≡ places
none_set uri [] object none = refl
none_set uri ((key, there) ∷ places) object none = by (bytes_eq uri key) none (none_set uri places object)
  where
    by : (b : Bool) → cond b (Some there) (lookup (bytes_eq uri) places) ≡ None → (lookup (bytes_eq uri) places ≡ None → with_object places uri object ≡ places)
        → cond b ((key, object) ∷ places) ((key, there) ∷ with_object places uri object) ≡ (key, there) ∷ places
    by true some more = cc
    by false none more = ap (λ (p : Places). (key, there) ∷ p) (more none)

-- ---- what is told of one more URI

or_none : {X : Type 0} (o : Option X) → option_or o None ≡ o
or_none None = refl
or_none (Some x) = refl

module _ (old new : Places) (uri : List ℕ) (hash : Option (List ℕ)) (here : IsNone (lookup (bytes_eq uri) old) → lookup (bytes_eq uri) new ≡ Some hash)
    (first : (there : Option (List ℕ)) → lookup (bytes_eq uri) old ≡ Some there → lookup (bytes_eq uri) new ≡ Some there) (elsewhere : (other : List ℕ) → bytes_eq other uri ≡ false → IsSameAt other old new) where
  -- what was known of a URI, and else what is told
  pub told_at : (u : List ℕ) → lookup (bytes_eq u) new ≡ option_or (lookup (bytes_eq u) old) (cond (bytes_eq u uri) (Some hash) None)
  told_at u = by (bytes_eq u uri) refl
    where
      at_uri : (o : Option (Option (List ℕ))) → lookup (bytes_eq uri) old ≡ o → lookup (bytes_eq uri) new ≡ option_or o (Some hash)
      at_uri None e = here (subst (λ (o : Option (Option (List ℕ))). IsNone o) (sym e) refl)
      at_uri (Some there) e = first there e

      by : (b : Bool) → bytes_eq u uri ≡ b → lookup (bytes_eq u) new ≡ option_or (lookup (bytes_eq u) old) (cond b (Some hash) None)
      by true same =
          subst (λ (v : List ℕ). lookup (bytes_eq v) new ≡ option_or (lookup (bytes_eq v) old) (Some hash)) (sym ((bytes_eq-Decides u uri).0 same)) (at_uri (lookup (bytes_eq uri) old) refl)
      by false apart = elsewhere u apart ∙ sym (or_none (lookup (bytes_eq u) old))

-- behind the first that are known
pub told_more : (old new known : Places) (i : ℕ) (one : List ℕ × Option (List ℕ)) → i < length known → one ≡ get_or known i one
    → ((u : List ℕ) → lookup (bytes_eq u) new ≡ option_or (lookup (bytes_eq u) old) (cond (bytes_eq u one.0) (Some one.1) None))
    → ((u : List ℕ) → lookup (bytes_eq u) old ≡ lookup (bytes_eq u) (take i known)) → (u : List ℕ) → lookup (bytes_eq u) new ≡ lookup (bytes_eq u) (take (i + 1) known)
told_more old new known i one lt at told so_far u =
    told u
    ∙ ap (λ (o : Option (Option (List ℕ))). option_or o (cond (bytes_eq u one.0) (Some one.1) None)) (so_far u)
    ∙ sym (at_more u (take i known) one.0 one.1)
    ∙ ap (λ (l : Places). lookup (bytes_eq u) l) (sym (take_more known i one lt at))

-- what is known still is
pub known_still : (old new : Places) (uri : List ℕ) (hash : Option (List ℕ)) (u : List ℕ) → lookup (bytes_eq u) new ≡ option_or (lookup (bytes_eq u) old) (cond (bytes_eq u uri) (Some hash) None) → IsKnown old u → IsKnown new u
known_still old new uri hash u told is = subst (λ (o : Option (Option (List ℕ))). IsSome o) (sym told) (still (lookup (bytes_eq u) old) is)
  where
    still : (o : Option (Option (List ℕ))) → IsSome o → IsSome (option_or o (cond (bytes_eq u uri) (Some hash) None))
    still None none = cc
    still (Some x) some = refl

-- and so is that of which it is told
pub known_here : (old new : Places) (uri : List ℕ) (hash : Option (List ℕ)) → lookup (bytes_eq uri) new ≡ option_or (lookup (bytes_eq uri) old) (cond (bytes_eq uri uri) (Some hash) None) → IsKnown new uri
known_here old new uri hash told = subst (λ (o : Option (Option (List ℕ))). IsSome o) (sym (told ∙ ap (λ (b : Bool). option_or (lookup (bytes_eq uri) old) (cond b (Some hash) None)) (equal_octets uri))) (by (lookup (bytes_eq uri) old))
  where
    by : (o : Option (Option (List ℕ))) → IsSome (option_or o (Some hash))
    by None = refl
    by (Some x) = refl

-- ---- what is told of changes

module _ (old new : Places) (uri : List ℕ) (hash : Option (List ℕ)) (told : (u : List ℕ) → lookup (bytes_eq u) new ≡ option_or (lookup (bytes_eq u) old) (cond (bytes_eq u uri) (Some hash) None)) where
  -- something is known of one more
  pub all_known_more : (changes : List PublishDeltaElement) (i : ℕ) (e : PublishDeltaElement) → i < length changes → e ≡ get_or changes i e → uri ≡ uri_of e → AreKnown old (take i changes) → AreKnown new (take (i + 1) changes)
  all_known_more changes i e lt at is all = subst (λ (l : List PublishDeltaElement). AreKnown new l) (sym (take_more changes i e lt at)) (go (take i changes) all)
    where
      go : (l : List PublishDeltaElement) → AreKnown old l → AreKnown new (l ++ e ∷ [])
      go [] h = (subst (λ (u : List ℕ). IsKnown new u) is (known_here old new uri hash (told uri)), tt)
      go (x ∷ l) h = (known_still old new uri hash (uri_of x) (told (uri_of x)) h.0, go l h.1)

  -- what is told is so, if it was
  pub so_more : (store : Store) → hash ≡ digest_at store uri → ((u : List ℕ) (there : Option (List ℕ)) → lookup (bytes_eq u) old ≡ Some there → there ≡ digest_at store u)
      → (u : List ℕ) (there : Option (List ℕ)) → lookup (bytes_eq u) new ≡ Some there → there ≡ digest_at store u
  so_more store is was u there some = by (lookup (bytes_eq u) old) refl (sym (told u) ∙ some)
    where
      here : (b : Bool) → bytes_eq u uri ≡ b → cond b (Some hash) None ≡ Some there → there ≡ digest_at store u
      here true same e = let one : hash ≡ there = cc in sym one ∙ is ∙ ap (λ (v : List ℕ). digest_at store v) (sym ((bytes_eq-Decides u uri).0 same))
      here false apart e = cc

      by : (o : Option (Option (List ℕ))) → lookup (bytes_eq u) old ≡ o → option_or o (cond (bytes_eq u uri) (Some hash) None) ≡ Some there → there ≡ digest_at store u
      by None none e = here (bytes_eq u uri) refl e
      by (Some x) found e = let one : x ≡ there = cc in was u there (found ∙ ap (λ (y : Option (List ℕ)). Some y) one)

-- then it is so of each change
pub all_agree : (store : Store) (told : Places) (changes : List PublishDeltaElement) → AreKnown told changes → ((u : List ℕ) (there : Option (List ℕ)) → lookup (bytes_eq u) told ≡ Some there → there ≡ digest_at store u) → AgreesOn store told changes
all_agree store told [] known so = tt
all_agree store told (e ∷ changes) known so = (by (lookup (bytes_eq (uri_of e)) told) refl known.0, all_agree store told changes known.1 so)
  where
    by : (o : Option (Option (List ℕ))) → lookup (bytes_eq (uri_of e)) told ≡ o → IsSome o → AgreesAt store told (uri_of e)
    by None none some = cc
    by (Some there) found some = found ∙ ap (λ (o : Option (List ℕ)). Some o) (so (uri_of e) there found)

-- ---- what is known as a list, and what is told of it

module _ (told known : Places) (same : (u : List ℕ) → lookup (bytes_eq u) told ≡ lookup (bytes_eq u) known) where
  pub agrees_told : (store : Store) (changes : List PublishDeltaElement) → AgreesOn store known changes → AgreesOn store told changes
  agrees_told store [] all = tt
  agrees_told store (e ∷ changes) all = (same (uri_of e) ∙ all.0, agrees_told store changes all.1)

  pub known_told : (changes : List PublishDeltaElement) → AreKnown told changes → AreKnown known changes
  known_told [] all = tt
  known_told (e ∷ changes) all = (subst (λ (o : Option (Option (List ℕ))). IsSome o) (same (uri_of e)) all.0, known_told changes all.1)

  pub told_known : (changes : List PublishDeltaElement) → AreKnown known changes → AreKnown told changes
  told_known [] all = tt
  told_known (e ∷ changes) all = (subst (λ (o : Option (Option (List ℕ))). IsSome o) (sym (same (uri_of e))) all.0, told_known changes all.1)

-- ---- the objects that are there

pub objects_more : (known : Knowledge) (i : ℕ) (one : List ℕ × Option (List ℕ)) (items : List ListElementFields) → i < length known → one ≡ get_or known i one → items ≡ known_objects (take i known)
    → items ++ known_objects (one ∷ []) ≡ known_objects (take (i + 1) known)
objects_more known i one items lt at is =
    ap (λ (l : List ListElementFields). l ++ known_objects (one ∷ [])) is
    ∙ both (take i known)
    ∙ ap known_objects (sym (take_more known i one lt at))
  where
    both : (l : Knowledge) → known_objects l ++ known_objects (one ∷ []) ≡ known_objects (l ++ one ∷ [])
    both [] = refl
    both ((uri, None) ∷ l) = both l
    both ((uri, Some digest) ∷ l) = ap (λ (m : List ListElementFields). record { uri = uri; hash = digest } ∷ m) (both l)

pub none_known : (one : List ℕ × Option (List ℕ)) → one.1 ≡ None → known_objects (one ∷ []) ≡ []
none_known (uri, None) none = refl
none_known (uri, Some digest) none = cc

pub some_known : (one : List ℕ × Option (List ℕ)) (digest : List ℕ) → one.1 ≡ Some digest → known_objects (one ∷ []) ≡ record { uri = one.0; hash = digest } ∷ []
some_known (uri, None) digest some = cc
some_known (uri, Some d) digest some = let same : d ≡ digest = cc in ap (λ (x : List ℕ). record { uri = uri; hash = x } ∷ []) same
