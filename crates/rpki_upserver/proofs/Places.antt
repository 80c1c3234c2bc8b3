-- Where a certificate stands among others, and a class among classes.
use Rattle.std.proofs.Common.{◌≡◌, ◌↔◌, ◌||◌, ◌<◌, ◌≤◌, inl, inr, ℕ, Bool, true, false, if◌then◌else◌, Option, None, Some, IsSome, List, [], ◌∷◌, ◌++◌, length, get_or, take, drop, suc, zero, refl, sym, ap, ◌∙◌, arith}
use Rattle.std.specs.Prelude.{find, nat_lt, position, slice_get}
use Rattle.std.specs.List.{AllByRecursion, list_any, position_or_len}
use Rattle.std.proofs.lemmas.List.Quantifiers.{position-Some}
use Rattle.std.proofs.lemmas.List.Folds.{find_at, list_any_at}
use Rattle.std.proofs.lemmas.List.{length-append, length-take-le}
use Rattle.std.proofs.Math.Seq.{get_or-append_seam}
use Rattle.std.proofs.lemmas.Option.{slice_get-get_or, slice_get_past}
use Rattle.rpki_updown.specs.Entitlements.{IssuedFields}
use Rattle.rpki_upserver.specs.Kept.{HasKeptRoom, KeptItems}
use Rattle.rpki_upserver.specs.Table.{ClassState, Table, class_named, has_key, is_named, key_of_issued, put, without}

pub no_place : (i : ℕ) → i < 0 → ⊥
no_place i h = omega (arith, h)

-- the first that passes a test stands here
abbrev pub IsFirst : {X : Type 0} → (X → Bool) → List X → ℕ → X → Type 0
IsFirst test xs i d = (i < length xs) × (test (get_or xs i d) ≡ true) × ((k : ℕ) → k < i → test (get_or xs k d) ≡ false)

-- behind the first item
pub behind_first : {X : Type 0} (test : X → Bool) (x : X) (xs : List X) (i : ℕ) (d : X) → IsFirst test (x ∷ xs) (suc i) d → IsFirst test xs i d
behind_first test x xs i d h = (omega (arith, h.0), h.1, λ k below. h.2 (suc k) (omega (arith, below)))

pub first_fails : {X : Type 0} (test : X → Bool) (x : X) (xs : List X) (i : ℕ) (d : X) → IsFirst test (x ∷ xs) (suc i) d → test x ≡ false
first_fails test x xs i d h = h.2 0 (omega arith)

-- ---- whether there is a place

pub placed : {X : Type 0} (test : X → Bool) (xs : List X) (i : ℕ) → position test xs ≡ Some i → list_any test xs ≡ true
placed test [] i e = cc
placed test (x ∷ xs) i e = let h = position-Some test (x ∷ xs) i x e in list_any_at test (x ∷ xs) i x h.0 h.1

none_unfound : {X : Type 0} (test : X → Bool) (xs : List X) → find test xs ≡ None → list_any test xs ≡ false
none_unfound test [] e = refl
none_unfound test (x ∷ xs) e = one (test x) e (none_unfound test xs)
  where
    one : (t : Bool) → (if t then Some x else find test xs) ≡ None → (find test xs ≡ None → list_any test xs ≡ false) → (t || list_any test xs) ≡ false
    one true h rest = cc
    one false h rest = rest h

pub unplaced_unfound : {X : Type 0} (test : X → Bool) (xs : List X) → position test xs ≡ None → find test xs ≡ None
unplaced_unfound test xs e =
    elim (nat_lt (position_or_len test xs) (length xs)) as (λ t. nat_lt (position_or_len test xs) (length xs) ≡ t → (if t then Some (position_or_len test xs) else None) ≡ None → find test xs ≡ None) [
      | true ↦ λ lt h. let c : Some (position_or_len test xs) ≡ None = h in cc
      | false ↦ λ lt h. find_at test xs ∙ slice_get_past xs (position_or_len test xs) (grind (arith, lt))
    ] refl e

pub unplaced : {X : Type 0} (test : X → Bool) (xs : List X) → position test xs ≡ None → list_any test xs ≡ false
unplaced test xs e = none_unfound test xs (unplaced_unfound test xs e)

pub some_placed : {X : Type 0} (test : X → Bool) (xs : List X) (o : Option ℕ) → o ≡ position test xs → IsSome o ↔ (list_any test xs ≡ true)
some_placed test xs None e = (λ h. let c : false ≡ true = h in cc, λ h. let n = unplaced test xs (sym e) in let c : true ≡ false = sym h ∙ n in cc)
some_placed test xs (Some i) e = (λ h. placed test xs i (sym e), λ h. refl)

-- ---- certificates

pub put_there : (xs : List IssuedFields) (issued : IssuedFields) (i : ℕ) (d : IssuedFields) → IsFirst (has_key (key_of_issued issued)) xs i d
    → put xs issued ≡ take i xs ++ issued ∷ drop (suc i) xs
put_there [] issued i d h = absurd (no_place i h.0)
put_there (x ∷ xs) issued zero d h = rw h.1 refl
put_there (x ∷ xs) issued (suc i) d h =
    let other = first_fails (has_key (key_of_issued issued)) x xs i d h in
    rw other (ap (λ (l : List IssuedFields). x ∷ l) (put_there xs issued i d (behind_first (has_key (key_of_issued issued)) x xs i d h)))

pub put_last : (xs : List IssuedFields) (issued : IssuedFields) → list_any (has_key (key_of_issued issued)) xs ≡ false → put xs issued ≡ xs ++ issued ∷ []
put_last [] issued h = refl
put_last (x ∷ xs) issued h = one (has_key (key_of_issued issued) x) h (put_last xs issued)
  where
    one : (t : Bool) → (t || list_any (has_key (key_of_issued issued)) xs) ≡ false → (list_any (has_key (key_of_issued issued)) xs ≡ false → put xs issued ≡ xs ++ issued ∷ [])
        → (if t then issued ∷ xs else x ∷ put xs issued) ≡ x ∷ (xs ++ issued ∷ [])
    one true h rest = cc
    one false h rest = ap (λ (l : List IssuedFields). x ∷ l) (rest h)

-- ---- one that is put

at_key : (held : List IssuedFields) (issued new : IssuedFields) (key : List ℕ) (o wanted : Option ℕ) → new ≡ issued → key ≡ key_of_issued new → o ≡ position (has_key key) held → o ≡ wanted → position (has_key (key_of_issued issued)) held ≡ wanted
at_key held issued new key o wanted same is at e = ap (λ (k : List ℕ). position (has_key k) held) (ap key_of_issued (sym same) ∙ sym is) ∙ sym at ∙ e

pub put_found : (held after : List IssuedFields) (issued new : IssuedFields) (key : List ℕ) (o : Option ℕ) (place : ℕ) → new ≡ issued → key ≡ key_of_issued new → o ≡ position (has_key key) held → o ≡ Some place
    → after ≡ take place held ++ new ∷ drop (suc place) held → after ≡ put held issued
put_found held after issued new key o place same is at e put_at =
    put_at ∙ ap (λ (x : IssuedFields). take place held ++ x ∷ drop (suc place) held) same ∙ sym (put_there held issued place issued (position-Some (has_key (key_of_issued issued)) held place issued (at_key held issued new key o (Some place) same is at e)))

pub put_unfound : (held after : List IssuedFields) (issued new : IssuedFields) (key : List ℕ) (o : Option ℕ) → new ≡ issued → key ≡ key_of_issued new → o ≡ position (has_key key) held → o ≡ None
    → after ≡ held ++ new ∷ [] → after ≡ put held issued
put_unfound held after issued new key o same is at e put_at =
    put_at ∙ ap (λ (x : IssuedFields). held ++ x ∷ []) same ∙ sym (put_last held issued (unplaced (has_key (key_of_issued issued)) held (at_key held issued new key o None same is at e)))

pub room_left : (held : KeptItems IssuedFields) (issued new : IssuedFields) (key : List ℕ) (o : Option ℕ) → new ≡ issued → key ≡ key_of_issued new → o ≡ position (has_key key) held.items → o ≡ None → HasKeptRoom held (key_of_issued issued) → 1 ≤ held.room
room_left held issued new key o same is at e (inr room) = room
room_left held issued new key o same is at e (inl there) =
    let none = unplaced (has_key (key_of_issued issued)) held.items (at_key held.items issued new key o None same is at e) in
    let c : true ≡ false = sym there ∙ none in cc

got_there : {X : Type 0} (xs ys : List X) (x : X) → slice_get (xs ++ x ∷ ys) (length xs) ≡ Some x
got_there {X = X} xs ys x =
    let long = length-append xs (x ∷ ys) in
    slice_get-get_or (xs ++ x ∷ ys) (length xs) x (omega (arith, long)) ∙ ap (λ (y : X). Some y) (get_or-append_seam xs x ys x)

pub got_found : (held after : List IssuedFields) (issued new : IssuedFields) (place : ℕ) → new ≡ issued → place < length held → after ≡ take place held ++ new ∷ drop (suc place) held → slice_get after place ≡ Some issued
got_found held after issued new place same lt put_at =
    ap (λ (l : List IssuedFields). slice_get l place) put_at
    ∙ ap (λ (n : ℕ). slice_get (take place held ++ new ∷ drop (suc place) held) n) (sym (length-take-le place held (omega (arith, lt))))
    ∙ got_there (take place held) (drop (suc place) held) new ∙ ap (λ (x : IssuedFields). Some x) same

pub got_last : (held after : List IssuedFields) (issued new : IssuedFields) (place : ℕ) → new ≡ issued → place ≡ length held → after ≡ held ++ new ∷ [] → slice_get after place ≡ Some issued
got_last held after issued new place same at put_at =
    ap (λ (l : List IssuedFields). slice_get l place) put_at ∙ ap (λ (n : ℕ). slice_get (held ++ new ∷ []) n) at ∙ got_there held [] new ∙ ap (λ (x : IssuedFields). Some x) same

-- ---- one that is taken out

pub without_there : (xs : List IssuedFields) (key : List ℕ) (i : ℕ) (d : IssuedFields) → IsFirst (has_key key) xs i d
    → without xs key ≡ take i xs ++ drop (suc i) xs
without_there [] key i d h = absurd (no_place i h.0)
without_there (x ∷ xs) key zero d h = rw h.1 refl
without_there (x ∷ xs) key (suc i) d h =
    let other = first_fails (has_key key) x xs i d h in
    rw other (ap (λ (l : List IssuedFields). x ∷ l) (without_there xs key i d (behind_first (has_key key) x xs i d h)))

pub without_placed : (xs : List IssuedFields) (key : List ℕ) (i : ℕ) → position (has_key key) xs ≡ Some i → without xs key ≡ take i xs ++ drop (suc i) xs
without_placed [] key i e = cc
without_placed (x ∷ xs) key i e = without_there (x ∷ xs) key i x (position-Some (has_key key) (x ∷ xs) i x e)

-- ---- what holds of each still does

pub all_put : (P : IssuedFields → Type 0) (xs : List IssuedFields) (issued : IssuedFields) → AllByRecursion P xs → P issued → AllByRecursion P (put xs issued)
all_put P [] issued all here = (here, tt)
all_put P (x ∷ xs) issued all here = one (has_key (key_of_issued issued) x) (all_put P xs issued all.1 here)
  where
    one : (t : Bool) → AllByRecursion P (put xs issued) → AllByRecursion P (if t then issued ∷ xs else x ∷ put xs issued)
    one true rest = (here, all.1)
    one false rest = (all.0, rest)

pub all_without : (P : IssuedFields → Type 0) (xs : List IssuedFields) (key : List ℕ) → AllByRecursion P xs → AllByRecursion P (without xs key)
all_without P [] key all = all
all_without P (x ∷ xs) key all = one (has_key key x) (all_without P xs key all.1)
  where
    one : (t : Bool) → AllByRecursion P (without xs key) → AllByRecursion P (if t then xs else x ∷ without xs key)
    one true rest = all.1
    one false rest = (all.0, rest)

-- ---- classes

pub named_there : (table : Table) (name : List ℕ) (i : ℕ) (d : ClassState) → IsFirst (is_named name) table i d
    → class_named name table ≡ Some (get_or table i d)
named_there [] name i d h = absurd (no_place i h.0)
named_there (c ∷ more) name zero d h = rw h.1 refl
named_there (c ∷ more) name (suc i) d h =
    let other = first_fails (is_named name) c more i d h in
    rw other (named_there more name i d (behind_first (is_named name) c more i d h))
