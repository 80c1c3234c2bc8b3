-- Items that pass by one at a time are what the words over the whole list say.
use Rattle.std.proofs.Common.{◌≡◌, Bool, true, false, Option, None, Some, List, [], ◌∷◌, refl, sym, ap, ◌∙◌}
use Rattle.std.specs.Prelude.{filter, cond, if◌then◌else◌}
use Rattle.rpki_common.specs.Chaining.{◌>>=◌}
use Rattle.rpki_common.specs.Items.{the_one, at_most_one, the_last, only}
use Rattle.rpki_common.specs.Collecting.{collect, once, slot, last_slot, allowed, both}

-- ---- `>>=`

pub bind_both : {X Y : Type 0} (a b : Option X) (f g : X → Option Y) → a ≡ b → ((x : X) → f x ≡ g x) → (a >>= f) ≡ (b >>= g)
unfolding ◌>>=◌
bind_both None b f g e h = rw (← e) refl
bind_both (Some x) b f g e h = rw (← e) (h x)

pub bind_under : {X Y : Type 0} (a : Option X) (f g : X → Option Y) → ((x : X) → f x ≡ g x) → (a >>= f) ≡ (a >>= g)
bind_under a f g h = bind_both a a f g refl h

pub bind_assoc : {X Y Z : Type 0} (a : Option X) (f : X → Option Y) (g : Y → Option Z) → ((a >>= f) >>= g) ≡ (a >>= λ x. f x >>= g)
unfolding ◌>>=◌
bind_assoc None f g = refl
bind_assoc (Some x) f g = refl

pub bind_none : {X Y : Type 0} (a : Option X) (r : Option Y) → r ≡ None → (a >>= λ x. r) ≡ None
unfolding ◌>>=◌
bind_none None r e = refl
bind_none (Some x) r e = e

pub bind_swap : {X Y Z : Type 0} (a : Option X) (b : Option Y) (f : X → Y → Option Z) → (a >>= λ x. b >>= λ y. f x y) ≡ (b >>= λ y. a >>= λ x. f x y)
unfolding ◌>>=◌
bind_swap None None f = refl
bind_swap None (Some y) f = refl
bind_swap (Some x) None f = refl
bind_swap (Some x) (Some y) f = refl

pub bind_some : {X Y : Type 0} (x : X) (f : X → Option Y) → (Some x >>= f) ≡ f x
unfolding ◌>>=◌
bind_some x f = refl

-- ---- two things at once

both_after : {A S T : Type 0} (f : S → A → Option S) (g : T → A → Option T) (o : Option S) (p : Option T) (more : List A) → ((s : S) (t : T) → collect (both f g) (s, t) more ≡ (collect f s more >>= λ x. collect g t more >>= λ y. Some (x, y))) → ((o >>= λ x. p >>= λ y. Some (x, y)) >>= λ st. collect (both f g) st more) ≡ ((o >>= λ x. collect f x more) >>= λ x. (p >>= λ y. collect g y more) >>= λ y. Some (x, y))
unfolding ◌>>=◌
both_after f g None p more h = refl
both_after f g (Some x) None more h = sym (bind_none (collect f x more) None refl)
both_after f g (Some x) (Some y) more h = h x y

pub collect_both : {A S T : Type 0} (f : S → A → Option S) (g : T → A → Option T) (s : S) (t : T) (items : List A) → collect (both f g) (s, t) items ≡ (collect f s items >>= λ x. collect g t items >>= λ y. Some (x, y))
unfolding collect both ◌>>=◌
collect_both f g s t [] = refl
collect_both f g s t (a ∷ more) = both_after f g (f s a) (g t a) more (λ s t. collect_both f g s t more)

abbrev pair_of : {S T : Type 0} → Option S → Option T → Option (S × T)
pair_of o p = o >>= λ x. p >>= λ y. Some (x, y)

-- the first of the two has to be there in the end
required_after : {X T Y : Type 0} (o : Option (Option X)) (p : Option T) (k : X → T → Option Y) → (pair_of o p >>= λ st. st.0 >>= λ x. k x st.1) ≡ ((o >>= λ x. x) >>= λ x. p >>= k x)
unfolding ◌>>=◌
required_after None p k = refl
required_after (Some None) None k = refl
required_after (Some None) (Some y) k = refl
required_after (Some (Some x)) None k = refl
required_after (Some (Some x)) (Some y) k = refl

pub collect_required : {A X T Y : Type 0} (f : Option X → A → Option (Option X)) (g : T → A → Option T) (s : Option X) (t : T) (items : List A) (k : X → T → Option Y) → (collect (both f g) (s, t) items >>= λ st. st.0 >>= λ x. k x st.1) ≡ ((collect f s items >>= λ x. x) >>= λ x. collect g t items >>= k x)
collect_required f g s t items k = ap (λ o. o >>= λ st. st.0 >>= λ x. k x st.1) (collect_both f g s t items) ∙ required_after (collect f s items) (collect g t items) k

optional_after : {S T Y : Type 0} (o : Option S) (p : Option T) (k : S → T → Option Y) → (pair_of o p >>= λ st. k st.0 st.1) ≡ (o >>= λ x. p >>= k x)
unfolding ◌>>=◌
optional_after None p k = refl
optional_after (Some x) None k = refl
optional_after (Some x) (Some y) k = refl

pub collect_optional : {A S T Y : Type 0} (f : S → A → Option S) (g : T → A → Option T) (s : S) (t : T) (items : List A) (k : S → T → Option Y) → (collect (both f g) (s, t) items >>= λ st. k st.0 st.1) ≡ (collect f s items >>= λ x. collect g t items >>= k x)
collect_optional f g s t items k = ap (λ o. o >>= λ st. k st.0 st.1) (collect_both f g s t items) ∙ optional_after (collect f s items) (collect g t items) k

-- ---- at most once

-- one was found before
unfoldable no_more : {A X : Type 0} → X → List A → Option (Option X)
no_more x [] = Some (Some x)
no_more x (a ∷ more) = None

found_after : {A X : Type 0} (test : A → Bool) (read : A → Option X) (x : X) (b : Bool) (a : A) (more : List A) → collect (slot test read) (Some x) more ≡ no_more x (filter test more) → ((if b then once (Some x) (read a) else Some (Some x)) >>= λ t. collect (slot test read) t more) ≡ no_more x (cond b (a ∷ filter test more) (filter test more))
unfolding ◌>>=◌ once no_more
found_after test read x false a more h = h
found_after test read x true a more h = refl

collect_found : {A X : Type 0} (test : A → Bool) (read : A → Option X) (x : X) (items : List A) → collect (slot test read) (Some x) items ≡ no_more x (filter test items)
unfolding collect slot no_more ◌>>=◌
collect_found test read x [] = refl
collect_found test read x (a ∷ more) = found_after test read x (test a) a more (collect_found test read x more)

now_after : {A X : Type 0} (test : A → Bool) (read : A → Option X) (o : Option X) (a : A) (more rest : List A) → read a ≡ o → ((x : X) → collect (slot test read) (Some x) more ≡ no_more x rest) → ((o >>= λ x. Some (Some x)) >>= λ t. collect (slot test read) t more) ≡ at_most_one read (a ∷ rest)
unfolding ◌>>=◌ at_most_one no_more
now_after test read None a more [] e h = rw e refl
now_after test read None a more (b ∷ rest) e h = refl
now_after test read (Some x) a more [] e h = rw e (h x)
now_after test read (Some x) a more (b ∷ rest) e h = h x

none_after : {A X : Type 0} (test : A → Bool) (read : A → Option X) (b : Bool) (a : A) (more : List A) → collect (slot test read) None more ≡ at_most_one read (filter test more) → ((if b then once None (read a) else Some None) >>= λ t. collect (slot test read) t more) ≡ at_most_one read (cond b (a ∷ filter test more) (filter test more))
unfolding ◌>>=◌ once
none_after test read false a more h = h
none_after test read true a more h = now_after test read (read a) a more (filter test more) refl (λ x. collect_found test read x more)

pub collect_slot : {A X : Type 0} (test : A → Bool) (read : A → Option X) (items : List A) → collect (slot test read) None items ≡ at_most_one read (filter test items)
unfolding collect slot at_most_one ◌>>=◌
collect_slot test read [] = refl
collect_slot test read (a ∷ more) = none_after test read (test a) a more (collect_slot test read more)

-- ---- exactly once

one_alone : {X : Type 0} (o : Option X) → ((o >>= λ x. Some (Some x)) >>= λ x. x) ≡ o
unfolding ◌>>=◌
one_alone None = refl
one_alone (Some x) = refl

at_most_then : {A X : Type 0} (read : A → Option X) (items : List A) → (at_most_one read items >>= λ x. x) ≡ the_one read items
unfolding ◌>>=◌ at_most_one the_one
at_most_then read [] = refl
at_most_then read (a ∷ []) = one_alone (read a)
at_most_then read (a ∷ b ∷ more) = refl

pub collect_the_one : {A X : Type 0} (test : A → Bool) (read : A → Option X) (items : List A) → (collect (slot test read) None items >>= λ x. x) ≡ the_one read (filter test items)
collect_the_one test read items = ap (λ o. o >>= λ x. x) (collect_slot test read items) ∙ at_most_then read (filter test items)

-- ---- the last counts

last_after : {A X : Type 0} (test : A → Bool) (read : A → Option X) (x : X) (b : Bool) (a : A) (more : List A) → ((y : X) → collect (last_slot test read) y more ≡ the_last y read (filter test more)) → ((if b then read a else Some x) >>= λ t. collect (last_slot test read) t more) ≡ the_last x read (cond b (a ∷ filter test more) (filter test more))
unfolding ◌>>=◌ the_last
last_after test read x false a more h = h x
last_after test read x true a more h = bind_under (read a) _ _ h

pub collect_last : {A X : Type 0} (test : A → Bool) (read : A → Option X) (x : X) (items : List A) → collect (last_slot test read) x items ≡ the_last x read (filter test items)
unfolding collect last_slot the_last ◌>>=◌
collect_last test read x [] = refl
collect_last test read x (a ∷ more) = last_after test read x (test a) a more (λ y. collect_last test read y more)

-- ---- no others

only_after : {A : Type 0} (test : A → Bool) (b : Bool) (more : List A) → collect (allowed test) tt more ≡ only test more → ((if b then Some tt else None) >>= λ t. collect (allowed test) t more) ≡ (if b then only test more else None)
unfolding ◌>>=◌
only_after test false more h = refl
only_after test true more h = h

pub collect_only : {A : Type 0} (test : A → Bool) (items : List A) → collect (allowed test) tt items ≡ only test items
unfolding collect only allowed
collect_only test [] = refl
collect_only test (a ∷ more) = only_after test (test a) more (collect_only test more)
