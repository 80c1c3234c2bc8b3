-- Reading what is left of a level, up to its end, with counted calls.
use Rattle.std.proofs.Common.{◌≡◌, ℕ, ◌+◌, ◌*◌, Bool, true, false, Option, None, Some, Result, Ok, Err, List, [], ◌∷◌, refl, sym, ap, subst, ◌∙◌, arith}
use Rattle.std.proofs.lemmas.Bool.{ltb-false}
use Rattle.std.specs.Prelude.{IsErrAnd, is_some, nat_lt, if◌then◌else◌, OnOk}
use Rattle.rpki_common.specs.Chaining.{◌>>=◌}
use Rattle.rpki_common.specs.Collecting.{collect, once}
use Rattle.rpki_common.proofs.Collected.{bind_both, bind_under, bind_assoc, bind_none}
use Rattle.rpki_der.specs.Identifier.{has_tag}
use Rattle.rpki_der.specs.Tags.{set}
use Rattle.rpki_der.specs.Value.{Value, Primitive, Constructed, Values, End, ◌▸◌, spelling}
use Rattle.rpki_der.specs.Position.{Position, top, AtEnd, Leaves}
use Rattle.rpki_der.specs.Grammar.{any, so, within, first, every, gather, anything, done, wrapped}
use Rattle.rpki_der.specs.Entry.{set_of}
use Rattle.rpki_der.specs.Takes.{Goes, GoesOut, Refuses, RefusesToEnter, RefusesToLeave, Stops}
use Rattle.rpki_der.specs.Ticks.{left, marks, CountedOne, CountedRefuses, CountedReads, CountedStops, TakesRestCounted, TakesCounted}
use Rattle.rpki_der.proofs.Counting.{most_wider, most_refused, reads_left, CountedContinues, reads_end, reads_first, reads_done, takes_within, refuses_within, refuses_inside, stops_first, stops_later, stops_done}
use Rattle.rpki_der.specs.declared.error.DecodeError.{DecodeError}
use Rattle.rpki_der.specs.declared.error.DecodeError.TheVariants.{Malformed, OutOfMemory}

pub takes_rest_err : {X Y : Type 0} (c k : ℕ) (fields : Values → Option X) (view : Y → X) (old new : Position) (b a : ℕ) (error : DecodeError) (r : Result Y DecodeError) → IsErrAnd r (λ e. e ≡ error) → CountedStops c k fields old b a error → TakesRestCounted c k fields view old new b a r
takes_rest_err c k f view old new b a error (Ok y) h n = absurd h
takes_rest_err c k f view old new b a error (Err e) h n = subst (CountedStops c k f old b a) (sym h) n

-- ---- another spelling of the same fields

pub reads_as : {Y : Type 0} (c k : ℕ) (f g : Values → Option Y) (p q : Position) (b a : ℕ) (y : Y) → ((vs : Values) → f vs ≡ g vs) → CountedReads c k f p q b a y → CountedReads c k g p q b a y
reads_as c k f g p q b a y h r = record { reads = record { values = r.reads.values; holds = r.reads.holds; reads = sym (h r.reads.values) ∙ r.reads.reads; levels = r.reads.levels; mode = r.reads.mode }; least = r.least; most = r.most }

only_as : {Y : Type 0} (f g : Values → Option Y) (p : Position) (e : DecodeError) → ((vs : Values) → f vs ≡ g vs) → Stops f p e → Stops g p e
unfolding Stops
only_as f g p Malformed h n = record { none = λ vs rest x. sym (h vs) ∙ n.none vs rest x }
only_as f g p OutOfMemory h n = tt

pub stops_as : {Y : Type 0} (c k : ℕ) (f g : Values → Option Y) (p : Position) (b a : ℕ) (e : DecodeError) → ((vs : Values) → f vs ≡ g vs) → CountedStops c k f p b a e → CountedStops c k g p b a e
stops_as c k f g p b a e h n = record { stops = only_as f g p e h n.stops; least = n.least; most = n.most }

pub continues_as : {Y : Type 0} (c : ℕ) (f g : Values → Option Y) (p : Position) (b : ℕ) → ((vs : Values) → f vs ≡ g vs) → CountedContinues c g p b f p b
continues_as c f g p b h = record { reads = λ k q a y r. reads_as c k f g p q b a y h r; stops = λ k a e n. stops_as c k f g p b a e h n; levels = refl; mode = refl }

pub takes_alike : {X : Type 0} (c : ℕ) (f g : Value → Option X) (p q : Position) (b a : ℕ) (x : X) → ((v : Value) → f v ≡ g v) → CountedOne c f p q b a x → CountedOne c g p q b a x
takes_alike c f g p q b a x h t = record {
  takes = record {
    value = t.takes.value;
    begins = t.takes.begins;
    reads = sym (h t.takes.value) ∙ t.takes.reads;
    levels = t.takes.levels;
    mode = t.takes.mode;
  };
  least = t.least;
  most = t.most;
}

none_alike : {X : Type 0} (f g : Value → Option X) (p : Position) (e : DecodeError) → ((v : Value) → f v ≡ g v) → Refuses f p e → Refuses g p e
unfolding Refuses
none_alike f g p Malformed h n = λ v rest k. sym (h v) ∙ n v rest k
none_alike f g p OutOfMemory h n = tt

pub refuses_alike : {X : Type 0} (c : ℕ) (f g : Value → Option X) (p : Position) (b a : ℕ) (e : DecodeError) → ((v : Value) → f v ≡ g v) → CountedRefuses c f p b a e → CountedRefuses c g p b a e
refuses_alike c f g p b a e h n = record { refuses = none_alike f g p e h n.refuses; least = n.least; most = n.most }

pub all_alike : {X Y : Type 0} (c : ℕ) (f g : Value → Option X) (view : Y → X) (p q : Position) (b a : ℕ) (r : Result Y DecodeError) → ((v : Value) → f v ≡ g v) → TakesCounted c f view p q b a r → TakesCounted c g view p q b a r
all_alike c f g view p q b a (Ok y) h t = takes_alike c f g p q b a (view y) h t
all_alike c f g view p q b a (Err e) h n = refuses_alike c f g p b a e h n

-- ---- with more ticks allowed

pub rest_wider : {X Y : Type 0} (c j k : ℕ) (fields : Values → Option X) (view : Y → X) (p q : Position) (b a : ℕ) (r : Result Y DecodeError) → nat_lt k j ≡ false → TakesRestCounted c j fields view p q b a r → TakesRestCounted c k fields view p q b a r
rest_wider c j k fields view p q b a (Ok y) fits t = record { reads = t.reads; least = t.least; most = omega (arith, ltb-false k j fits, t.most) }
rest_wider c j k fields view p q b a (Err e) fits n = record { stops = n.stops; least = n.least; most = omega (arith, ltb-false k j fits, n.most) }

pub reads_slower : {Y : Type 0} (c d k : ℕ) (fields : Values → Option Y) (p q : Position) (b a : ℕ) (y : Y) → nat_lt c d ≡ false → CountedReads d k fields p q b a y → CountedReads c k fields p q b a y
reads_slower c d k fields p q b a y fits r = record { reads = r.reads; least = r.least; most = most_wider c d (left p) (left q) b a k fits (reads_left fields p q y r.reads) r.most }

pub stops_slower : {Y : Type 0} (c d k : ℕ) (fields : Values → Option Y) (p : Position) (b a : ℕ) (e : DecodeError) → nat_lt c d ≡ false → CountedStops d k fields p b a e → CountedStops c k fields p b a e
stops_slower c d k fields p b a e fits n = record { stops = n.stops; least = n.least; most = most_refused c d (left p) b a k fits n.most }

-- ---- what is made of them

pub reads_bind : {X Y : Type 0} (c k : ℕ) (f : Values → Option X) (g : X → Option Y) (p q : Position) (b a : ℕ) (x : X) (y : Y) → CountedReads c k f p q b a x → g x ≡ Some y → CountedReads c k (λ vs. f vs >>= g) p q b a y
unfolding ◌>>=◌
reads_bind c k f g p q b a x y r e = record { reads = record { values = r.reads.values; holds = r.reads.holds; reads = rw r.reads.reads e; levels = r.reads.levels; mode = r.reads.mode }; least = r.least; most = r.most }

none_bound : {X Y : Type 0} (f : Values → Option X) (g : X → Option Y) (p : Position) (e : DecodeError) → Stops f p e → Stops (λ vs. f vs >>= g) p e
unfolding Stops ◌>>=◌
none_bound f g p Malformed n = record { none = λ vs rest h. rw (n.none vs rest h) refl }
none_bound f g p OutOfMemory n = tt

pub stops_bind : {X Y : Type 0} (c k : ℕ) (f : Values → Option X) (g : X → Option Y) (p : Position) (b a : ℕ) (e : DecodeError) → CountedStops c k f p b a e → CountedStops c k (λ vs. f vs >>= g) p b a e
stops_bind c k f g p b a e n = record { stops = none_bound f g p e n.stops; least = n.least; most = n.most }

-- ---- any values

-- values that are read one by one and thrown away
abbrev pub passed_over : List (List ℕ) → Option (Unit {0})
passed_over xs = Some tt

passed : (x : List ℕ) (o : Option (List (List ℕ))) → (o >>= passed_over) ≡ Some tt → ((o >>= λ xs. Some (x ∷ xs)) >>= passed_over) ≡ Some tt
unfolding ◌>>=◌
passed x None e = e
passed x (Some xs) e = refl

pub every_any : (vs : Values) → (every any vs >>= passed_over) ≡ anything vs
unfolding every ◌>>=◌
every_any End = refl
every_any (v ▸ vs) = passed (spelling v) (every any vs) (every_any vs)

pub rest_left : (p p' q : Position) (b m a : ℕ) (r : Result (Unit {0}) DecodeError) → CountedContinues 1 anything p b (λ vs. every any vs >>= passed_over) p' m → AtEnd p' → GoesOut p' q r → OnOk r (a ≡ m + marks (top p'.levels)) → TakesRestCounted 1 0 anything (λ x. x) p q b a r
rest_left p p' q b m a (Ok u) c e l t = c.reads 0 q a u (reads_end 1 any passed_over p' q m a u refl l t refl)
rest_left p p' q b m a (Err Malformed) c e l t = absurd (l e)
rest_left p p' q b m a (Err OutOfMemory) c e l t = absurd l

-- ---- a SET of one value, and nothing behind it

pub reads_set : {X : Type 0} (leaf : Value → Option X) (p p1 p2 p3 q : Position) (b b1 b2 b3 a : ℕ) (x : X) → Goes set p p1 → b1 ≡ b + 1 → CountedOne 1 leaf p1 p2 b1 b2 x → Leaves p2 p3 → b3 ≡ b2 + marks (top p2.levels) → Leaves p3 q → a ≡ b3 + marks (top p3.levels) → CountedReads 1 0 (set_of leaf) p q b a x
unfolding set_of wrapped
reads_set leaf p p1 p2 p3 q b b1 b2 b3 a x g n t l m l' m' = reads_first _ _ _ _ _ _ _ _ _ _ _ _ _ refl (takes_within 1 _ _ _ _ _ _ _ _ _ _ refl g n (reads_first _ _ _ _ _ _ _ _ _ _ _ _ _ refl t (reads_done _ _ _ _ _ _ refl l m))) (reads_done _ _ _ _ _ _ refl l' m')

pub stops_set_enter : {X : Type 0} (leaf : Value → Option X) (p : Position) (b a : ℕ) (e : DecodeError) → RefusesToEnter set p e → a ≡ b + 1 → CountedStops 1 0 (set_of leaf) p b a e
unfolding set_of wrapped
stops_set_enter leaf p b a e n t = stops_first _ _ _ _ _ _ _ _ refl (refuses_within 1 _ _ p _ _ _ n t)

pub stops_set_leaf : {X : Type 0} (leaf : Value → Option X) (p p1 : Position) (b b1 a : ℕ) (e : DecodeError) → Goes set p p1 → b1 ≡ b + 1 → CountedRefuses 1 leaf p1 b1 a e → CountedStops 1 0 (set_of leaf) p b a e
unfolding set_of wrapped
stops_set_leaf leaf p p1 b b1 a e g t n = stops_first _ _ _ _ _ _ _ _ refl (refuses_inside 1 _ _ _ _ _ _ _ _ _ refl g t (stops_first _ _ _ _ _ _ _ _ refl n))

pub stops_set_more : {X : Type 0} (leaf : Value → Option X) (p p1 p2 : Position) (b b1 b2 a : ℕ) (x : X) (e : DecodeError) → Goes set p p1 → b1 ≡ b + 1 → CountedOne 1 leaf p1 p2 b1 b2 x → RefusesToLeave p2 e → a ≡ b2 → CountedStops 1 0 (set_of leaf) p b a e
unfolding set_of wrapped
stops_set_more leaf p p1 p2 b b1 b2 a x e g n t l m = stops_first _ _ _ _ _ _ _ _ refl (refuses_inside 1 _ _ _ _ _ _ _ _ _ refl g n (stops_later _ _ _ _ _ _ _ _ _ _ _ _ refl t (stops_done _ _ _ _ _ _ l m)))

pub stops_set_behind : {X : Type 0} (leaf : Value → Option X) (p p1 p2 p3 : Position) (b b1 b2 b3 a : ℕ) (x : X) (e : DecodeError) → Goes set p p1 → b1 ≡ b + 1 → CountedOne 1 leaf p1 p2 b1 b2 x → Leaves p2 p3 → b3 ≡ b2 + marks (top p2.levels) → RefusesToLeave p3 e → a ≡ b3 → CountedStops 1 0 (set_of leaf) p b a e
unfolding set_of wrapped
stops_set_behind leaf p p1 p2 p3 b b1 b2 b3 a x e g n t l m l' m' = stops_later _ _ _ _ _ _ _ _ _ _ _ _ refl (takes_within 1 _ _ _ _ _ _ _ _ _ _ refl g n (reads_first _ _ _ _ _ _ _ _ _ _ _ _ _ refl t (reads_done _ _ _ _ _ _ refl l m))) (stops_done _ _ _ _ _ _ l' m')

-- ---- the second is refused

second_none : {X : Type 0} (found : Option X) (f : Values → Option X) (p : Position) → is_some found ≡ true → Stops (λ vs. once found (f vs)) p Malformed
unfolding once Stops
second_none None f p h = cc
second_none (Some x) f p h = record { none = λ vs rest h. refl }

pub stops_second : {X : Type 0} (c k : ℕ) (found : Option X) (f : Values → Option X) (p : Position) (b : ℕ) → is_some found ≡ true → CountedStops c k (λ vs. once found (f vs)) p b b Malformed
stops_second c k found f p b h = record { stops = second_none found f p h; least = omega arith; most = omega arith }

pub first_reads : {X : Type 0} (c k : ℕ) (found : Option X) (f : Values → Option X) (p q : Position) (b a : ℕ) (x : X) → is_some found ≡ false → CountedReads c k f p q b a x → CountedReads c k (λ vs. once found (f vs)) p q b a (Some x)
unfolding once
first_reads c k None f p q b a x e r = reads_bind c k f (λ x. Some (Some x)) p q b a x (Some x) r refl
first_reads c k (Some y) f p q b a x e r = cc

pub first_stops : {X : Type 0} (c k : ℕ) (found : Option X) (f : Values → Option X) (p : Position) (b a : ℕ) (e : DecodeError) → is_some found ≡ false → CountedStops c k f p b a e → CountedStops c k (λ vs. once found (f vs)) p b a e
unfolding once
first_stops c k None f p b a e n s = stops_bind c k f (λ x. Some (Some x)) p b a e s
first_stops c k (Some y) f p b a e n s = cc

-- ---- the last field is what is left

pub takes_within_rest : {X Y Z : Type 0} (c d k : ℕ) (tag : List ℕ) (field : Value → Option X) (next : X × Values → Option Y) (view : Z → Y) (s p p' q : Position) (b b1 b2 a : ℕ) (x : X) (r : Result Z DecodeError) → nat_lt k (2 * c) ≡ true → nat_lt c d ≡ false → Goes tag s p → b1 ≡ b + 1 → CountedOne d field p p' b1 b2 x → TakesRestCounted c k (λ vs. next (x, vs)) view p' q b2 a r → TakesCounted c (within tag (λ vs. first field vs >>= next)) view s q b a r
takes_within_rest c d k tag field next view s p p' q b b1 b2 a x (Ok z) h h' g n t r = takes_within _ _ _ _ _ _ _ _ _ _ _ h g n (reads_first _ _ _ _ _ _ _ _ _ _ _ _ _ h' t r)
takes_within_rest c d k tag field next view s p p' q b b1 b2 a x (Err e) h h' g n t r = refuses_inside _ _ _ _ _ _ _ _ _ _ h g n (stops_later _ _ _ _ _ _ _ _ _ _ _ _ h' t r)

pub takes_all_rest : {Y Z : Type 0} (c k : ℕ) (tag : List ℕ) (fields : Values → Option Y) (view : Z → Y) (s p q : Position) (b m a : ℕ) (r : Result Z DecodeError) → nat_lt k (2 * c) ≡ true → Goes tag s p → m ≡ b + 1 → TakesRestCounted c k fields view p q m a r → TakesCounted c (within tag fields) view s q b a r
takes_all_rest c k tag fields view s p q b m a (Ok z) h g n r = takes_within _ _ _ _ _ _ _ _ _ _ _ h g n r
takes_all_rest c k tag fields view s p q b m a (Err e) h g n r = refuses_inside _ _ _ _ _ _ _ _ _ _ h g n r

-- a level is still entered
pub still_in : {Y : Type 0} (c : ℕ) (f g : Values → Option Y) (p p' : Position) (b m : ℕ) → CountedContinues c f p b g p' m → (p.levels ≡ [] → ⊥) → p'.levels ≡ [] → ⊥
still_in c f g p p' b m w n e = n (sym w.levels ∙ e)

-- ---- values that are gathered as items

collected_after : {A S : Type 0} (step : S → A → Option S) (o : Option A) (later : Option (List A)) (s : S) → (o >>= λ a. step s a >>= λ t. later >>= collect step t) ≡ ((o >>= λ a. later >>= λ more. Some (a ∷ more)) >>= collect step s)
unfolding collect ◌>>=◌
collected_after step None later s = refl
collected_after step (Some a) None s = bind_none (step s a) None refl
collected_after step (Some a) (Some more) s = refl

pub gather_every : {A S : Type 0} (item : Value → Option A) (step : S → A → Option S) (s : S) (vs : Values) → gather (λ t v. item v >>= step t) s vs ≡ (every item vs >>= collect step s)
unfolding gather every collect ◌>>=◌
gather_every item step s End = refl
gather_every item step s (v ▸ vs) =
    bind_assoc (item v) (step s) (λ t. gather (λ t v. item v >>= step t) t vs)
    ∙ bind_under (item v) _ _ (λ a. bind_under (step s a) _ _ (λ t. gather_every item step t vs))
    ∙ collected_after step (item v) (every item vs) s

pub gather_same : {S : Type 0} (f g : S → Value → Option S) (s : S) (vs : Values) → ((s : S) (v : Value) → f s v ≡ g s v) → gather f s vs ≡ gather g s vs
unfolding gather
gather_same f g s End h = refl
gather_same f g s (v ▸ vs) h = bind_both _ _ _ _ (h s v) (λ t. gather_same f g t vs h)

under_test : {X Y : Type 0} (b : Bool) (o : Option X) (g : X → Option Y) → (if b then (o >>= g) else None) ≡ ((if b then o else None) >>= g)
unfolding ◌>>=◌
under_test true o g = refl
under_test false o g = refl

pub within_then : {X Y : Type 0} (tag : List ℕ) (f : Values → Option X) (g : X → Option Y) (v : Value) → within tag (λ vs. f vs >>= g) v ≡ (within tag f v >>= g)
unfolding within ◌>>=◌
within_then tag f g (Primitive i l c) = refl
within_then tag f g (Constructed i form vs) = under_test (has_tag tag i) (f vs) g

pub within_same : {X : Type 0} (tag : List ℕ) (f g : Values → Option X) (v : Value) → ((vs : Values) → f vs ≡ g vs) → within tag f v ≡ within tag g v
unfolding within
within_same tag f g (Primitive i l c) h = refl
within_same tag f g (Constructed i form vs) h = rw (h vs) refl

-- ---- what is made of the one value inside another

abbrev with_more : {X : Type 0} → Values → X → Option (X × Values)
with_more vs x = Some (x, vs)

abbrev and_no_more : {X : Type 0} → X × Values → Option X
and_no_more x = done x.0 x.1

no_more : {Y : Type 0} (o : Option Y) → o ≡ ((o >>= with_more End) >>= and_no_more)
unfolding done ◌>>=◌
no_more None = refl
no_more (Some y) = refl

some_more : {Y : Type 0} (o : Option Y) (v : Value) (vs : Values) → None ≡ ((o >>= with_more (v ▸ vs)) >>= and_no_more)
unfolding done ◌>>=◌
some_more None v vs = refl
some_more (Some y) v vs = refl

one_so : {X Y : Type 0} (o : Option X) (convert : X → Option Y) (vs : Values) → (((o >>= with_more vs) >>= and_no_more) >>= convert) ≡ (((o >>= convert) >>= with_more vs) >>= and_no_more)
unfolding done ◌>>=◌
one_so None convert vs = refl
one_so (Some x) convert End = no_more (convert x)
one_so (Some x) convert (v ▸ vs) = some_more (convert x) v vs

alone_so : {X Y : Type 0} (field : Value → Option X) (convert : X → Option Y) (vs : Values) → ((first field vs >>= and_no_more) >>= convert) ≡ (first (so field convert) vs >>= and_no_more)
unfolding first so ◌>>=◌
alone_so field convert End = refl
alone_so field convert (v ▸ vs) = one_so (field v) convert vs

pub wrapped_so : {X Y : Type 0} (tag : List ℕ) (field : Value → Option X) (convert : X → Option Y) (v : Value) → so (wrapped tag field) convert v ≡ wrapped tag (so field convert) v
unfolding wrapped so
wrapped_so tag field convert v =
    sym (within_then tag (λ vs. first field vs >>= and_no_more) convert v)
    ∙ within_same tag (λ vs. (first field vs >>= and_no_more) >>= convert) (λ vs. first (so field convert) vs >>= and_no_more) v (alone_so field convert)

first_same : {X : Type 0} (f g : Value → Option X) (vs : Values) → ((v : Value) → f v ≡ g v) → first f vs ≡ first g vs
unfolding first
first_same f g End h = refl
first_same f g (v ▸ vs) h = rw (h v) refl

pub wrapped_same : {X : Type 0} (tag : List ℕ) (f g : Value → Option X) (v : Value) → ((v : Value) → f v ≡ g v) → wrapped tag f v ≡ wrapped tag g v
unfolding wrapped
wrapped_same tag f g v h =
    within_same tag (λ vs. first f vs >>= and_no_more) (λ vs. first g vs >>= and_no_more) v (λ vs. ap (λ o. o >>= and_no_more) (first_same f g vs h))
