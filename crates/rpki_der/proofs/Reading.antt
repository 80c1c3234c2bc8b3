-- Reading the fields of a constructed value, one call of a cursor after the other: lemmas that `search` applies backwards from a goal.
use Rattle.std.proofs.Common.{◌≡◌, ℕ, ◌<◌, Bool, true, false, Option, None, Some, Result, Ok, Err, List, [], ◌∷◌, ◌++◌, length, drop, refl, sym, ap, subst, ◌∙◌}
use Rattle.std.specs.Prelude.{IsErrAnd, IsTrue, ◌↔◌}
use Rattle.rpki_der.specs.declared.error.DecodeError.{DecodeError}
use Rattle.rpki_der.specs.declared.error.DecodeError.TheVariants.{Malformed, OutOfMemory}
use Rattle.rpki_der.specs.declared.mode.Mode.{Mode}
use Rattle.rpki_der.specs.declared.mode.Mode.TheVariants.{Ber, Der}
use Rattle.rpki_der.specs.Value.{Form, Definite, Indefinite, Value, Primitive, Constructed, Values, End, ◌▸◌, spellings, IsForm, Begins}
use Rattle.rpki_der.specs.Level.{EndsLevel, Level, Sized, Marked, LevelHolds, Opens}
use Rattle.rpki_der.specs.Position.{Position, top, AtEnd, Leaves}
use Rattle.rpki_common.specs.Chaining.{◌>>=◌}
use Rattle.rpki_der.specs.Grammar.{identifier_of, so, within, first, done, every, optional, gather}
use Rattle.rpki_der.specs.Takes.{TakesOne, TakesFields, RefusesFields, TakesPart, RefusesOctets, Decodes, NoneStands, Refuses, Takes, Goes, NoneOpens, RefusesToEnter, RefusesToLeave, ReadsFields, ReadsNone, Stops}
use Rattle.rpki_der.specs.Identifier.{has_tag}
use Rattle.rpki_der.proofs.Uniqueness.{four_parts}
use Rattle.rpki_der.proofs.Parts.{at_most_one}
use Rattle.rpki_der.proofs.Walks.{opens_forth, opens_back, holds_cons, holds_more, holds_end, end_holds, ends_no_value, smaller_over}

-- ---- the exit of a `?`

pub takes_err : {X Y : Type 0} (grammar : Value → Option X) (view : Y → X) (old new : Position) (error : DecodeError) (r : Result Y DecodeError) → IsErrAnd r (λ e. e ≡ error) → Refuses grammar old error → Takes grammar view old new r
takes_err g view old new error (Ok y) h n = absurd h
takes_err g view old new error (Err e) h n = subst (Refuses g old) (sym h) n

pub refuses_memory : {X : Type 0} (grammar : Value → Option X) (old : Position) → Refuses grammar old OutOfMemory
unfolding Refuses
refuses_memory grammar old = tt

-- ---- a constructed value

pub takes_within : {Y : Type 0} (tag : List ℕ) (fields : Values → Option Y) (s p q : Position) (y : Y) → Goes tag s p → ReadsFields fields p q y → TakesOne (within tag fields) s q y
unfolding within
takes_within tag fields s p q y g r =
    let w = opens_back s.mode s.here g.identifier g.level p.here r.values q.here g.opens (rw (g.mode, g.levels) at r.holds) in
    record {
      value = Constructed g.identifier w.form r.values;
      begins = w.begins;
      reads = rw g.tagged r.reads;
      levels = r.levels ∙ ap (drop 1) g.levels;
      mode = r.mode ∙ g.mode;
    }

inside_none : {Y : Type 0} (tag : List ℕ) (fields : Values → Option Y) (s p : Position) → Goes tag s p → ReadsNone fields p → NoneStands (within tag fields) s
unfolding within
inside_none tag fields s p g n v rest b =
    let w = opens_forth s.mode s.here g.identifier g.level p.here v rest g.opens b in
    let none : fields w.values ≡ None = n.none w.values rest (rw (g.mode, g.levels) w.holds) in
    ap (within tag fields) w.is ∙ rw g.tagged none

pub refuses_inside : {Y : Type 0} (tag : List ℕ) (fields : Values → Option Y) (s p : Position) (e : DecodeError) → Goes tag s p → Stops fields p e → Refuses (within tag fields) s e
unfolding Refuses Stops
refuses_inside tag fields s p Malformed g n = inside_none tag fields s p g n
refuses_inside tag fields s p OutOfMemory g n = tt

pub record Opened (mode : Mode) (here i : List ℕ) : Type 0 where
  pub level : Level
  pub inner : List ℕ
  pub opens : Opens mode here i level inner

is_ber : (mode : Mode) (n : ℕ) → IsForm mode Indefinite n → mode ≡ Ber
is_ber Ber n p = refl
is_ber Der n p = absurd p

pub value_opens : (mode : Mode) (here i : List ℕ) (form : Form) (vs : Values) (rest : List ℕ) → Begins mode here (Constructed i form vs) rest → Opened mode here i
value_opens mode here i (Definite l) vs rest b = record {
  level = Sized rest;
  inner = spellings vs;
  opens = (b.lawful.0, b.lawful.1, l, b.lawful.2, b.parts ∙ four_parts i l (spellings vs) [] rest);
}
value_opens mode here i Indefinite vs rest b = record {
  level = Marked;
  inner = spellings vs ++ (0 ∷ 0 ∷ rest);
  opens = (b.lawful.0, b.lawful.1, is_ber mode (length (spellings vs)) b.lawful.2, b.parts ∙ four_parts i (128 ∷ []) (spellings vs) (0 ∷ 0 ∷ []) rest);
}

none_within : {Y : Type 0} (tag : List ℕ) (fields : Values → Option Y) (s : Position) → NoneOpens tag s → NoneStands (within tag fields) s
unfolding within
none_within tag fields s n (Primitive i l c) rest b = refl
none_within tag fields s n (Constructed i form vs) rest b =
    let o = value_opens s.mode s.here i form vs rest b in rw (n i o.level o.inner o.opens) refl

pub refuses_within : {Y : Type 0} (tag : List ℕ) (fields : Values → Option Y) (s : Position) (e : DecodeError) → RefusesToEnter tag s e → Refuses (within tag fields) s e
unfolding Refuses
refuses_within tag fields s Malformed n = none_within tag fields s n
refuses_within tag fields s OutOfMemory n = tt

-- ---- a field

pub reads_first : {X Y : Type 0} (field : Value → Option X) (next : X × Values → Option Y) (p p' q : Position) (x : X) (y : Y) → TakesOne field p p' x → ReadsFields (λ vs. next (x, vs)) p' q y → ReadsFields (λ vs. first field vs >>= next) p q y
unfolding first ◌>>=◌
reads_first field next p p' q x y t r = record {
  values = t.value ▸ r.values;
  holds = holds_cons p.mode (top p.levels) p.here p'.here t.value r.values q.here t.begins (rw (t.mode, t.levels) at r.holds);
  reads = rw t.reads r.reads;
  levels = r.levels ∙ ap (drop 1) t.levels;
  mode = r.mode ∙ t.mode;
}

first_none : {X Y : Type 0} (field : Value → Option X) (next : X × Values → Option Y) (p p' : Position) (x : X) → TakesOne field p p' x → ReadsNone (λ vs. next (x, vs)) p' → (vs : Values) (rest : List ℕ) → LevelHolds p.mode (top p.levels) p.here vs rest → (first field vs >>= next) ≡ None
unfolding first ◌>>=◌
first_none field next p p' x t n End rest h = refl
first_none field next p p' x t n (v ▸ vs) rest h =
    let m = holds_more p.mode (top p.levels) p.here v vs rest h in
    let s = at_most_one p.mode p.here v t.value m.here' p'.here m.begins t.begins in
    let read : field v ≡ Some x = ap field s.value ∙ t.reads in
    let holds : LevelHolds p.mode (top p.levels) p'.here vs rest = subst (λ (r : List ℕ). LevelHolds p.mode (top p.levels) r vs rest) s.rest m.holds in
    rw read (n.none vs rest (rw (t.mode, t.levels) holds))

pub stops_later : {X Y : Type 0} (field : Value → Option X) (next : X × Values → Option Y) (p p' : Position) (x : X) (e : DecodeError) → TakesOne field p p' x → Stops (λ vs. next (x, vs)) p' e → Stops (λ vs. first field vs >>= next) p e
unfolding Stops
stops_later field next p p' x Malformed t n = record { none = first_none field next p p' x t n }
stops_later field next p p' x OutOfMemory t n = tt

first_refused : {X Y : Type 0} (field : Value → Option X) (next : X × Values → Option Y) (p : Position) → NoneStands field p → (vs : Values) (rest : List ℕ) → LevelHolds p.mode (top p.levels) p.here vs rest → (first field vs >>= next) ≡ None
unfolding first ◌>>=◌
first_refused field next p n End rest h = refl
first_refused field next p n (v ▸ vs) rest h =
    let m = holds_more p.mode (top p.levels) p.here v vs rest h in
    rw (n v m.here' m.begins) refl

pub stops_first : {X Y : Type 0} (field : Value → Option X) (next : X × Values → Option Y) (p : Position) (e : DecodeError) → Refuses field p e → Stops (λ vs. first field vs >>= next) p e
unfolding Refuses Stops
stops_first field next p Malformed n = record { none = first_refused field next p n }
stops_first field next p OutOfMemory n = tt

-- ---- fields of another kind than one value

pub reads_part : {X Y : Type 0} (fields : Values → Option (X × Values)) (next : X × Values → Option Y) (p p' q : Position) (x : X) (y : Y) → TakesFields fields p p' x → ReadsFields (λ vs. next (x, vs)) p' q y → ReadsFields (λ vs. fields vs >>= next) p q y
unfolding ◌>>=◌
reads_part fields next p p' q x y t r =
    let w = t.reads r.values q.here r.holds in
    record { values = w.0; holds = w.1; reads = rw w.2 r.reads; levels = r.levels ∙ ap (drop 1) t.levels; mode = r.mode ∙ t.mode }

part_none : {X Y : Type 0} (fields : Values → Option (X × Values)) (next : X × Values → Option Y) (p p' : Position) (x : X) → TakesFields fields p p' x → ReadsNone (λ vs. next (x, vs)) p' → (vs : Values) (rest : List ℕ) → LevelHolds p.mode (top p.levels) p.here vs rest → (fields vs >>= next) ≡ None
unfolding ◌>>=◌
part_none fields next p p' x t n vs rest h = let w = t.only vs rest h in rw w.2 (n.none w.0 rest w.1)

pub stops_behind : {X Y : Type 0} (fields : Values → Option (X × Values)) (next : X × Values → Option Y) (p p' : Position) (x : X) (e : DecodeError) → TakesFields fields p p' x → Stops (λ vs. next (x, vs)) p' e → Stops (λ vs. fields vs >>= next) p e
unfolding Stops
stops_behind fields next p p' x Malformed t n = record { none = part_none fields next p p' x t n }
stops_behind fields next p p' x OutOfMemory t n = tt

pub stops_part : {X Y : Type 0} (fields : Values → Option (X × Values)) (next : X × Values → Option Y) (p : Position) (e : DecodeError) → RefusesFields fields p e → Stops (λ vs. fields vs >>= next) p e
unfolding RefusesFields Stops ◌>>=◌
stops_part fields next p Malformed n = record { none = λ vs rest h. rw (n vs rest h) refl }
stops_part fields next p OutOfMemory n = tt

pub takes_part_err : {X Y : Type 0} (fields : Values → Option (X × Values)) (view : Y → X) (old new : Position) (error : DecodeError) (r : Result Y DecodeError) → IsErrAnd r (λ e. e ≡ error) → RefusesFields fields old error → TakesPart fields view old new r
takes_part_err f view old new error (Ok y) h n = absurd h
takes_part_err f view old new error (Err e) h n = subst (RefusesFields f old) (sym h) n

-- ---- an optional field

-- what a look ahead says of the value that stands here
abbrev pub Next : List ℕ → Position → Bool → Type 0
Next tag p found = (v : Value) (rest : List ℕ) → Begins p.mode p.here v rest → has_tag tag (identifier_of v) ≡ found

optional_some_only : {X : Type 0} (tag : List ℕ) (field : Value → Option X) (p q : Position) (x : X) → Next tag p true → TakesOne field p q x → (all : Values) (rest : List ℕ) → LevelHolds p.mode (top p.levels) p.here all rest → (vs : Values) × LevelHolds p.mode (top p.levels) q.here vs rest × (optional tag field all ≡ Some (Some x, vs))
unfolding optional ◌>>=◌
optional_some_only tag field p q x n t End rest h = absurd (ends_no_value p.mode (top p.levels) p.here rest (end_holds p.mode (top p.levels) p.here rest h) t.value q.here t.begins)
optional_some_only tag field p q x n t (v ▸ vs) rest h =
    let m = holds_more p.mode (top p.levels) p.here v vs rest h in
    let s = at_most_one p.mode p.here v t.value m.here' q.here m.begins t.begins in
    let read : field v ≡ Some x = ap field s.value ∙ t.reads in
    (vs, subst (λ (r : List ℕ). LevelHolds p.mode (top p.levels) r vs rest) s.rest m.holds, rw (n v m.here' m.begins, read) refl)

pub optional_some_reads : {X : Type 0} (tag : List ℕ) (field : Value → Option X) (v : Value) (vs : Values) (x : X) → has_tag tag (identifier_of v) ≡ true → field v ≡ Some x → optional tag field (v ▸ vs) ≡ Some (Some x, vs)
unfolding optional ◌>>=◌
optional_some_reads tag field v vs x t e = rw (t, e) refl

pub takes_optional : {X : Type 0} (tag : List ℕ) (field : Value → Option X) (p q : Position) (x : X) → Next tag p true → TakesOne field p q x → TakesFields (optional tag field) p q (Some x)
takes_optional tag field p q x n t = record {
  reads = λ vs rest h. (t.value ▸ vs, holds_cons p.mode (top p.levels) p.here q.here t.value vs rest t.begins (rw (t.mode, t.levels) at h), optional_some_reads tag field t.value vs x (n t.value q.here t.begins) t.reads);
  only = λ all rest h. rw (t.mode, t.levels) (optional_some_only tag field p q x n t all rest h);
  levels = t.levels;
  mode = t.mode;
}

pub optional_none_reads : {X : Type 0} (tag : List ℕ) (field : Value → Option X) (p : Position) → Next tag p false → (vs : Values) (rest : List ℕ) → LevelHolds p.mode (top p.levels) p.here vs rest → optional tag field vs ≡ Some (None, vs)
unfolding optional
optional_none_reads tag field p n End rest h = refl
optional_none_reads tag field p n (v ▸ vs) rest h = let m = holds_more p.mode (top p.levels) p.here v vs rest h in rw (n v m.here' m.begins) refl

pub takes_optional_none : {X : Type 0} (tag : List ℕ) (field : Value → Option X) (p : Position) → Next tag p false → TakesFields (optional tag field) p p None
takes_optional_none tag field p n = record {
  reads = λ vs rest h. (vs, h, optional_none_reads tag field p n vs rest h);
  only = λ all rest h. (all, h, optional_none_reads tag field p n all rest h);
  levels = refl;
  mode = refl;
}

optional_refused : {X : Type 0} (tag : List ℕ) (field : Value → Option X) (p : Position) → Next tag p true → (AtEnd p → ⊥) → NoneStands field p → (all : Values) (rest : List ℕ) → LevelHolds p.mode (top p.levels) p.here all rest → optional tag field all ≡ None
unfolding optional ◌>>=◌
optional_refused tag field p n more none End rest h = absurd (more (rest, end_holds p.mode (top p.levels) p.here rest h))
optional_refused tag field p n more none (v ▸ vs) rest h =
    let m = holds_more p.mode (top p.levels) p.here v vs rest h in rw (n v m.here' m.begins, none v m.here' m.begins) refl

pub refuses_optional : {X : Type 0} (tag : List ℕ) (field : Value → Option X) (p : Position) (e : DecodeError) → Next tag p true → (AtEnd p → ⊥) → Refuses field p e → RefusesFields (optional tag field) p e
unfolding Refuses RefusesFields
refuses_optional tag field p Malformed n more none = optional_refused tag field p n more none
refuses_optional tag field p OutOfMemory n more none = tt

-- ---- the end of the fields

pub reads_done : {Y : Type 0} (p q : Position) (y : Y) → Leaves p q → ReadsFields (λ vs. done y vs) p q y
unfolding done
reads_done p q y l = record { values = End; holds = holds_end p.mode (top p.levels) p.here q.here l.ends; reads = refl; levels = l.levels; mode = l.mode }

done_none : {Y : Type 0} (p : Position) (y : Y) → (AtEnd p → ⊥) → (vs : Values) (rest : List ℕ) → LevelHolds p.mode (top p.levels) p.here vs rest → done y vs ≡ None
unfolding done
done_none p y n End rest h = absurd (n (rest, end_holds p.mode (top p.levels) p.here rest h))
done_none p y n (v ▸ vs) rest h = refl

pub stops_done : {Y : Type 0} (p : Position) (y : Y) (e : DecodeError) → RefusesToLeave p e → Stops (λ vs. done y vs) p e
unfolding Stops
stops_done p y Malformed n = record { none = done_none p y n }
stops_done p y OutOfMemory n = tt

-- ---- any number of values

-- Reading on at p', by fields', is reading on at p, by fields.
pub record Continues {Y : Type 0} (fields : Values → Option Y) (p : Position) (fields' : Values → Option Y) (p' : Position) : Type 0 where
  pub reads : (q : Position) (y : Y) → ReadsFields fields' p' q y → ReadsFields fields p q y
  pub stops : (e : DecodeError) → Stops fields' p' e → Stops fields p e
  pub levels : p'.levels ≡ p.levels

pub continues_here : {Y : Type 0} (fields : Values → Option Y) (p : Position) → Continues fields p fields p
continues_here fields p = record { reads = λ q y r. r; stops = λ e n. n; levels = refl }

bind_front : {X Y : Type 0} (o : Option (List X)) (x : X) (next : List X → Option Y) → ((o >>= λ xs. Some (x ∷ xs)) >>= next) ≡ (o >>= λ xs. next (x ∷ xs))
unfolding ◌>>=◌
bind_front None x next = refl
bind_front (Some xs) x next = refl

item_is : {X Y : Type 0} (field : Value → Option X) (next : List X → Option Y) (v : Value) (vs : Values) (x : X) → field v ≡ Some x → (every field (v ▸ vs) >>= next) ≡ (every field vs >>= λ xs. next (x ∷ xs))
unfolding every ◌>>=◌
item_is field next v vs x e = rw e (bind_front (every field vs) x next)

pub item_reads : {X Y : Type 0} (field : Value → Option X) (next : List X → Option Y) (v : Value) (vs : Values) (x : X) (y : Y) → field v ≡ Some x → (every field vs >>= λ xs. next (x ∷ xs)) ≡ Some y → (every field (v ▸ vs) >>= next) ≡ Some y
item_reads field next v vs x y e r = item_is field next v vs x e ∙ r

reads_item : {X Y : Type 0} (field : Value → Option X) (next : List X → Option Y) (p p' q : Position) (x : X) (y : Y) → TakesOne field p p' x → ReadsFields (λ vs. every field vs >>= λ xs. next (x ∷ xs)) p' q y → ReadsFields (λ vs. every field vs >>= next) p q y
unfolding every
reads_item field next p p' q x y t r = record {
  values = t.value ▸ r.values;
  holds = holds_cons p.mode (top p.levels) p.here p'.here t.value r.values q.here t.begins (rw (t.mode, t.levels) at r.holds);
  reads = item_reads field next t.value r.values x y t.reads r.reads;
  levels = r.levels ∙ ap (drop 1) t.levels;
  mode = r.mode ∙ t.mode;
}

item_none : {X Y : Type 0} (field : Value → Option X) (next : List X → Option Y) (p p' : Position) (x : X) → TakesOne field p p' x → ReadsNone (λ vs. every field vs >>= λ xs. next (x ∷ xs)) p' → (vs : Values) (rest : List ℕ) → LevelHolds p.mode (top p.levels) p.here vs rest → (every field vs >>= next) ≡ None
item_none field next p p' x t n End rest h = absurd (ends_no_value p.mode (top p.levels) p.here rest (end_holds p.mode (top p.levels) p.here rest h) t.value p'.here t.begins)
item_none field next p p' x t n (v ▸ vs) rest h =
    let m = holds_more p.mode (top p.levels) p.here v vs rest h in
    let s = at_most_one p.mode p.here v t.value m.here' p'.here m.begins t.begins in
    let read : field v ≡ Some x = ap field s.value ∙ t.reads in
    let holds : LevelHolds p.mode (top p.levels) p'.here vs rest = subst (λ (r : List ℕ). LevelHolds p.mode (top p.levels) r vs rest) s.rest m.holds in
    item_is field next v vs x read ∙ n.none vs rest (rw (t.mode, t.levels) holds)

pub stops_after : {X Y : Type 0} (field : Value → Option X) (next : List X → Option Y) (p p' : Position) (x : X) (e : DecodeError) → TakesOne field p p' x → Stops (λ vs. every field vs >>= λ xs. next (x ∷ xs)) p' e → Stops (λ vs. every field vs >>= next) p e
unfolding Stops
stops_after field next p p' x Malformed t n = record { none = item_none field next p p' x t n }
stops_after field next p p' x OutOfMemory t n = tt

pub continues_item : {X Y : Type 0} (fields : Values → Option Y) (p : Position) (field : Value → Option X) (next : List X → Option Y) (p' p'' : Position) (x : X) → Continues fields p (λ vs. every field vs >>= next) p' → TakesOne field p' p'' x → Continues fields p (λ vs. every field vs >>= λ xs. next (x ∷ xs)) p''
continues_item fields p field next p' p'' x c t = record {
  reads = λ q y r. c.reads q y (reads_item field next p' p'' q x y t r);
  stops = λ e n. c.stops e (stops_after field next p' p'' x e t n);
  levels = t.levels ∙ c.levels;
}

-- no value is left
pub reads_end : {X Y : Type 0} (field : Value → Option X) (next : List X → Option Y) (p q : Position) (y : Y) → Leaves p q → next [] ≡ Some y → ReadsFields (λ vs. every field vs >>= next) p q y
unfolding every ◌>>=◌
reads_end field next p q y l e = record { values = End; holds = holds_end p.mode (top p.levels) p.here q.here l.ends; reads = e; levels = l.levels; mode = l.mode }

item_refused : {X Y : Type 0} (field : Value → Option X) (next : List X → Option Y) (p : Position) → (AtEnd p → ⊥) → NoneStands field p → (vs : Values) (rest : List ℕ) → LevelHolds p.mode (top p.levels) p.here vs rest → (every field vs >>= next) ≡ None
unfolding every ◌>>=◌
item_refused field next p more n End rest h = absurd (more (rest, end_holds p.mode (top p.levels) p.here rest h))
item_refused field next p more n (v ▸ vs) rest h =
    let m = holds_more p.mode (top p.levels) p.here v vs rest h in rw (n v m.here' m.begins) refl

-- a value is left, and it is no such item
pub stops_item : {X Y : Type 0} (field : Value → Option X) (next : List X → Option Y) (p : Position) (e : DecodeError) → (AtEnd p → ⊥) → Refuses field p e → Stops (λ vs. every field vs >>= next) p e
unfolding Refuses Stops
stops_item field next p Malformed more n = record { none = item_refused field next p more n }
stops_item field next p OutOfMemory more n = tt

-- ---- what each value in turn changes

reads_step : {S Y : Type 0} (step : S → Value → Option S) (next : S → Option Y) (s t : S) (p p' q : Position) (y : Y) → TakesOne (step s) p p' t → ReadsFields (λ vs. gather step t vs >>= next) p' q y → ReadsFields (λ vs. gather step s vs >>= next) p q y
unfolding gather ◌>>=◌
reads_step step next s t p p' q y k r = record {
  values = k.value ▸ r.values;
  holds = holds_cons p.mode (top p.levels) p.here p'.here k.value r.values q.here k.begins (rw (k.mode, k.levels) at r.holds);
  reads = rw k.reads r.reads;
  levels = r.levels ∙ ap (drop 1) k.levels;
  mode = r.mode ∙ k.mode;
}

step_none : {S Y : Type 0} (step : S → Value → Option S) (next : S → Option Y) (s t : S) (p p' : Position) → TakesOne (step s) p p' t → ReadsNone (λ vs. gather step t vs >>= next) p' → (vs : Values) (rest : List ℕ) → LevelHolds p.mode (top p.levels) p.here vs rest → (gather step s vs >>= next) ≡ None
unfolding gather ◌>>=◌
step_none step next s t p p' k n End rest h = absurd (ends_no_value p.mode (top p.levels) p.here rest (end_holds p.mode (top p.levels) p.here rest h) k.value p'.here k.begins)
step_none step next s t p p' k n (v ▸ vs) rest h =
    let m = holds_more p.mode (top p.levels) p.here v vs rest h in
    let w = at_most_one p.mode p.here v k.value m.here' p'.here m.begins k.begins in
    let read : step s v ≡ Some t = ap (step s) w.value ∙ k.reads in
    let holds : LevelHolds p.mode (top p.levels) p'.here vs rest = subst (λ (r : List ℕ). LevelHolds p.mode (top p.levels) r vs rest) w.rest m.holds in
    rw read (n.none vs rest (rw (k.mode, k.levels) holds))

pub stops_step_on : {S Y : Type 0} (step : S → Value → Option S) (next : S → Option Y) (s t : S) (p p' : Position) (e : DecodeError) → TakesOne (step s) p p' t → Stops (λ vs. gather step t vs >>= next) p' e → Stops (λ vs. gather step s vs >>= next) p e
unfolding Stops
stops_step_on step next s t p p' Malformed k n = record { none = step_none step next s t p p' k n }
stops_step_on step next s t p p' OutOfMemory k n = tt

pub continues_step : {S Y : Type 0} (fields : Values → Option Y) (p : Position) (step : S → Value → Option S) (next : S → Option Y) (s t : S) (p' p'' : Position) → Continues fields p (λ vs. gather step s vs >>= next) p' → TakesOne (step s) p' p'' t → Continues fields p (λ vs. gather step t vs >>= next) p''
continues_step fields p step next s t p' p'' c k = record {
  reads = λ q y r. c.reads q y (reads_step step next s t p' p'' q y k r);
  stops = λ e n. c.stops e (stops_step_on step next s t p' p'' e k n);
  levels = k.levels ∙ c.levels;
}

pub reads_gathered : {S Y : Type 0} (step : S → Value → Option S) (next : S → Option Y) (s : S) (p q : Position) (y : Y) → Leaves p q → next s ≡ Some y → ReadsFields (λ vs. gather step s vs >>= next) p q y
unfolding gather ◌>>=◌
reads_gathered step next s p q y l e = record { values = End; holds = holds_end p.mode (top p.levels) p.here q.here l.ends; reads = e; levels = l.levels; mode = l.mode }

step_refused : {S Y : Type 0} (step : S → Value → Option S) (next : S → Option Y) (s : S) (p : Position) → (AtEnd p → ⊥) → NoneStands (step s) p → (vs : Values) (rest : List ℕ) → LevelHolds p.mode (top p.levels) p.here vs rest → (gather step s vs >>= next) ≡ None
unfolding gather ◌>>=◌
step_refused step next s p more n End rest h = absurd (more (rest, end_holds p.mode (top p.levels) p.here rest h))
step_refused step next s p more n (v ▸ vs) rest h =
    let m = holds_more p.mode (top p.levels) p.here v vs rest h in rw (n v m.here' m.begins) refl

pub stops_step : {S Y : Type 0} (step : S → Value → Option S) (next : S → Option Y) (s : S) (p : Position) (e : DecodeError) → (AtEnd p → ⊥) → Refuses (step s) p e → Stops (λ vs. gather step s vs >>= next) p e
unfolding Refuses Stops
stops_step step next s p Malformed more n = record { none = step_refused step next s p more n }
stops_step step next s p OutOfMemory more n = tt

-- what was gathered is refused in the end
gathered_none : {S Y : Type 0} (step : S → Value → Option S) (next : S → Option Y) (s : S) (p : Position) (rest' : List ℕ) → EndsLevel (top p.levels) p.here rest' → next s ≡ None → (vs : Values) (rest : List ℕ) → LevelHolds p.mode (top p.levels) p.here vs rest → (gather step s vs >>= next) ≡ None
unfolding gather ◌>>=◌
gathered_none step next s p rest' a e End rest h = e
gathered_none step next s p rest' a e (v ▸ vs) rest h =
    let m = holds_more p.mode (top p.levels) p.here v vs rest h in absurd (ends_no_value p.mode (top p.levels) p.here rest' a v m.here' m.begins)

pub stops_gathered : {S Y : Type 0} (step : S → Value → Option S) (next : S → Option Y) (s : S) (p q : Position) → Leaves p q → next s ≡ None → Stops (λ vs. gather step s vs >>= next) p Malformed
unfolding Stops
stops_gathered step next s p q l e = record { none = gathered_none step next s p q.here l.ends e }

-- ---- a conversion

pub takes_so : {X Y : Type 0} (grammar : Value → Option X) (convert : X → Option Y) (p q : Position) (x : X) (y : Y) → TakesOne grammar p q x → convert x ≡ Some y → TakesOne (so grammar convert) p q y
unfolding so ◌>>=◌
takes_so grammar convert p q x y t e = record { value = t.value; begins = t.begins; reads = rw t.reads e; levels = t.levels; mode = t.mode }

so_none : {X Y : Type 0} (grammar : Value → Option X) (convert : X → Option Y) (p : Position) → NoneStands grammar p → NoneStands (so grammar convert) p
unfolding so ◌>>=◌
so_none grammar convert p n v rest b = rw (n v rest b) refl

pub refuses_so : {X Y : Type 0} (grammar : Value → Option X) (convert : X → Option Y) (p : Position) (e : DecodeError) → Refuses grammar p e → Refuses (so grammar convert) p e
unfolding Refuses
refuses_so grammar convert p Malformed n = so_none grammar convert p n
refuses_so grammar convert p OutOfMemory n = tt

convert_none : {X Y : Type 0} (grammar : Value → Option X) (convert : X → Option Y) (p q : Position) (x : X) → TakesOne grammar p q x → convert x ≡ None → NoneStands (so grammar convert) p
unfolding so ◌>>=◌
convert_none grammar convert p q x t e v rest b =
    let s = at_most_one p.mode p.here v t.value rest q.here b t.begins in
    let read : grammar v ≡ Some x = ap grammar s.value ∙ t.reads in rw read e

pub refuses_convert : {X Y : Type 0} (grammar : Value → Option X) (convert : X → Option Y) (p q : Position) (x : X) → TakesOne grammar p q x → convert x ≡ None → Refuses (so grammar convert) p Malformed
unfolding Refuses
refuses_convert grammar convert p q x t e = convert_none grammar convert p q x t e

-- ---- what a call leaves

pub takes_smaller : {X : Type 0} (field : Value → Option X) (p q : Position) (x : X) → TakesOne field p q x → length q.here < length p.here
takes_smaller field p q x t = smaller_over p.mode p.here t.value q.here t.begins

-- a level was entered
pub can_leave : (tag : List ℕ) (s p : Position) (q : Position) → Goes tag s p → q.levels ≡ p.levels → q.levels ≡ [] → ⊥
can_leave tag s p q g e n = let no' : g.level ∷ s.levels ≡ [] = sym g.levels ∙ sym e ∙ n in cc

pub not_ended : {P : Type 0} → (IsTrue false ↔ P) → P → ⊥
not_ended w p = let e : false ≡ true = w.1 p in cc

-- a level at its end can be left
pub never_refused : {A : Type 0} (p : Position) (e : DecodeError) → AtEnd p → RefusesToLeave p e → A
never_refused p Malformed a n = absurd (n a)
never_refused p OutOfMemory a n = absurd n

-- ---- a cursor before the first value

pub decodes : {X Y : Type 0} (grammar : Value → Option X) (view : Y → X) (mode : Mode) (octets : List ℕ) (old new : Position) (r : Result Y DecodeError) → old ≡ record { mode = mode; here = octets; levels = [] } → Takes grammar view old new r → Decodes grammar view mode octets r
unfolding Refuses RefusesOctets
decodes grammar view mode octets old new (Ok y) e t = record { value = t.value; rest = new.here; begins = subst (λ (p : Position). Begins p.mode p.here t.value new.here) e t.begins; reads = t.reads }
decodes grammar view mode octets old new (Err Malformed) e n = λ v rest b. n v rest (subst (λ (p : Position). Begins p.mode p.here v rest) (sym e) b)
decodes grammar view mode octets old new (Err OutOfMemory) e n = tt

pub ruleset reading = (takes_err, takes_within, refuses_inside, refuses_within, reads_first, stops_later, stops_first, reads_part, stops_behind, stops_part, takes_part_err, reads_done, stops_done, takes_so, refuses_so, refuses_convert)
