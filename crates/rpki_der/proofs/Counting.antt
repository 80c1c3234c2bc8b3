-- Reading the fields of a constructed value with counted calls: the chain of Reading, which keeps the bounds on ticks beside what was read.
use Rattle.std.proofs.Common.{◌≡◌, ℕ, ◌+◌, ◌-◌, ◌*◌, ◌<◌, ◌≤◌, true, false, Option, None, Some, Result, Ok, Err, List, [], ◌∷◌, length, take, drop, refl, sym, ap, subst, ◌∙◌, arith, length-append}
use Rattle.std.specs.Prelude.{IsErrAnd, nat_lt}
use Rattle.std.proofs.Math.Nat.{mul-le-mul_left, mul-le-mul_right}
use Rattle.std.proofs.lemmas.Bool.{ltb-true, ltb-false}
use Rattle.rpki_der.specs.declared.error.DecodeError.{DecodeError}
use Rattle.rpki_der.specs.declared.error.DecodeError.TheVariants.{Malformed, OutOfMemory}
use Rattle.rpki_der.specs.declared.mode.Mode.{Mode}
use Rattle.rpki_der.specs.Identifier.{IsIdentifier}
use Rattle.rpki_der.specs.Lengths.{IsLength}
use Rattle.rpki_der.specs.Value.{Definite, Indefinite, Value, Primitive, Constructed, Values, End, ◌▸◌, spelling, Begins}
use Rattle.rpki_der.specs.Level.{Level, Sized, Marked, behind_level, EndsLevel, Opens, LevelHolds}
use Rattle.rpki_der.specs.Position.{Position, top, AtEnd, Leaves}
use Rattle.rpki_common.specs.Chaining.{◌>>=◌}
use Rattle.rpki_der.specs.Grammar.{any, so, within, first, done, every, optional, gather}
use Rattle.rpki_der.specs.Takes.{TakesOne, Refuses, Takes, Goes, RefusesToEnter, RefusesToLeave, RefusesOctets, ReadsFields, Stops}
use Rattle.rpki_der.specs.Ticks.{nodes, behind, left, marks, CountedOne, CountedRefuses, TakesCounted, CountedFields, CountedRefusesFields, TakesPartCounted, DecodesCounted, CountedReads, CountedStops}
use Rattle.rpki_der.specs.Reader.{decoded}
use Rattle.rpki_der.proofs.Walks.{opens_back, holds_cons, holds_end, smaller_over}
use Rattle.rpki_der.proofs.Cursors.{slice_of}
use Rattle.rpki_der.proofs.Decoding.{decoded_ok, decoded_none}
use Rattle.rpki_der.proofs.Reading.{Next, Continues}
use Rattle.rpki_der.proofs.Reading as reading

-- ---- numbers

-- from b at x to m at y, and on to a at z
most_on : (c x y z b m a j k : ℕ) → m + c * y ≤ b + c * x + j → a + c * z ≤ m + c * y + k → a + c * z ≤ b + c * x + (j + k)
most_on c x y z b m a j k p q = omega (arith, p, q)

-- one tick over a header, which has two octets
most_into : (c x y b m k : ℕ) → m ≡ b + 1 → y + 2 ≤ x → nat_lt k (2 * c) ≡ true → m + c * y + k ≤ b + c * x
most_into c x y b m k e l t =
    let mono : c * (y + 2) ≤ c * x = mul-le-mul_left c l in
    let less : k < 2 * c = ltb-true k (2 * c) t in
    omega (arith, e, mono, less)

-- at most d for each octet is at most c for each
pub most_wider : (c d x y b m k : ℕ) → nat_lt c d ≡ false → y ≤ x → m + d * y ≤ b + d * x + k → m + c * y ≤ b + c * x + k
most_wider c d x y b m k t l p =
    let e = c - d in
    let is : c ≡ d + e = omega (arith, ltb-false c d t) in
    let mono : e * y ≤ e * x = mul-le-mul_left e l in
    rw is (omega (arith, p, mono))

pub most_refused : (c d x b a k : ℕ) → nat_lt c d ≡ false → a ≤ b + d * x + k + 8 → a ≤ b + c * x + k + 8
most_refused c d x b a k t p = let mono : d * x ≤ c * x = mul-le-mul_right x (ltb-false c d t) in omega (arith, p, mono)

-- ---- octets that are left

some_lengths : (mode : Mode) (l : List ℕ) (n : ℕ) → IsLength mode l n → 1 ≤ length l
some_lengths mode [] n p = absurd p
some_lengths mode (a ∷ l) n p = omega arith

pub some_identifier : (i : List ℕ) → IsIdentifier i → 1 ≤ length i
some_identifier [] p = absurd p
some_identifier (a ∷ i) p = omega arith

pub opens_left : (mode : Mode) (here i : List ℕ) (level : Level) (inner : List ℕ) → Opens mode here i level inner → length inner + behind_level level + 2 ≤ length here
opens_left mode here i (Sized after) inner o = omega (arith, some_identifier i o.0, some_lengths mode o.2 (length inner) o.3, simp length-append at (ap length o.4))
opens_left mode here i Marked inner o = omega (arith, some_identifier i o.0, simp length-append at (ap length o.3))

pub goes_left : (tag : List ℕ) (s p : Position) → Goes tag s p → left p + 2 ≤ left s
goes_left tag s p g = let o = opens_left s.mode s.here g.identifier g.level p.here g.opens in rw g.levels (omega (arith, o))

pub begins_left : (mode : Mode) (here : List ℕ) (v : Value) (rest : List ℕ) → Begins mode here v rest → length rest + 2 ≤ length here
begins_left mode here (Primitive i l c) rest b = omega (arith, some_identifier i b.lawful.0, some_lengths mode l (length c) b.lawful.2, simp length-append at (ap length b.parts))
begins_left mode here (Constructed i (Definite l) vs) rest b = omega (arith, some_identifier i b.lawful.0, some_lengths mode l _ b.lawful.2, simp length-append at (ap length b.parts))
begins_left mode here (Constructed i Indefinite vs) rest b = omega (arith, some_identifier i b.lawful.0, simp length-append at (ap length b.parts))

pub value_left : (p q : Position) (v : Value) → Begins p.mode p.here v q.here → q.levels ≡ p.levels → left q + 2 ≤ left p
value_left p q v b e = rw e (omega (arith, begins_left p.mode p.here v q.here b))

pub ends_left : (levels : List Level) (here next : List ℕ) → EndsLevel (top levels) here next → length next + behind (drop 1 levels) + 2 * marks (top levels) ≤ length here + behind levels
ends_left [] here next e = let a = ap length e.1 in omega (arith, a)
ends_left (Sized after ∷ levels) here next e = let a = ap length e.1 in omega (arith, a)
ends_left (Marked ∷ levels) here next e = let a = ap length e in omega (arith, a)

pub leaves_left : (p q : Position) → Leaves p q → left q + 2 * marks (top p.levels) ≤ left p
leaves_left p q l = rw l.levels (ends_left p.levels p.here q.here l.ends)

holds_left : (mode : Mode) (levels : List Level) (here : List ℕ) (vs : Values) (rest : List ℕ) → LevelHolds mode (top levels) here vs rest → length rest + behind (drop 1 levels) ≤ length here + behind levels
holds_left mode [] here vs rest h = let a = ap length h.2 in omega (arith, a)
holds_left mode (Sized after ∷ levels) here vs rest h = let a = ap length h.2 in omega (arith, a)
holds_left mode (Marked ∷ levels) here vs rest h = let a = simp length-append at (ap length h.1) in omega (arith, a)

pub reads_left : {Y : Type 0} (fields : Values → Option Y) (p q : Position) (y : Y) → ReadsFields fields p q y → left q ≤ left p
reads_left fields p q y r = rw r.levels (holds_left p.mode p.levels p.here r.values q.here r.holds)

-- ---- one value

-- a primitive value, or any that is read by one header
pub counted_one : {X : Type 0} (grammar : Value → Option X) (old new : Position) (before after : ℕ) (x : X) (i l k : List ℕ) → Begins old.mode old.here (Primitive i l k) new.here → grammar (Primitive i l k) ≡ Some x → new.levels ≡ old.levels → new.mode ≡ old.mode → after ≡ before + 1 → CountedOne 1 grammar old new before after x
counted_one grammar old new before after x i l k b r e m t = record {
  takes = record {
    value = Primitive i l k;
    begins = b;
    reads = r;
    levels = e;
    mode = m;
  };
  least = omega (arith, t);
  most = omega (arith, t, value_left old new (Primitive i l k) b e);
}

pub refuses_at_once : {X : Type 0} (c : ℕ) (grammar : Value → Option X) (old : Position) (before after : ℕ) (error : DecodeError) → Refuses grammar old error → after ≡ before + 1 → CountedRefuses c grammar old before after error
refuses_at_once c grammar old before after error r t = record { refuses = r; least = omega (arith, t); most = omega (arith, t) }

-- the value that was read, without its ticks
pub uncounted_one : {X : Type 0} (c : ℕ) (grammar : Value → Option X) (old new : Position) (before after : ℕ) (x : X) → CountedOne c grammar old new before after x → TakesOne grammar old new x
uncounted_one c grammar old new before after x t = t.takes

-- the clause of a call that counts nothing
pub uncounted : {X Y : Type 0} (c : ℕ) (grammar : Value → Option X) (view : Y → X) (old new : Position) (before after : ℕ) (r : Result Y DecodeError) → TakesCounted c grammar view old new before after r → Takes grammar view old new r
uncounted c grammar view old new before after (Ok y) t = uncounted_one c grammar old new before after (view y) t
uncounted c grammar view old new before after (Err e) t = t.refuses

-- ---- the exit of a `?`

pub takes_err : {X Y : Type 0} (c : ℕ) (grammar : Value → Option X) (view : Y → X) (old new : Position) (before after : ℕ) (error : DecodeError) (r : Result Y DecodeError) → IsErrAnd r (λ e. e ≡ error) → CountedRefuses c grammar old before after error → TakesCounted c grammar view old new before after r
takes_err c g view old new before after error (Ok y) h n = absurd h
takes_err c g view old new before after error (Err e) h n = subst (CountedRefuses c g old before after) (sym h) n

pub takes_part_err : {X Y : Type 0} (c k : ℕ) (fields : Values → Option (X × Values)) (view : Y → X) (old new : Position) (before after : ℕ) (error : DecodeError) (r : Result Y DecodeError) → IsErrAnd r (λ e. e ≡ error) → CountedRefusesFields c k fields old before after error → TakesPartCounted c k fields view old new before after r
takes_part_err c k f view old new before after error (Ok y) h n = absurd h
takes_part_err c k f view old new before after error (Err e) h n = subst (CountedRefusesFields c k f old before after) (sym h) n

-- ---- a constructed value

pub takes_within : {Y : Type 0} (c k : ℕ) (tag : List ℕ) (fields : Values → Option Y) (s p q : Position) (b m a : ℕ) (y : Y) → nat_lt k (2 * c) ≡ true → Goes tag s p → m ≡ b + 1 → CountedReads c k fields p q m a y → CountedOne c (within tag fields) s q b a y
unfolding within
takes_within c k tag fields s p q b m a y fits g t r =
    let w = opens_back s.mode s.here g.identifier g.level p.here r.reads.values q.here g.opens (rw (g.mode, g.levels) at r.reads.holds) in
    let into = most_into c (left s) (left p) b m k t (goes_left tag s p g) fits in
    record {
      takes = record {
        value = Constructed g.identifier w.form r.reads.values;
        begins = w.begins;
        reads = rw g.tagged r.reads.reads;
        levels = r.reads.levels ∙ ap (drop 1) g.levels;
        mode = r.reads.mode ∙ g.mode;
      };
      least = omega (arith, t, r.least);
      most = omega (arith, into, r.most);
    }

pub refuses_inside : {Y : Type 0} (c k : ℕ) (tag : List ℕ) (fields : Values → Option Y) (s p : Position) (b m a : ℕ) (e : DecodeError) → nat_lt k (2 * c) ≡ true → Goes tag s p → m ≡ b + 1 → CountedStops c k fields p m a e → CountedRefuses c (within tag fields) s b a e
refuses_inside c k tag fields s p b m a e fits g t n =
    let into = most_into c (left s) (left p) b m k t (goes_left tag s p g) fits in
    record { refuses = reading.refuses_inside tag fields s p e g n.stops; least = omega (arith, t, n.least); most = omega (arith, into, n.most) }

pub refuses_within : {Y : Type 0} (c : ℕ) (tag : List ℕ) (fields : Values → Option Y) (s : Position) (b a : ℕ) (e : DecodeError) → RefusesToEnter tag s e → a ≡ b + 1 → CountedRefuses c (within tag fields) s b a e
refuses_within c tag fields s b a e n t = record { refuses = reading.refuses_within tag fields s e n; least = omega (arith, t); most = omega (arith, t) }

-- ---- a field

field_most : {X : Type 0} (c d : ℕ) (field : Value → Option X) (p p' : Position) (b m : ℕ) (x : X) → nat_lt c d ≡ false → CountedOne d field p p' b m x → m + c * left p' ≤ b + c * left p
field_most c d field p p' b m x fits t =
    let on = value_left p p' t.takes.value t.takes.begins t.takes.levels in
    let w = most_wider c d (left p) (left p') b m 0 fits (omega (arith, on)) (omega (arith, t.most)) in omega (arith, w)

pub reads_first : {X Y : Type 0} (c d k : ℕ) (field : Value → Option X) (next : X × Values → Option Y) (p p' q : Position) (b m a : ℕ) (x : X) (y : Y) → nat_lt c d ≡ false → CountedOne d field p p' b m x → CountedReads c k (λ vs. next (x, vs)) p' q m a y → CountedReads c k (λ vs. first field vs >>= next) p q b a y
unfolding first ◌>>=◌
reads_first c d k field next p p' q b m a x y fits t r = record {
  reads = record {
    values = t.takes.value ▸ r.reads.values;
    holds = holds_cons p.mode (top p.levels) p.here p'.here t.takes.value r.reads.values q.here t.takes.begins (rw (t.takes.mode, t.takes.levels) at r.reads.holds);
    reads = rw t.takes.reads r.reads.reads;
    levels = r.reads.levels ∙ ap (drop 1) t.takes.levels;
    mode = r.reads.mode ∙ t.takes.mode;
  };
  least = omega (arith, t.least, r.least);
  most = omega (arith, field_most c d field p p' b m x fits t, r.most);
}

pub stops_later : {X Y : Type 0} (c d k : ℕ) (field : Value → Option X) (next : X × Values → Option Y) (p p' : Position) (b m a : ℕ) (x : X) (e : DecodeError) → nat_lt c d ≡ false → CountedOne d field p p' b m x → CountedStops c k (λ vs. next (x, vs)) p' m a e → CountedStops c k (λ vs. first field vs >>= next) p b a e
stops_later c d k field next p p' b m a x e fits t n = record {
  stops = reading.stops_later field next p p' x e t.takes n.stops;
  least = omega (arith, t.least, n.least);
  most = omega (arith, field_most c d field p p' b m x fits t, n.most);
}

pub stops_first : {X Y : Type 0} (c d : ℕ) (field : Value → Option X) (next : X × Values → Option Y) (p : Position) (b a : ℕ) (e : DecodeError) → nat_lt c d ≡ false → CountedRefuses d field p b a e → CountedStops c 0 (λ vs. first field vs >>= next) p b a e
stops_first c d field next p b a e fits n = record {
  stops = reading.stops_first field next p e n.refuses;
  least = n.least;
  most = let w = most_refused c d (left p) b a 0 fits (omega (arith, n.most)) in w;
}

-- ---- fields of another kind than one value

part_most : {X : Type 0} (c d j : ℕ) (fields : Values → Option (X × Values)) (p p' : Position) (b m : ℕ) (x : X) → nat_lt c d ≡ false → CountedFields d j fields p p' b m x → m + c * left p' ≤ b + c * left p + j
part_most c d j fields p p' b m x fits t = most_wider c d (left p) (left p') b m j fits t.on t.most

pub reads_part : {X Y : Type 0} (c d j k : ℕ) (fields : Values → Option (X × Values)) (next : X × Values → Option Y) (p p' q : Position) (b m a : ℕ) (x : X) (y : Y) → nat_lt c d ≡ false → CountedFields d j fields p p' b m x → CountedReads c k (λ vs. next (x, vs)) p' q m a y → CountedReads c (j + k) (λ vs. fields vs >>= next) p q b a y
unfolding ◌>>=◌
reads_part c d j k fields next p p' q b m a x y fits t r =
    let w = t.takes.reads r.reads.values q.here r.reads.holds in
    record {
      reads = record {
        values = w.0;
        holds = w.1;
        reads = rw w.2 r.reads.reads;
        levels = r.reads.levels ∙ ap (drop 1) t.takes.levels;
        mode = r.reads.mode ∙ t.takes.mode;
      };
      least = omega (arith, t.least r.reads.values q.here r.reads.holds, r.least);
      most = omega (arith, part_most c d j fields p p' b m x fits t, r.most);
    }

pub stops_behind : {X Y : Type 0} (c d j k : ℕ) (fields : Values → Option (X × Values)) (next : X × Values → Option Y) (p p' : Position) (b m a : ℕ) (x : X) (e : DecodeError) → nat_lt c d ≡ false → CountedFields d j fields p p' b m x → CountedStops c k (λ vs. next (x, vs)) p' m a e → CountedStops c (j + k) (λ vs. fields vs >>= next) p b a e
stops_behind c d j k fields next p p' b m a x e fits t n = record {
  stops = reading.stops_behind fields next p p' x e t.takes n.stops;
  least = omega (arith, t.later, n.least);
  most = omega (arith, part_most c d j fields p p' b m x fits t, n.most);
}

pub stops_part : {X Y : Type 0} (c d j : ℕ) (fields : Values → Option (X × Values)) (next : X × Values → Option Y) (p : Position) (b a : ℕ) (e : DecodeError) → nat_lt c d ≡ false → CountedRefusesFields d j fields p b a e → CountedStops c j (λ vs. fields vs >>= next) p b a e
stops_part c d j fields next p b a e fits n = record {
  stops = reading.stops_part fields next p e n.refuses;
  least = n.least;
  most = most_refused c d (left p) b a j fits n.most;
}

-- ---- an optional field; without it one tick may have gone into a look at the identifier that stands there

pub takes_optional : {X : Type 0} (c : ℕ) (tag : List ℕ) (field : Value → Option X) (p q : Position) (b a : ℕ) (x : X) → Next tag p true → CountedOne c field p q b a x → CountedFields c 1 (optional tag field) p q b a (Some x)
takes_optional c tag field p q b a x n t =
    record {
      takes = record {
        reads = λ vs rest h. (t.takes.value ▸ vs, holds_cons p.mode (top p.levels) p.here q.here t.takes.value vs rest t.takes.begins (rw (t.takes.mode, t.takes.levels) at h), reading.optional_some_reads tag field t.takes.value vs x (n t.takes.value q.here t.takes.begins) t.takes.reads);
        only = (reading.takes_optional tag field p q x n t.takes).only;
        levels = t.takes.levels;
        mode = t.takes.mode;
      };
      least = λ vs rest h. omega (arith, t.least);
      later = omega (arith, t.least);
      on = omega (arith, value_left p q t.takes.value t.takes.begins t.takes.levels);
      most = omega (arith, t.most);
    }

pub takes_optional_none : {X : Type 0} (c : ℕ) (tag : List ℕ) (field : Value → Option X) (p : Position) (b a : ℕ) → b ≤ a → a ≤ b + 1 → Next tag p false → CountedFields c 1 (optional tag field) p p b a None
takes_optional_none c tag field p b a low high n =
    record {
      takes = record {
        reads = λ vs rest h. (vs, h, reading.optional_none_reads tag field p n vs rest h);
        only = (reading.takes_optional_none tag field p n).only;
        levels = refl;
        mode = refl;
      };
      least = λ vs rest h. omega (arith, low);
      later = low;
      on = omega arith;
      most = omega (arith, high);
    }

pub refuses_optional : {X : Type 0} (c : ℕ) (tag : List ℕ) (field : Value → Option X) (p : Position) (b a : ℕ) (e : DecodeError) → Next tag p true → (AtEnd p → ⊥) → CountedRefuses c field p b a e → CountedRefusesFields c 1 (optional tag field) p b a e
refuses_optional c tag field p b a e n more none = record { refuses = reading.refuses_optional tag field p e n more none.refuses; least = none.least; most = omega (arith, none.most) }

-- ---- the end of the fields

leaves_most : (c : ℕ) (p q : Position) (b a : ℕ) → nat_lt 0 c ≡ true → Leaves p q → a ≡ b + marks (top p.levels) → a + c * left q ≤ b + c * left p
leaves_most c p q b a fits l t =
    let n = marks (top p.levels) in
    let mono : c * (left q + 2 * n) ≤ c * left p = mul-le-mul_left c (leaves_left p q l) in
    let some : 1 * n ≤ c * n = mul-le-mul_right n (omega (arith, ltb-true 0 c fits)) in
    omega (arith, t, mono, some)

pub reads_done : {Y : Type 0} (c : ℕ) (p q : Position) (b a : ℕ) (y : Y) → nat_lt 0 c ≡ true → Leaves p q → a ≡ b + marks (top p.levels) → CountedReads c 0 (λ vs. done y vs) p q b a y
unfolding done
reads_done c p q b a y fits l t =
    record {
      reads = record {
        values = End;
        holds = holds_end p.mode (top p.levels) p.here q.here l.ends;
        reads = refl;
        levels = l.levels;
        mode = l.mode;
      };
      least = omega (arith, t);
      most = omega (arith, leaves_most c p q b a fits l t);
    }

pub stops_done : {Y : Type 0} (c : ℕ) (p : Position) (b a : ℕ) (y : Y) (e : DecodeError) → RefusesToLeave p e → a ≡ b → CountedStops c 0 (λ vs. done y vs) p b a e
stops_done c p b a y e n t = record { stops = reading.stops_done p y e n; least = omega (arith, t); most = omega (arith, t) }

-- ---- a conversion

pub takes_so : {X Y : Type 0} (c : ℕ) (grammar : Value → Option X) (convert : X → Option Y) (p q : Position) (b a : ℕ) (x : X) (y : Y) → CountedOne c grammar p q b a x → convert x ≡ Some y → CountedOne c (so grammar convert) p q b a y
unfolding so ◌>>=◌
takes_so c grammar convert p q b a x y t e = record { takes = record { value = t.takes.value; begins = t.takes.begins; reads = rw t.takes.reads e; levels = t.takes.levels; mode = t.takes.mode }; least = t.least; most = t.most }

pub refuses_so : {X Y : Type 0} (c : ℕ) (grammar : Value → Option X) (convert : X → Option Y) (p : Position) (b a : ℕ) (e : DecodeError) → CountedRefuses c grammar p b a e → CountedRefuses c (so grammar convert) p b a e
refuses_so c grammar convert p b a e n = record { refuses = reading.refuses_so grammar convert p e n.refuses; least = n.least; most = n.most }

pub refuses_convert : {X Y : Type 0} (c : ℕ) (grammar : Value → Option X) (convert : X → Option Y) (p q : Position) (b a : ℕ) (x : X) → CountedOne c grammar p q b a x → convert x ≡ None → CountedRefuses c (so grammar convert) p b a Malformed
refuses_convert c grammar convert p q b a x t e = record {
  refuses = reading.refuses_convert grammar convert p q x t.takes e;
  least = omega (arith, t.least);
  most = let none : a + c * left q ≤ b + c * left p = t.most in omega (arith, none);
}

-- ---- want of memory between the calls

pub stops_memory : {Y : Type 0} (c : ℕ) (fields : Values → Option Y) (p : Position) (b a : ℕ) → a ≡ b → CountedStops c 0 fields p b a OutOfMemory
unfolding Stops
stops_memory c fields p b a t = record { stops = tt; least = omega (arith, t); most = omega (arith, t) }

pub refuses_memory : {X : Type 0} (c : ℕ) (grammar : Value → Option X) (p q : Position) (b a : ℕ) (x : X) → CountedOne c grammar p q b a x → {Y : Type 0} (grammar' : Value → Option Y) → CountedRefuses c grammar' p b a OutOfMemory
unfolding Refuses
refuses_memory c grammar p q b a x t grammar' = record { refuses = tt; least = omega (arith, t.least); most = let none : a + c * left q ≤ b + c * left p = t.most in omega (arith, none) }

-- ---- any number of values

-- Reading on at p', by fields', is reading on at p, by fields; so far there were at most c ticks for each octet, and one for each value at least.
pub record CountedContinues {Y : Type 0} (c : ℕ) (fields : Values → Option Y) (p : Position) (b : ℕ) (fields' : Values → Option Y) (p' : Position) (m : ℕ) : Type 0 where
  pub reads : (k : ℕ) (q : Position) (a : ℕ) (y : Y) → CountedReads c k fields' p' q m a y → CountedReads c k fields p q b a y
  pub stops : (k a : ℕ) (e : DecodeError) → CountedStops c k fields' p' m a e → CountedStops c k fields p b a e
  pub levels : p'.levels ≡ p.levels
  pub mode : p'.mode ≡ p.mode

pub continues_here : {Y : Type 0} (c : ℕ) (fields : Values → Option Y) (p : Position) (b : ℕ) → CountedContinues c fields p b fields p b
continues_here c fields p b = record { reads = λ k q a y r. r; stops = λ k a e n. n; levels = refl; mode = refl }

reads_item : {X Y : Type 0} (c d k : ℕ) (field : Value → Option X) (next : List X → Option Y) (p p' q : Position) (b m a : ℕ) (x : X) (y : Y) → nat_lt c d ≡ false → CountedOne d field p p' b m x → CountedReads c k (λ vs. every field vs >>= λ xs. next (x ∷ xs)) p' q m a y → CountedReads c k (λ vs. every field vs >>= next) p q b a y
reads_item c d k field next p p' q b m a x y fits t r = record {
  reads = record {
    values = t.takes.value ▸ r.reads.values;
    holds = holds_cons p.mode (top p.levels) p.here p'.here t.takes.value r.reads.values q.here t.takes.begins (rw (t.takes.mode, t.takes.levels) at r.reads.holds);
    reads = reading.item_reads field next t.takes.value r.reads.values x y t.takes.reads r.reads.reads;
    levels = r.reads.levels ∙ ap (drop 1) t.takes.levels;
    mode = r.reads.mode ∙ t.takes.mode;
  };
  least = omega (arith, t.least, r.least);
  most = omega (arith, field_most c d field p p' b m x fits t, r.most);
}

stops_after : {X Y : Type 0} (c d k : ℕ) (field : Value → Option X) (next : List X → Option Y) (p p' : Position) (b m a : ℕ) (x : X) (e : DecodeError) → nat_lt c d ≡ false → CountedOne d field p p' b m x → CountedStops c k (λ vs. every field vs >>= λ xs. next (x ∷ xs)) p' m a e → CountedStops c k (λ vs. every field vs >>= next) p b a e
stops_after c d k field next p p' b m a x e fits t n = record {
  stops = reading.stops_after field next p p' x e t.takes n.stops;
  least = omega (arith, t.least, n.least);
  most = omega (arith, field_most c d field p p' b m x fits t, n.most);
}

pub continues_item : {X Y : Type 0} (c d : ℕ) (fields : Values → Option Y) (p : Position) (b : ℕ) (field : Value → Option X) (next : List X → Option Y) (p' p'' : Position) (m n : ℕ) (x : X) → nat_lt c d ≡ false → CountedContinues c fields p b (λ vs. every field vs >>= next) p' m → CountedOne d field p' p'' m n x → CountedContinues c fields p b (λ vs. every field vs >>= λ xs. next (x ∷ xs)) p'' n
continues_item c d fields p b field next p' p'' m n x fits s t = record {
  reads = λ k q a y r. s.reads k q a y (reads_item c d k field next p' p'' q m n a x y fits t r);
  stops = λ k a e w. s.stops k a e (stops_after c d k field next p' p'' m n a x e fits t w);
  levels = t.takes.levels ∙ s.levels;
  mode = t.takes.mode ∙ s.mode;
}

pub reads_end : {X Y : Type 0} (c : ℕ) (field : Value → Option X) (next : List X → Option Y) (p q : Position) (b a : ℕ) (y : Y) → nat_lt 0 c ≡ true → Leaves p q → a ≡ b + marks (top p.levels) → next [] ≡ Some y → CountedReads c 0 (λ vs. every field vs >>= next) p q b a y
unfolding every ◌>>=◌
reads_end c field next p q b a y fits l t e = record {
  reads = record {
    values = End;
    holds = holds_end p.mode (top p.levels) p.here q.here l.ends;
    reads = e;
    levels = l.levels;
    mode = l.mode;
  };
  least = omega (arith, t);
  most = omega (arith, leaves_most c p q b a fits l t);
}

pub stops_item : {X Y : Type 0} (c d : ℕ) (field : Value → Option X) (next : List X → Option Y) (p : Position) (b a : ℕ) (e : DecodeError) → nat_lt c d ≡ false → (AtEnd p → ⊥) → CountedRefuses d field p b a e → CountedStops c 0 (λ vs. every field vs >>= next) p b a e
stops_item c d field next p b a e fits more n = record {
  stops = reading.stops_item field next p e more n.refuses;
  least = n.least;
  most = most_refused c d (left p) b a 0 fits (omega (arith, n.most));
}

-- ---- what each value in turn changes

reads_step : {S Y : Type 0} (c d k : ℕ) (step : S → Value → Option S) (next : S → Option Y) (s t : S) (p p' q : Position) (b m a : ℕ) (y : Y) → nat_lt c d ≡ false → CountedOne d (step s) p p' b m t → CountedReads c k (λ vs. gather step t vs >>= next) p' q m a y → CountedReads c k (λ vs. gather step s vs >>= next) p q b a y
unfolding gather ◌>>=◌
reads_step c d k step next s t p p' q b m a y fits w r = record {
  reads = record {
    values = w.takes.value ▸ r.reads.values;
    holds = holds_cons p.mode (top p.levels) p.here p'.here w.takes.value r.reads.values q.here w.takes.begins (rw (w.takes.mode, w.takes.levels) at r.reads.holds);
    reads = rw w.takes.reads r.reads.reads;
    levels = r.reads.levels ∙ ap (drop 1) w.takes.levels;
    mode = r.reads.mode ∙ w.takes.mode;
  };
  least = omega (arith, w.least, r.least);
  most = omega (arith, field_most c d (step s) p p' b m t fits w, r.most);
}

stops_step_on : {S Y : Type 0} (c d k : ℕ) (step : S → Value → Option S) (next : S → Option Y) (s t : S) (p p' : Position) (b m a : ℕ) (e : DecodeError) → nat_lt c d ≡ false → CountedOne d (step s) p p' b m t → CountedStops c k (λ vs. gather step t vs >>= next) p' m a e → CountedStops c k (λ vs. gather step s vs >>= next) p b a e
stops_step_on c d k step next s t p p' b m a e fits w n = record {
  stops = reading.stops_step_on step next s t p p' e w.takes n.stops;
  least = omega (arith, w.least, n.least);
  most = omega (arith, field_most c d (step s) p p' b m t fits w, n.most);
}

pub continues_step : {S Y : Type 0} (c d : ℕ) (fields : Values → Option Y) (p : Position) (b : ℕ) (step : S → Value → Option S) (next : S → Option Y) (s t : S) (p' p'' : Position) (m n : ℕ) → nat_lt c d ≡ false → CountedContinues c fields p b (λ vs. gather step s vs >>= next) p' m → CountedOne d (step s) p' p'' m n t → CountedContinues c fields p b (λ vs. gather step t vs >>= next) p'' n
continues_step c d fields p b step next s t p' p'' m n fits w h = record {
  reads = λ k q a y r. w.reads k q a y (reads_step c d k step next s t p' p'' q m n a y fits h r);
  stops = λ k a e u. w.stops k a e (stops_step_on c d k step next s t p' p'' m n a e fits h u);
  levels = h.takes.levels ∙ w.levels;
  mode = h.takes.mode ∙ w.mode;
}

pub reads_gathered : {S Y : Type 0} (c : ℕ) (step : S → Value → Option S) (next : S → Option Y) (s : S) (p q : Position) (b a : ℕ) (y : Y) → nat_lt 0 c ≡ true → Leaves p q → a ≡ b + marks (top p.levels) → next s ≡ Some y → CountedReads c 0 (λ vs. gather step s vs >>= next) p q b a y
unfolding gather ◌>>=◌
reads_gathered c step next s p q b a y fits l t e = record {
  reads = record {
    values = End;
    holds = holds_end p.mode (top p.levels) p.here q.here l.ends;
    reads = e;
    levels = l.levels;
    mode = l.mode;
  };
  least = omega (arith, t);
  most = omega (arith, leaves_most c p q b a fits l t);
}

pub stops_step : {S Y : Type 0} (c d : ℕ) (step : S → Value → Option S) (next : S → Option Y) (s : S) (p : Position) (b a : ℕ) (e : DecodeError) → nat_lt c d ≡ false → (AtEnd p → ⊥) → CountedRefuses d (step s) p b a e → CountedStops c 0 (λ vs. gather step s vs >>= next) p b a e
stops_step c d step next s p b a e fits more n = record {
  stops = reading.stops_step step next s p e more n.refuses;
  least = n.least;
  most = most_refused c d (left p) b a 0 fits (omega (arith, n.most));
}

pub stops_gathered : {S Y : Type 0} (c : ℕ) (step : S → Value → Option S) (next : S → Option Y) (s : S) (p q : Position) (b a : ℕ) → nat_lt 0 c ≡ true → Leaves p q → a ≡ b + marks (top p.levels) → next s ≡ None → CountedStops c 0 (λ vs. gather step s vs >>= next) p b a Malformed
stops_gathered c step next s p q b a fits l t e = record {
  stops = reading.stops_gathered step next s p q l e;
  least = omega (arith, t);
  most = let w = leaves_most c p q b a fits l t in omega (arith, w);
}

-- ---- what a call leaves

pub takes_smaller : {X : Type 0} (c : ℕ) (field : Value → Option X) (p q : Position) (b a : ℕ) (x : X) → CountedOne c field p q b a x → length q.here < length p.here
takes_smaller c field p q b a x t = smaller_over p.mode p.here t.takes.value q.here t.takes.begins

-- ---- any value

-- the octets of the value are those up to what stands behind it
pub counted_any : (old new : Position) (before after : ℕ) (slice : List ℕ) → (v : Value) × Begins old.mode old.here v new.here × (before + nodes v ≤ after) → slice ≡ take (length old.here - length new.here) old.here → after + length new.here ≤ before + length old.here → new.levels ≡ old.levels → new.mode ≡ old.mode → CountedOne 1 any old new before after slice
counted_any old new before after slice w s t e m = record {
  takes = record {
    value = w.0;
    begins = w.1;
    reads = slice_of old.here w.0 new.here slice old.mode w.1 s;
    levels = e;
    mode = m;
  };
  least = w.2;
  most = rw e (omega (arith, t));
}

-- ---- a cursor before the first value

left_whole : (mode : Mode) (octets : List ℕ) (old : Position) → old ≡ record { mode = mode; here = octets; levels = [] } → left old ≡ length octets
left_whole mode octets old e = rw e (omega arith)

left_after : (new : Position) → new.levels ≡ [] → left new ≡ length new.here
left_after new e = rw e (omega arith)

refuses_whole : {X : Type 0} (grammar : Value → Option X) (mode : Mode) (octets : List ℕ) (old : Position) (error : DecodeError) → old ≡ record { mode = mode; here = octets; levels = [] } → Refuses grammar old error → RefusesOctets grammar mode octets error
unfolding Refuses RefusesOctets
refuses_whole grammar mode octets old Malformed e n = λ v rest b. n v rest (subst (λ (p : Position). Begins p.mode p.here v rest) (sym e) b)
refuses_whole grammar mode octets old OutOfMemory e n = tt

pub decodes : {X Y : Type 0} (c : ℕ) (grammar : Value → Option X) (view : Y → X) (mode : Mode) (octets : List ℕ) (old new : Position) (b a : ℕ) (r : Result Y DecodeError) → old ≡ record { mode = mode; here = octets; levels = [] } → TakesCounted c grammar view old new b a r → DecodesCounted c grammar view mode octets b a r
decodes c grammar view mode octets old new b a (Ok y) e t = record {
  begins = record {
    value = t.takes.value;
    rest = new.here;
    begins = subst (λ (p : Position). Begins p.mode p.here t.takes.value new.here) e t.takes.begins;
    reads = t.takes.reads;
  };
  least = t.least;
  most = rw (left_whole mode octets old e, left_after new (t.takes.levels ∙ ap (λ (p : Position). p.levels) e)) at t.most;
}
decodes c grammar view mode octets old new b a (Err e') e t = record { refuses = refuses_whole grammar mode octets old e' e t.refuses; least = t.least; most = rw (left_whole mode octets old e) at t.most }

-- ---- counted readings with more ticks allowed

pub refuses_wider : {X : Type 0} (c d : ℕ) (grammar : Value → Option X) (p : Position) (b a : ℕ) (e : DecodeError) → nat_lt c d ≡ false → CountedRefuses d grammar p b a e → CountedRefuses c grammar p b a e
refuses_wider c d grammar p b a e fits n = record { refuses = n.refuses; least = n.least; most = let w = most_refused c d (left p) b a 0 fits (omega (arith, n.most)) in omega (arith, w) }

pub takes_wider : {X : Type 0} (c d : ℕ) (grammar : Value → Option X) (p q : Position) (b a : ℕ) (x : X) → nat_lt c d ≡ false → CountedOne d grammar p q b a x → CountedOne c grammar p q b a x
takes_wider c d grammar p q b a x fits t = record { takes = t.takes; least = t.least; most = field_most c d grammar p q b a x fits t }

-- ---- octets that were read, and are read again by a cursor of their own

pub any_slice : (c : ℕ) (p q : Position) (b m : ℕ) (slice : List ℕ) → CountedOne c any p q b m slice → length slice + left q ≤ left p
any_slice c p q b m slice t =
    let is : Some (spelling t.takes.value) ≡ Some slice = t.takes.reads in
    let same : spelling t.takes.value ≡ slice = cc in
    let long = simp length-append at (ap length t.takes.begins.parts) in
    let length' : length (spelling t.takes.value) ≡ length slice = ap length same in
    rw t.takes.levels (omega (arith, long, length'))

pub takes_again : {X Y : Type 0} (c d : ℕ) (outer : Value → Option (List ℕ)) (grammar : Value → Option X) (view : Y → X) (mode : Mode) (p q : Position) (b m a : ℕ) (slice : List ℕ) (r : Result Y DecodeError) → CountedOne c outer p q b m slice → length slice + left q ≤ left p → DecodesCounted d grammar view mode slice m a r → TakesCounted (c + d) (so outer (decoded grammar mode)) view p q b a r
unfolding Refuses RefusesOctets
takes_again c d outer grammar view mode p q b m a slice (Ok y) t l w =
    let mono : d * (length slice + left q) ≤ d * left p = mul-le-mul_left d l in
    let k = takes_so c outer (decoded grammar mode) p q b m slice (view y) t (decoded_ok grammar mode slice (view y) w.begins) in
    record { takes = k.takes; least = omega (arith, k.least, w.least); most = omega (arith, mono, t.most, w.most) }
takes_again c d outer grammar view mode p q b m a slice (Err Malformed) t l w =
    let mono : d * (length slice + left q) ≤ d * left p = mul-le-mul_left d l in
    record { refuses = reading.refuses_convert outer (decoded grammar mode) p q slice t.takes (decoded_none grammar mode slice w.refuses); least = omega (arith, t.least, w.least); most = omega (arith, mono, t.most, w.most) }
takes_again c d outer grammar view mode p q b m a slice (Err OutOfMemory) t l w =
    let mono : d * (length slice + left q) ≤ d * left p = mul-le-mul_left d l in
    record { refuses = tt; least = omega (arith, t.least, w.least); most = omega (arith, mono, t.most, w.most) }
