-- The octets of a level's values, with counted calls.
use Rattle.std.proofs.Common.{◌≡◌, ℕ, ◌+◌, ◌-◌, Option, Some, Result, Ok, Err, Bor, List, ◌∷◌, ◌++◌, length, refl, sym, ap, ◌∙◌, arith, length-append}
use Rattle.std.specs.Prelude.{IfOk, OnOk, MatchResult}
use Rattle.std.proofs.lemmas.List.{take_at, take_all}
use Rattle.rpki_common.specs.Chaining.{◌>>=◌}
use Rattle.rpki_der.specs.declared.error.DecodeError.{DecodeError}
use Rattle.rpki_der.specs.declared.error.DecodeError.TheVariants.{Malformed, OutOfMemory}
use Rattle.rpki_der.specs.declared.mode.Mode.{Mode}
use Rattle.rpki_der.specs.Value.{Value, spelling, Values, spellings}
use Rattle.rpki_der.specs.Level.{Level, Sized, Marked, EndsLevel, LevelHolds}
use Rattle.rpki_der.specs.Position.{Position, top, AtEnd, Leaves}
use Rattle.rpki_der.specs.Grammar.{any, every, anything}
use Rattle.rpki_der.specs.Takes.{Refuses, RefusesToLeave, Stops}
use Rattle.rpki_der.specs.Ticks.{marks, CountedOne, CountedRefuses, CountedReads, CountedStops, TakesRestCounted}
use Rattle.rpki_der.specs.Held.{held, as_octets, octets_of, with_octets, up_to}
use Rattle.rpki_der.proofs.Counting.{CountedContinues, reads_end}
use Rattle.rpki_der.proofs.Leftovers.{passed_over}
use Rattle.rpki_common.proofs.Truths.{some_none}

-- where the level is at its end, what stands before it are the octets of its values
pub contents_are : (mode : Mode) (level : Level) (here : List ℕ) (vs : Values) (rest end' : List ℕ) → LevelHolds mode level here vs rest → EndsLevel level end' rest → up_to here end' ≡ spellings vs
contents_are mode (Sized after) here vs rest end' h e =
    let size : length here - length end' ≡ length (spellings vs) = rw (e.0, h.1) (omega arith) in
    rw (size, h.1) (take_all (length (spellings vs)) (spellings vs) (omega arith))
contents_are mode Marked here vs rest end' h e =
    let size : length here - length end' ≡ length (spellings vs) = rw (e, h.1) (omega (arith, length-append (spellings vs) (0 ∷ 0 ∷ rest))) in
    rw (size, h.1) (take_at (spellings vs) (0 ∷ 0 ∷ rest) (length (spellings vs)) refl)

-- ---- fields, with their octets: the cursor began at p, stood at e, at the level's end, and left to q

pub reads_held : {X : Type 0} (c k : ℕ) (f : Values → Option X) (p e q : Position) (b a : ℕ) (x : X) → top e.levels ≡ top p.levels → Leaves e q → CountedReads c k f p q b a x → CountedReads c k (held f) p q b a (up_to p.here e.here, x)
unfolding held ◌>>=◌
reads_held c k f p e q b a x l ends r = record {
  reads = record {
    values = r.reads.values;
    holds = r.reads.holds;
    reads = rw r.reads.reads (ap (λ o. Some (o, x)) (sym (contents_are p.mode (top p.levels) p.here r.reads.values q.here e.here r.reads.holds (rw l at ends.ends))));
    levels = r.reads.levels;
    mode = r.reads.mode;
  };
  least = r.least;
  most = r.most;
}

none_held : {X : Type 0} (f : Values → Option X) (p : Position) (e : DecodeError) → Stops f p e → Stops (held f) p e
unfolding held Stops ◌>>=◌
none_held f p Malformed n = record { none = λ vs rest h. rw (n.none vs rest h) refl }
none_held f p OutOfMemory n = tt

pub stops_held : {X : Type 0} (c k : ℕ) (f : Values → Option X) (p : Position) (b a : ℕ) (e : DecodeError) → CountedStops c k f p b a e → CountedStops c k (held f) p b a e
stops_held c k f p b a e n = record { stops = none_held f p e n.stops; least = n.least; most = n.most }

-- ---- any values

octets_read : (c k : ℕ) (p e q : Position) (b a : ℕ) (octets : List ℕ) → top e.levels ≡ top p.levels → Leaves e q → octets ≡ up_to p.here e.here → CountedReads c k anything p q b a tt → CountedReads c k as_octets p q b a octets
octets_read c k p e q b a octets l ends is r = record {
  reads = record {
    values = r.reads.values;
    holds = r.reads.holds;
    reads = ap Some (sym (is ∙ contents_are p.mode (top p.levels) p.here r.reads.values q.here e.here r.reads.holds (rw l at ends.ends)));
    levels = r.reads.levels;
    mode = r.reads.mode;
  };
  least = r.least;
  most = r.most;
}

only_octets : (p : Position) (e : DecodeError) → Stops anything p e → Stops as_octets p e
unfolding Stops
only_octets p Malformed n = record { none = λ vs rest h. absurd (some_none tt (n.none vs rest h)) }
only_octets p OutOfMemory n = tt

pub stops_octets : (c k : ℕ) (p : Position) (b a : ℕ) (e : DecodeError) → CountedStops c k anything p b a e → CountedStops c k as_octets p b a e
stops_octets c k p b a e n = record { stops = only_octets p e n.stops; least = n.least; most = n.most }

pub rest_octets : (p e q : Position) (b m a : ℕ) (octets : List ℕ) → CountedContinues 1 anything p b (λ vs. every any vs >>= passed_over) e m → Leaves e q → a ≡ m + marks (top e.levels) → octets ≡ up_to p.here e.here → CountedReads 1 0 as_octets p q b a octets
rest_octets p e q b m a octets w l t is =
    octets_read 1 0 p e q b a octets (ap top w.levels) l is (w.reads 0 q a tt (reads_end 1 any passed_over e q m a tt refl l t refl))

pub rest_left : (p e q : Position) (b m a : ℕ) (start : List ℕ) (r : Result (Bor (List ℕ)) DecodeError) → CountedContinues 1 anything p b (λ vs. every any vs >>= passed_over) e m → AtEnd e → start ≡ p.here → MatchResult r (λ _. Leaves e q) (RefusesToLeave e) → IfOk r (λ x. x.now ≡ up_to start e.here) → OnOk r (a ≡ m + marks (top e.levels)) → TakesRestCounted 1 0 as_octets (λ x. x.now) p q b a r
rest_left p e q b m a start (Ok x) w n s l is t = rest_octets p e q b m a x.now w l t (is ∙ ap (λ o. up_to o e.here) s)
rest_left p e q b m a start (Err Malformed) w n s l is t = absurd (l n)
rest_left p e q b m a start (Err OutOfMemory) w n s l is t = absurd l

-- ---- one value, with its octets: the cursor stood at p before it, and stands at q behind it

value_octets : (here : List ℕ) (v : Value) (rest : List ℕ) → here ≡ spelling v ++ rest → up_to here rest ≡ spelling v
value_octets here v rest e =
    let size : length here - length rest ≡ length (spelling v) = rw e (omega (arith, length-append (spelling v) rest)) in
    rw (size, e) (take_at (spelling v) rest (length (spelling v)) refl)

pub takes_octets_of : {X : Type 0} (c : ℕ) (grammar : Value → Option X) (p q : Position) (b a : ℕ) (x : X) (octets : List ℕ) → octets ≡ up_to p.here q.here → CountedOne c grammar p q b a x → CountedOne c (octets_of grammar) p q b a octets
unfolding octets_of ◌>>=◌
takes_octets_of c grammar p q b a x octets e t = record {
  takes = record {
    value = t.takes.value;
    begins = t.takes.begins;
    reads = rw t.takes.reads (ap Some (sym (e ∙ value_octets p.here t.takes.value q.here t.takes.begins.parts)));
    levels = t.takes.levels;
    mode = t.takes.mode;
  };
  least = t.least;
  most = t.most;
}

pub takes_with_octets : {X : Type 0} (c : ℕ) (grammar : Value → Option X) (p q : Position) (b a : ℕ) (x : X) (octets : List ℕ) → octets ≡ up_to p.here q.here → CountedOne c grammar p q b a x → CountedOne c (with_octets grammar) p q b a (octets, x)
unfolding with_octets ◌>>=◌
takes_with_octets c grammar p q b a x octets e t = record {
  takes = record {
    value = t.takes.value;
    begins = t.takes.begins;
    reads = rw t.takes.reads (ap (λ o. Some (o, x)) (sym (e ∙ value_octets p.here t.takes.value q.here t.takes.begins.parts)));
    levels = t.takes.levels;
    mode = t.takes.mode;
  };
  least = t.least;
  most = t.most;
}

none_octets_of : {X : Type 0} (grammar : Value → Option X) (p : Position) (e : DecodeError) → Refuses grammar p e → Refuses (octets_of grammar) p e
unfolding octets_of Refuses ◌>>=◌
none_octets_of grammar p Malformed n = λ v rest h. rw (n v rest h) refl
none_octets_of grammar p OutOfMemory n = tt

none_with_octets : {X : Type 0} (grammar : Value → Option X) (p : Position) (e : DecodeError) → Refuses grammar p e → Refuses (with_octets grammar) p e
unfolding with_octets Refuses ◌>>=◌
none_with_octets grammar p Malformed n = λ v rest h. rw (n v rest h) refl
none_with_octets grammar p OutOfMemory n = tt

pub refuses_octets_of : {X : Type 0} (c : ℕ) (grammar : Value → Option X) (p : Position) (b a : ℕ) (e : DecodeError) → CountedRefuses c grammar p b a e → CountedRefuses c (octets_of grammar) p b a e
refuses_octets_of c grammar p b a e n = record { refuses = none_octets_of grammar p e n.refuses; least = n.least; most = n.most }

pub refuses_with_octets : {X : Type 0} (c : ℕ) (grammar : Value → Option X) (p : Position) (b a : ℕ) (e : DecodeError) → CountedRefuses c grammar p b a e → CountedRefuses c (with_octets grammar) p b a e
refuses_with_octets c grammar p b a e n = record { refuses = none_with_octets grammar p e n.refuses; least = n.least; most = n.most }
