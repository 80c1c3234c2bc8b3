-- Optional fields: a key identifier read of what a value shows, and the length of a path behind which nothing stands.
use Rattle.std.proofs.Common.{◌≡◌, ℕ, ◌+◌, Bool, true, false, Option, None, Some, Result, Ok, Err, List, refl, ◌∙◌}
use Rattle.std.specs.Prelude.{OnOk, OnErr}
use Rattle.rpki_common.specs.Chaining.{◌>>=◌}
use Rattle.rpki_der.specs.declared.error.DecodeError.{DecodeError}
use Rattle.rpki_der.specs.declared.error.DecodeError.TheVariants.{Malformed, OutOfMemory}
use Rattle.rpki_der.specs.declared.mode.Mode.TheVariants.{Der}
use Rattle.rpki_der.specs.Identifier.{has_tag}
use Rattle.rpki_der.specs.Grammar.{identifier_of, so, first, optional, done}
use Rattle.rpki_der.specs.Item.{item}
use Rattle.rpki_der.specs.Number.{integer, u64}
use Rattle.rpki_der.specs.OctetString.{octets_under}
use Rattle.rpki_der.specs.Tags.{context, integer_tag}
use Rattle.rpki_der.specs.Value.{Value, Primitive, Constructed, Values, End, ◌▸◌}
use Rattle.rpki_der.specs.Level.{LevelHolds}
use Rattle.rpki_der.specs.Position.{Position, top, AtEnd}
use Rattle.rpki_der.specs.Takes.{GoesOut, Stops}
use Rattle.rpki_der.specs.Ticks.{marks, CountedOne, CountedRefuses, CountedReads, CountedStops, TakesRestCounted}
use Rattle.rpki_der.proofs.Walks.{end_holds}
use Rattle.rpki_der.proofs.Counting.{reads_first, reads_done, stops_first, stops_later, stops_done}
use Rattle.rpki_der.proofs.Items.{Converts}
use Rattle.rpki_base.specs.KeyIdentifier.{key_identifier_under}
use Rattle.rpki_idcert.specs.Extensions.{path_length}
use Rattle.rpki_idcert.specs.Shown.{key_shown}

key_is : (v : Value) → has_tag (context 0) (identifier_of v) ≡ true → key_identifier_under (context 0) Der v ≡ key_shown (item v)
unfolding key_identifier_under so octets_under ◌>>=◌
key_is (Primitive i l c) t = rw t refl
key_is (Constructed i f vs) t = refl

pub key_converts : Converts (context 0) (key_identifier_under (context 0) Der) key_shown
key_converts = record { is = key_is }

-- ---- the length of a path

-- a number, and nothing behind it
abbrev number_alone : Values → Option (Unit {0})
number_alone vs = first u64 vs >>= λ length. done tt length.1

no_number : (v : Value) → has_tag integer_tag (identifier_of v) ≡ false → u64 v ≡ None
unfolding u64 integer so ◌>>=◌
no_number (Primitive i l c) t = rw t refl
no_number (Constructed i f vs) t = refl

abbrev some_length : Values → ℕ → Option (Option ℕ × Values)
some_length vs x = Some (Some x, vs)

abbrev one_length : Values → ℕ → Option (ℕ × Values)
one_length vs x = Some (x, vs)

abbrev nothing_more : Values → Option (Unit {0})
nothing_more vs = done tt vs

chosen : (o : Option ℕ) (vs : Values) → ((o >>= some_length vs) >>= λ x. nothing_more x.1) ≡ ((o >>= one_length vs) >>= λ x. nothing_more x.1)
unfolding ◌>>=◌
chosen None vs = refl
chosen (Some x) vs = refl

at_tag : (v : Value) (vs : Values) (t : Bool) → has_tag integer_tag (identifier_of v) ≡ t → path_length (v ▸ vs) ≡ number_alone (v ▸ vs)
unfolding path_length optional first done ◌>>=◌
at_tag v vs false t = rw (t, no_number v t) refl
at_tag v vs true t = rw t (chosen (u64 v) vs)

not_end : (vs : Values) → number_alone vs ≡ Some tt → path_length vs ≡ Some tt
unfolding first ◌>>=◌
not_end End e = cc
not_end (v ▸ vs) e = at_tag v vs (has_tag integer_tag (identifier_of v)) refl ∙ e

at_end : (vs : Values) → nothing_more vs ≡ Some tt → path_length vs ≡ Some tt
unfolding done path_length optional ◌>>=◌
at_end End e = refl
at_end (v ▸ vs) e = cc

reads_with : (f : Values → Option (Unit {0})) (p q : Position) (b a : ℕ) → ((vs : Values) → f vs ≡ Some tt → path_length vs ≡ Some tt) → CountedReads 1 0 f p q b a tt → CountedReads 1 0 path_length p q b a tt
reads_with f p q b a h r = record { reads = record { values = r.reads.values; holds = r.reads.holds; reads = h r.reads.values r.reads.reads; levels = r.reads.levels; mode = r.reads.mode }; least = r.least; most = r.most }

none_left : (p : Position) (e : DecodeError) → (AtEnd p → ⊥) → Stops number_alone p e → Stops path_length p e
unfolding Stops
none_left p Malformed more n = record { none = none }
  where
    none : (vs : Values) (rest : List ℕ) → LevelHolds p.mode (top p.levels) p.here vs rest → path_length vs ≡ None
    none End rest h = absurd (more (rest, end_holds p.mode (top p.levels) p.here rest h))
    none (v ▸ vs) rest h = at_tag v vs (has_tag integer_tag (identifier_of v)) refl ∙ n.none (v ▸ vs) rest h
none_left p OutOfMemory more n = tt

stops_with : (p : Position) (b a : ℕ) (e : DecodeError) → (AtEnd p → ⊥) → CountedStops 1 0 number_alone p b a e → CountedStops 1 0 path_length p b a e
stops_with p b a e more n = record { stops = none_left p e more n.stops; least = n.least; most = n.most }

-- the level is at its end
pub path_ended : (p q : Position) (b a : ℕ) (r : Result (Unit {0}) DecodeError) → AtEnd p → GoesOut p q r → OnOk r (a ≡ b + marks (top p.levels)) → TakesRestCounted 1 0 path_length (λ x. x) p q b a r
path_ended p q b a (Ok u) e l t = reads_with nothing_more p q b a at_end (reads_done 1 p q b a tt refl l t)
path_ended p q b a (Err Malformed) e l t = absurd (l e)
path_ended p q b a (Err OutOfMemory) e l t = absurd l

-- what stands there isn't a number
pub path_refused : (p : Position) (b a : ℕ) (e : DecodeError) → (AtEnd p → ⊥) → CountedRefuses 1 u64 p b a e → CountedStops 1 0 path_length p b a e
path_refused p b a e more n = stops_with p b a e more (stops_first _ _ _ _ _ _ _ _ refl n)

-- a number stood there
pub path_read : (p p' q : Position) (b m a n : ℕ) (r : Result (Unit {0}) DecodeError) → (AtEnd p → ⊥) → CountedOne 1 u64 p p' b m n → GoesOut p' q r → OnOk r (a ≡ m + marks (top p'.levels)) → OnErr r (a ≡ m) → TakesRestCounted 1 0 path_length (λ x. x) p q b a r
path_read p p' q b m a n (Ok u) more t l k s = reads_with number_alone p q b a not_end (reads_first _ _ _ _ _ _ _ _ _ _ _ _ _ refl t (reads_done 1 p' q m a tt refl l k))
path_read p p' q b m a n (Err e) more t l k s = stops_with p b a e more (stops_later _ _ _ _ _ _ _ _ _ _ _ _ refl t (stops_done _ _ _ _ _ _ l s))
