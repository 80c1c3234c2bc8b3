-- Octets that are one value, read without a cursor.
use Rattle.std.proofs.Common.{◌≡◌, ◌≢◌, ℕ, ◌==◌, true, false, Option, None, Some, List, [], ◌∷◌, length, refl, sym, ap, subst, ◌∙◌}
use Rattle.std.proofs.lemmas.Bool.{eqb-true, eqb-false}
use Rattle.std.proofs.lemmas.List.{nil_from_length}
use Rattle.rpki_common.specs.Chaining.{◌>>=◌}
use Rattle.rpki_der.specs.declared.error.DecodeError.TheVariants.{Malformed}
use Rattle.rpki_der.specs.declared.mode.Mode.{Mode}
use Rattle.rpki_der.specs.Value.{Value, Values, End, ◌▸◌, Begins}
use Rattle.rpki_der.specs.Level.{Level, EndsLevel, LevelHolds}
use Rattle.rpki_der.specs.Position.{Position, top, AtEnd}
use Rattle.rpki_der.specs.Reader.{value_at}
use Rattle.rpki_der.specs.Takes.{TakesOne, TakesFields, RefusesFields, NoneStands, Refuses, Goes, NoneOpens}
use Rattle.rpki_der.specs.Flat.{before, in_level}
use Rattle.rpki_der.specs.Leaf.{LeafFields, leaf, further, one_or_two}
use Rattle.rpki_der.specs.Tags.{sequence}
use Rattle.rpki_der.specs.Whole.{whole_alone, alone, whole_of}
use Rattle.rpki_der.proofs.Decoding.{value_at-begins, value_at-sound}
use Rattle.rpki_der.proofs.Parts.{at_most_one}
use Rattle.rpki_der.proofs.Reading.{takes_within, refuses_within, refuses_inside, reads_first, reads_part, reads_done, stops_first, stops_later, stops_part, stops_behind, stops_done}
use Rattle.rpki_der.proofs.Walks.{holds_cons, holds_more, end_holds, ends_no_value}

pub nothing_left : (octets : List ℕ) → true ≡ (length octets == 0) → octets ≡ []
nothing_left octets e = nil_from_length octets (eqb-true (length octets) 0 (sym e))

pub something_left : (octets : List ℕ) → false ≡ (length octets == 0) → octets ≢ []
something_left octets e n = eqb-false (length octets) 0 (sym e) (ap length n)

pub alone_begins : (mode : Mode) (octets : List ℕ) (v : Value) → Begins mode octets v [] → alone mode octets ≡ Some v
unfolding alone ◌>>=◌
alone_begins mode octets v b = rw (value_at-begins mode octets v [] b) refl

only_empty : (v w : Value) (rest : List ℕ) → whole_alone (w, rest) ≡ Some v → (w ≡ v) × (rest ≡ [])
only_empty v w [] e = (cc, refl)
only_empty v w (a ∷ more) e = absurd cc

from_only : (o : Option (Value × List ℕ)) (v : Value) → (o >>= whole_alone) ≡ Some v → o ≡ Some (v, [])
unfolding ◌>>=◌
from_only None v e = absurd cc
from_only (Some (w, rest)) v e = let s = only_empty v w rest e in rw (s.0, s.1) refl

pub alone_only : (mode : Mode) (octets : List ℕ) (v : Value) → alone mode octets ≡ Some v → Begins mode octets v []
unfolding alone
alone_only mode octets v e = value_at-sound mode octets v [] (from_only (value_at mode octets) v e)

pub whole_taken : {X : Type 0} (grammar : Value → Option X) (p q : Position) (x : X) → TakesOne grammar p q x → q.here ≡ [] → whole_of grammar p.mode p.here ≡ Some x
unfolding whole_of ◌>>=◌
whole_taken grammar p q x t e =
    rw (alone_begins p.mode p.here t.value (subst (Begins p.mode p.here t.value) e t.begins)) t.reads

only_behind : (v : Value) (rest : List ℕ) → rest ≢ [] → whole_alone (v, rest) ≡ None
only_behind v [] n = absurd (n refl)
only_behind v (a ∷ more) n = refl

pub whole_behind : {X : Type 0} (grammar : Value → Option X) (p q : Position) (x : X) → TakesOne grammar p q x → q.here ≢ [] → whole_of grammar p.mode p.here ≡ None
unfolding whole_of alone ◌>>=◌
whole_behind grammar p q x t n = rw (value_at-begins p.mode p.here t.value q.here t.begins, only_behind t.value q.here n) refl

none_of : {X : Type 0} (grammar : Value → Option X) (mode : Mode) (octets : List ℕ) (o : Option Value) → ((v : Value) → o ≡ Some v → grammar v ≡ None) → (o >>= grammar) ≡ None
unfolding ◌>>=◌
none_of grammar mode octets None n = refl
none_of grammar mode octets (Some v) n = n v refl

pub whole_refused : {X : Type 0} (grammar : Value → Option X) (p : Position) → NoneStands grammar p → whole_of grammar p.mode p.here ≡ None
unfolding whole_of
whole_refused grammar p n = none_of grammar p.mode p.here (alone p.mode p.here) (λ v e. n v [] (alone_only p.mode p.here v e))

-- ---- a further value

further_end : {X : Type 0} (field : Value → Option X) (p : Position) → AtEnd p → (vs : Values) (rest : List ℕ) → LevelHolds p.mode (top p.levels) p.here vs rest → further field vs ≡ Some (None, vs)
unfolding further
further_end field p a End rest h = refl
further_end field p a (v ▸ vs) rest h =
    let m = holds_more p.mode (top p.levels) p.here v vs rest h in
    absurd (ends_no_value p.mode (top p.levels) p.here a.0 a.1 v m.here' m.begins)

pub takes_no_further : {X : Type 0} (field : Value → Option X) (p : Position) → AtEnd p → TakesFields (further field) p p None
takes_no_further field p a = record {
  reads = λ vs rest h. (vs, h, further_end field p a vs rest h);
  only = λ all rest h. (all, h, further_end field p a all rest h);
  levels = refl;
  mode = refl;
}

further_some : {X : Type 0} (field : Value → Option X) (v : Value) (vs : Values) (x : X) → field v ≡ Some x → further field (v ▸ vs) ≡ Some (Some x, vs)
unfolding further ◌>>=◌
further_some field v vs x e = rw e refl

further_only : {X : Type 0} (field : Value → Option X) (p q : Position) (x : X) → TakesOne field p q x → (all : Values) (rest : List ℕ) → LevelHolds p.mode (top p.levels) p.here all rest → (vs : Values) × LevelHolds p.mode (top p.levels) q.here vs rest × (further field all ≡ Some (Some x, vs))
further_only field p q x t End rest h = absurd (ends_no_value p.mode (top p.levels) p.here rest (end_holds p.mode (top p.levels) p.here rest h) t.value q.here t.begins)
further_only field p q x t (v ▸ vs) rest h =
    let m = holds_more p.mode (top p.levels) p.here v vs rest h in
    let s = at_most_one p.mode p.here v t.value m.here' q.here m.begins t.begins in
    (vs, subst (λ (r : List ℕ). LevelHolds p.mode (top p.levels) r vs rest) s.rest m.holds, further_some field v vs x (ap field s.value ∙ t.reads))

pub takes_further : {X : Type 0} (field : Value → Option X) (p q : Position) (x : X) → TakesOne field p q x → TakesFields (further field) p q (Some x)
takes_further field p q x t = record {
  reads = λ vs rest h. (t.value ▸ vs, holds_cons p.mode (top p.levels) p.here q.here t.value vs rest t.begins (rw (t.mode, t.levels) at h), further_some field t.value vs x t.reads);
  only = λ all rest h. rw (t.mode, t.levels) (further_only field p q x t all rest h);
  levels = t.levels;
  mode = t.mode;
}

no_further : {X : Type 0} (field : Value → Option X) (p : Position) → (AtEnd p → ⊥) → NoneStands field p → (all : Values) (rest : List ℕ) → LevelHolds p.mode (top p.levels) p.here all rest → further field all ≡ None
unfolding further ◌>>=◌
no_further field p more n End rest h = absurd (more (rest, end_holds p.mode (top p.levels) p.here rest h))
no_further field p more n (v ▸ vs) rest h = let m = holds_more p.mode (top p.levels) p.here v vs rest h in rw (n v m.here' m.begins) refl

pub refuses_further : {X : Type 0} (field : Value → Option X) (p : Position) → (AtEnd p → ⊥) → NoneStands field p → RefusesFields (further field) p Malformed
unfolding RefusesFields
refuses_further field p more n = no_further field p more n

-- ---- a SEQUENCE of one or two primitive values

taken_pair : (mode : Mode) (octets inner rest next behind' : List ℕ) (level : Level) (a : LeafFields) (b : Option LeafFields) → Goes sequence (before mode octets) (in_level mode level inner) → TakesOne leaf (in_level mode level inner) (in_level mode level rest) a → TakesFields (further leaf) (in_level mode level rest) (in_level mode level next) b → EndsLevel level next behind' → TakesOne one_or_two (before mode octets) (before mode behind') (a, b)
unfolding one_or_two
taken_pair mode octets inner rest next behind' level a b g t f e =
    takes_within _ _ _ _ _ _ g (reads_first _ _ _ _ _ _ _ t (reads_part _ _ _ _ _ _ _ f (reads_done _ _ _ (record { ends = e; levels = refl; mode = refl }))))

pub pair_taken : (mode : Mode) (octets inner rest next behind' : List ℕ) (level : Level) (a : LeafFields) (b : Option LeafFields) → Goes sequence (before mode octets) (in_level mode level inner) → TakesOne leaf (in_level mode level inner) (in_level mode level rest) a → TakesFields (further leaf) (in_level mode level rest) (in_level mode level next) b → EndsLevel level next behind' → behind' ≡ [] → whole_of one_or_two mode octets ≡ Some (a, b)
pair_taken mode octets inner rest next behind' level a b g t f e n = whole_taken one_or_two _ _ _ (taken_pair mode octets inner rest next behind' level a b g t f e) n

pub pair_behind : (mode : Mode) (octets inner rest next behind' : List ℕ) (level : Level) (a : LeafFields) (b : Option LeafFields) → Goes sequence (before mode octets) (in_level mode level inner) → TakesOne leaf (in_level mode level inner) (in_level mode level rest) a → TakesFields (further leaf) (in_level mode level rest) (in_level mode level next) b → EndsLevel level next behind' → behind' ≢ [] → whole_of one_or_two mode octets ≡ None
pair_behind mode octets inner rest next behind' level a b g t f e n = whole_behind one_or_two _ _ _ (taken_pair mode octets inner rest next behind' level a b g t f e) n

pub pair_not_entered : (mode : Mode) (octets : List ℕ) → NoneOpens sequence (before mode octets) → whole_of one_or_two mode octets ≡ None
unfolding one_or_two Refuses
pair_not_entered mode octets n = whole_refused _ (before mode octets) (refuses_within _ _ (before mode octets) Malformed n)

pub pair_without_first : (mode : Mode) (octets inner : List ℕ) (level : Level) → Goes sequence (before mode octets) (in_level mode level inner) → NoneStands leaf (in_level mode level inner) → whole_of one_or_two mode octets ≡ None
unfolding one_or_two Refuses
pair_without_first mode octets inner level g n =
    whole_refused _ (before mode octets) (refuses_inside _ _ _ _ Malformed g (stops_first _ _ _ Malformed n))

pub pair_without_second : (mode : Mode) (octets inner rest : List ℕ) (level : Level) (a : LeafFields) → Goes sequence (before mode octets) (in_level mode level inner) → TakesOne leaf (in_level mode level inner) (in_level mode level rest) a → RefusesFields (further leaf) (in_level mode level rest) Malformed → whole_of one_or_two mode octets ≡ None
unfolding one_or_two Refuses
pair_without_second mode octets inner rest level a g t n =
    whole_refused _ (before mode octets) (refuses_inside _ _ _ _ Malformed g (stops_later _ _ _ _ _ Malformed t (stops_part _ _ _ Malformed n)))

pub pair_not_ended : (mode : Mode) (octets inner rest next : List ℕ) (level : Level) (a : LeafFields) (b : Option LeafFields) → Goes sequence (before mode octets) (in_level mode level inner) → TakesOne leaf (in_level mode level inner) (in_level mode level rest) a → TakesFields (further leaf) (in_level mode level rest) (in_level mode level next) b → ((behind' : List ℕ) → EndsLevel level next behind' → ⊥) → whole_of one_or_two mode octets ≡ None
unfolding one_or_two Refuses
pair_not_ended mode octets inner rest next level a b g t f n =
    whole_refused _ (before mode octets) (refuses_inside _ _ _ _ Malformed g (stops_later _ _ _ _ _ Malformed t (stops_behind _ _ _ _ _ Malformed f (stops_done _ _ Malformed (λ (e : AtEnd (in_level mode level next)). n e.0 e.1)))))
