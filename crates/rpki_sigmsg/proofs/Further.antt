-- One more value of a level, where any is left.
use Rattle.std.proofs.Common.{◌≡◌, ℕ, Option, None, Some, List, refl, ap, subst, ◌∙◌, arith}
use Rattle.rpki_common.specs.Chaining.{◌>>=◌}
use Rattle.rpki_der.specs.declared.error.DecodeError.{DecodeError}
use Rattle.rpki_der.specs.declared.error.DecodeError.TheVariants.{Malformed, OutOfMemory}
use Rattle.rpki_der.specs.Level.{LevelHolds}
use Rattle.rpki_der.specs.Position.{Position, top, AtEnd}
use Rattle.rpki_der.specs.Takes.{TakesOne, NoneStands, Refuses, RefusesFields}
use Rattle.rpki_der.specs.Ticks.{CountedOne, CountedRefuses, CountedFields, CountedRefusesFields}
use Rattle.rpki_der.specs.Value.{Value, Values, End, ◌▸◌}
use Rattle.rpki_der.proofs.Counting.{value_left}
use Rattle.rpki_der.proofs.Parts.{at_most_one}
use Rattle.rpki_der.proofs.Walks.{holds_cons, holds_more, end_holds, ends_no_value}
use Rattle.rpki_sigmsg.specs.Message.{if_any}

-- ---- a value is there

read_there : {X : Type 0} (field : Value → Option X) (v : Value) (vs : Values) (x : X) → field v ≡ Some x → if_any field (v ▸ vs) ≡ Some (Some x, vs)
unfolding if_any ◌>>=◌
read_there field v vs x e = rw e refl

only_there : {X : Type 0} (field : Value → Option X) (p q : Position) (x : X) → TakesOne field p q x → (all : Values) (rest : List ℕ) → LevelHolds p.mode (top p.levels) p.here all rest
    → (vs : Values) × LevelHolds p.mode (top p.levels) q.here vs rest × (if_any field all ≡ Some (Some x, vs))
only_there field p q x t End rest h = absurd (ends_no_value p.mode (top p.levels) p.here rest (end_holds p.mode (top p.levels) p.here rest h) t.value q.here t.begins)
only_there field p q x t (v ▸ vs) rest h =
    let m = holds_more p.mode (top p.levels) p.here v vs rest h in
    let s = at_most_one p.mode p.here v t.value m.here' q.here m.begins t.begins in
    (vs, subst (λ (r : List ℕ). LevelHolds p.mode (top p.levels) r vs rest) s.rest m.holds, read_there field v vs x (ap field s.value ∙ t.reads))

pub takes_another : {X : Type 0} (c : ℕ) (field : Value → Option X) (p q : Position) (b a : ℕ) (x : X) → CountedOne c field p q b a x → CountedFields c 0 (if_any field) p q b a (Some x)
takes_another c field p q b a x t = record {
  takes = record {
    reads = λ vs rest h. (t.takes.value ▸ vs, holds_cons p.mode (top p.levels) p.here q.here t.takes.value vs rest t.takes.begins (rw (t.takes.mode, t.takes.levels) at h), read_there field t.takes.value vs x t.takes.reads);
    only = λ all rest h. rw (t.takes.mode, t.takes.levels) (only_there field p q x t.takes all rest h);
    levels = t.takes.levels;
    mode = t.takes.mode;
  };
  least = λ vs rest h. omega (arith, t.least);
  later = omega (arith, t.least);
  on = omega (arith, value_left p q t.takes.value t.takes.begins t.takes.levels);
  most = omega (arith, t.most);
}

-- ---- none is there

none_there : {X : Type 0} (field : Value → Option X) (p : Position) → AtEnd p → (vs : Values) (rest : List ℕ) → LevelHolds p.mode (top p.levels) p.here vs rest → if_any field vs ≡ Some (None, vs)
unfolding if_any
none_there field p e End rest h = refl
none_there field p e (v ▸ vs) rest h = let m = holds_more p.mode (top p.levels) p.here v vs rest h in absurd (ends_no_value p.mode (top p.levels) p.here e.0 e.1 v m.here' m.begins)

pub takes_no_other : {X : Type 0} (c : ℕ) (field : Value → Option X) (p : Position) (b : ℕ) → AtEnd p → CountedFields c 0 (if_any field) p p b b None
takes_no_other c field p b e = record {
  takes = record {
    reads = λ vs rest h. (vs, h, none_there field p e vs rest h);
    only = λ all rest h. (all, h, none_there field p e all rest h);
    levels = refl;
    mode = refl;
  };
  least = λ vs rest h. omega arith;
  later = omega arith;
  on = omega arith;
  most = omega arith;
}

-- ---- what is there isn't read

refused_there : {X : Type 0} (field : Value → Option X) (p : Position) → (AtEnd p → ⊥) → NoneStands field p → (all : Values) (rest : List ℕ) → LevelHolds p.mode (top p.levels) p.here all rest → if_any field all ≡ None
unfolding if_any ◌>>=◌
refused_there field p more none End rest h = absurd (more (rest, end_holds p.mode (top p.levels) p.here rest h))
refused_there field p more none (v ▸ vs) rest h = let m = holds_more p.mode (top p.levels) p.here v vs rest h in rw (none v m.here' m.begins) refl

refused : {X : Type 0} (field : Value → Option X) (p : Position) (e : DecodeError) → (AtEnd p → ⊥) → Refuses field p e → RefusesFields (if_any field) p e
unfolding Refuses RefusesFields
refused field p Malformed more none = refused_there field p more none
refused field p OutOfMemory more none = tt

pub refuses_another : {X : Type 0} (c : ℕ) (field : Value → Option X) (p : Position) (b a : ℕ) (e : DecodeError) → (AtEnd p → ⊥) → CountedRefuses c field p b a e → CountedRefusesFields c 0 (if_any field) p b a e
refuses_another c field p b a e more none = record { refuses = refused field p e more none.refuses; least = none.least; most = omega (arith, none.most) }
