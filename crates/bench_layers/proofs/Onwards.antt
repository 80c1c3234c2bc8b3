-- A walk goes on.
use Rattle.std.proofs.Common.{◌≡◌, ℕ, ◌+◌, ◌≤◌, ◌<◌, List, [], ◌∷◌, length, drop, refl, sym, ap, subst, ◌∙◌, Result, Err, arith}
use Rattle.rpki_der.specs.declared.error.DecodeError.{DecodeError}
use Rattle.rpki_der.specs.declared.error.DecodeError.TheVariants.{Malformed, OutOfMemory}
use Rattle.rpki_der.specs.declared.mode.Mode.{Mode}
use Rattle.rpki_der.specs.declared.mode.Mode.TheVariants.{Ber}
use Rattle.rpki_der.specs.Value.{Value, End, ◌▸◌, Begins}
use Rattle.rpki_der.specs.Level.{Level, EndsLevel}
use Rattle.rpki_der.specs.Part.{NoValue}
use Rattle.rpki_der.specs.Walk.{Completes, OneFirst, Descends, left_in}
use Rattle.rpki_der.specs.Position.{Position, top, AtEnd, Leaves}
use Rattle.rpki_der.specs.Takes.{Goes, TakesOne}
use Rattle.rpki_der.specs.Item.{ItemFields, any_item, RefusesNext}
use Rattle.rpki_der.proofs.Walks.{holds_cons, holds_end, descends_into, descends_over, smaller_into, smaller_over, smaller_end, at_end, ends_no_value, first_of}
use Rattle.bench_layers.specs.Onward.{GoesOn}

pub into : (tag : List ℕ) (old new : Position) → Goes tag old new → GoesOn old new
into tag old new g = record {
  descends = subst (λ (ls : List Level). Descends old.mode old.here old.levels new.here ls) (sym g.levels) (descends_into old.mode old.here g.identifier g.level new.here old.levels g.opens);
  mode = g.mode;
  smaller = subst (λ (ls : List Level). length new.here + left_in ls < length old.here + left_in old.levels) (sym g.levels) (smaller_into old.mode old.here g.identifier g.level new.here old.levels g.opens);
}

pub over : (old new : Position) (i : ItemFields) → TakesOne any_item old new i → GoesOn old new
over old new i t =
    let less : length new.here < length old.here = smaller_over old.mode old.here t.value new.here t.begins in
    let same : left_in new.levels ≡ left_in old.levels = ap left_in t.levels in
    record {
      descends = subst (λ (ls : List Level). Descends old.mode old.here old.levels new.here ls) (sym t.levels) (descends_over old.mode old.here t.value new.here old.levels t.begins);
      mode = t.mode;
      smaller = omega arith;
    }

-- where no value is left, or none stands next
pub none_next : (old mid : Position) (e : DecodeError) → mid ≡ old → RefusesNext mid e → ◌≡◌ {A = Result (Unit {0}) DecodeError} (Err e) (Err Malformed) → NoValue old.mode old.here
unfolding RefusesNext
none_next old mid Malformed is r m = subst (λ (p : Position). NoValue p.mode p.here) is r.1
none_next old mid OutOfMemory is r m = absurd cc

pub none_left : (old mid : Position) → mid ≡ old → AtEnd mid → NoValue old.mode old.here
none_left old mid is e = subst (λ (p : Position). NoValue p.mode p.here) is (ends_no_value mid.mode (top mid.levels) mid.here e.0 e.1)

-- ---- from the octets up to a place

-- the value at the beginning of the octets is completed by what stands at p
pub record Stands (octets : List ℕ) (p : Position) : Type 0 where
  pub mode : p.mode ≡ Ber
  pub descends : Descends Ber octets [] p.here p.levels

pub begun : (octets : List ℕ) (p q : Position) → p ≡ record { mode = Ber; here = octets; levels = [] } → GoesOn p q → Stands octets q
begun octets p q is g =
    let from : GoesOn (record { mode = Ber; here = octets; levels = [] }) q = subst (λ (x : Position). GoesOn x q) is g in
    record { mode = from.mode; descends = from.descends }

with_first : (level : Level) (levels : List Level) (here final : List ℕ) → OneFirst Ber here (level ∷ levels) final → Completes Ber here (level ∷ levels) final
with_first level levels here final (v, next, b, (vs, behind, h, k)) = (v ▸ vs, behind, holds_cons Ber level here next v vs behind b h, k)

further : (octets here : List ℕ) (levels : List Level) (new : List ℕ) (news : List Level) → 0 < length levels → ((rest : List ℕ) → EndsLevel (top levels) here rest → ⊥) → Descends Ber octets [] here levels → Descends Ber here levels new news → Descends Ber octets [] new news
further octets here [] new news inside none d g = absurd (omega arith)
further octets here (level ∷ levels) new news inside none d g = record {
  forth = λ final o. g.forth final (first_of Ber level levels here final none (d.forth final o));
  back = λ final k. d.back final (with_first level levels here final (g.back final k));
}

pub gone_on : (octets : List ℕ) (p q : Position) → 0 < length p.levels → (AtEnd p → ⊥) → Stands octets p → GoesOn p q → Stands octets q
gone_on octets p q inside none s g = record {
  mode = g.mode ∙ s.mode;
  descends = further octets p.here p.levels q.here q.levels inside (λ rest e. none (rest, e)) s.descends (subst (λ (m : Mode). Descends m p.here p.levels q.here q.levels) s.mode g.descends);
}

outward : (octets here : List ℕ) (levels : List Level) (rest : List ℕ) → 0 < length levels → EndsLevel (top levels) here rest → Descends Ber octets [] here levels → Descends Ber octets [] rest (drop 1 levels)
outward octets here [] rest inside e d = absurd (omega arith)
outward octets here (level ∷ levels) rest inside e d = record {
  forth = λ final o. let k = d.forth final o in subst (λ (r : List ℕ). Completes Ber r levels final) (sym (at_end Ber level here rest k.0 k.1 e k.2)) k.3;
  back = λ final k. d.back final (End, rest, holds_end Ber level here rest e, k);
}

pub gone_out : (octets : List ℕ) (p q : Position) → 0 < length p.levels → Stands octets p → Leaves p q → Stands octets q
gone_out octets p q inside s l = record {
  mode = l.mode ∙ s.mode;
  descends = subst (λ (ls : List Level). Descends Ber octets [] q.here ls) (sym l.levels) (outward octets p.here p.levels q.here inside l.ends s.descends);
}

smaller_outward : (here : List ℕ) (levels : List Level) (rest : List ℕ) → 0 < length levels → EndsLevel (top levels) here rest → length rest + left_in (drop 1 levels) < length here + left_in levels
smaller_outward here [] rest inside e = absurd (omega arith)
smaller_outward here (level ∷ levels) rest inside e = smaller_end level levels here rest e

pub out_smaller : (p q : Position) → 0 < length p.levels → Leaves p q → length q.here + left_in q.levels < length p.here + left_in p.levels
out_smaller p q inside l =
    let same : left_in q.levels ≡ left_in (drop 1 p.levels) = ap left_in l.levels in
    let less = smaller_outward p.here p.levels q.here inside l.ends in
    omega arith

no_value : (octets here : List ℕ) (levels : List Level) → 0 < length levels → ((rest : List ℕ) → EndsLevel (top levels) here rest → ⊥) → NoValue Ber here → Descends Ber octets [] here levels → NoValue Ber octets
no_value octets here [] inside none empty d v rest b = absurd (omega arith)
no_value octets here (level ∷ levels) inside none empty d v rest b =
    let o = first_of Ber level levels here rest none (d.forth rest (v, rest, b, refl)) in empty o.0 o.1 o.2

pub refused : (octets : List ℕ) (p : Position) → 0 < length p.levels → (AtEnd p → ⊥) → Stands octets p → NoValue p.mode p.here → NoValue Ber octets
refused octets p inside none s empty =
    no_value octets p.here p.levels inside (λ rest e. none (rest, e)) (subst (λ (m : Mode). NoValue m p.here) s.mode empty) s.descends

found : (octets here : List ℕ) (levels : List Level) → length levels ≤ 0 → Descends Ber octets [] here levels → (v : Value) × (rest : List ℕ) × Begins Ber octets v rest
found octets here [] outside d = let o = d.back here refl in (o.0, o.1, o.2)
found octets here (level ∷ levels) outside d = absurd (omega arith)

pub all_met : (octets : List ℕ) (p : Position) (count : ℕ) → length p.levels ≤ 0 → Stands octets p → 1 ≤ count → count ≤ length octets → (v : Value) × (rest : List ℕ) × Begins Ber octets v rest × (1 ≤ count) × (count ≤ length octets)
all_met octets p count outside s some most = let f = found octets p.here p.levels outside s.descends in (f.0, f.1, f.2, some, most)
