-- The row `30800201000000` of the tests: its one value, and how often it ticks.
use Rattle.std.proofs.Common.{◌≡◌, ℕ, ◌+◌, Result, Ok, Err, List, [], ◌∷◌, refl, ap, subst, ◌∙◌, arith, lit<}
use Rattle.std.specs.Prelude.{OnOk}
use Rattle.rpki_der.specs.declared.mode.Mode.TheVariants.{Ber}
use Rattle.rpki_der.specs.Value.{Indefinite, Value, Primitive, Constructed, End, ◌▸◌, Begins}
use Rattle.rpki_der.specs.Level.{Level, LevelHolds, EndsLevel}
use Rattle.rpki_der.specs.Position.{Position, top, Leaves}
use Rattle.rpki_der.specs.Takes.{Goes}
use Rattle.rpki_der.specs.Ticks.{counts, marks}
use Rattle.rpki_der.proofs.ExactWalks.{same_marks}
use Rattle.rpki_der.proofs.Parts.{at_most_one}
use Rattle.rpki_der.proofs.Walks.{holds_cons, holds_end, opens_back}

abbrev pub marked : Value
marked = Constructed (48 ∷ []) Indefinite (Primitive (2 ∷ []) (1 ∷ []) (0 ∷ []) ▸ End)

abbrev pub octets : List ℕ
octets = 48 ∷ 128 ∷ 2 ∷ 1 ∷ 0 ∷ 0 ∷ 0 ∷ []

pub marked_begins : Begins Ber octets marked []
marked_begins = record {
  lawful = ((λ (e : 16 ≡ 31). omega arith, λ (e : 48 ≡ 0). omega arith, λ (e : 48 ≡ 32). omega arith), refl, tt, (((λ (e : 2 ≡ 31). omega arith, λ (e : 2 ≡ 0). omega arith, λ (e : 2 ≡ 32). omega arith), refl, (lit< tt, refl)), tt));
  parts = refl;
}

pub counts_three : (v : Value) (rest : List ℕ) → Begins Ber octets v rest → counts v ≡ 3
counts_three v rest b = ap counts (at_most_one Ber octets v marked rest [] b marked_begins).value

pub through : (s p q r : Position) (tag : List ℕ) (v : Value) (b m n a : ℕ) → s ≡ record { mode = Ber; here = octets; levels = [] } → Goes tag s p → m ≡ b + 1 → Begins p.mode p.here v q.here → q.levels ≡ p.levels → q.mode ≡ p.mode → n ≡ m + counts v → Leaves q r → a ≡ n + marks (top q.levels) → a ≡ b + 3
through s p q r tag v b m n a e g tm begins levels mode tn l ta =
    let ends : EndsLevel (top p.levels) q.here r.here = rw levels at l.ends in
    let holds : LevelHolds p.mode (top p.levels) p.here (v ▸ End) r.here = holds_cons p.mode (top p.levels) p.here q.here v End r.here begins (holds_end p.mode (top p.levels) q.here r.here ends) in
    let w = opens_back s.mode s.here g.identifier g.level p.here (v ▸ End) r.here g.opens (rw (g.mode, g.levels) at holds) in
    let whole : Begins Ber octets (Constructed g.identifier w.form (v ▸ End)) r.here = subst (λ (t : Position). Begins t.mode t.here (Constructed g.identifier w.form (v ▸ End)) r.here) e w.begins in
    let three : counts (Constructed g.identifier w.form (v ▸ End)) ≡ 3 = counts_three (Constructed g.identifier w.form (v ▸ End)) r.here whole in
    let same = same_marks w.form g.level w.fits in
    let tick : marks (top q.levels) ≡ marks g.level = ap (λ (ls : List Level). marks (top ls)) levels ∙ ap (λ (ls : List Level). marks (top ls)) g.levels in
    omega (arith, tm, tn, ta, tick, same, three)

pub on_ok : {X Y : Type 0} (r : Result X Y) (P : Type 0) → P → OnOk r P
on_ok (Ok x) P p = p
on_ok (Err e) P p = tt
