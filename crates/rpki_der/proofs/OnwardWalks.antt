-- From one place to a place inside it or behind it, with the ticks.
use Rattle.std.proofs.Common.{◌≡◌, ℕ, ◌+◌, ◌<◌, ◌≤◌, Option, List, [], ◌∷◌, ◌++◌, length, drop, refl, sym, ap, subst, ◌∙◌, arith, length-append}
use Rattle.rpki_der.specs.declared.mode.Mode.{Mode}
use Rattle.rpki_der.specs.Value.{Value}
use Rattle.rpki_der.specs.Level.{Level, EndsLevel}
use Rattle.rpki_der.specs.Position.{Position, top, Leaves}
use Rattle.rpki_der.specs.Takes.{Goes, TakesOne}
use Rattle.rpki_der.specs.Ticks.{nodes, left, marks, CountedOne}
use Rattle.rpki_der.specs.CountedWalk.{CountedBack, Onward}
use Rattle.rpki_der.proofs.Parts.{at_most_one}
use Rattle.rpki_der.proofs.Counting.{leaves_left}
use Rattle.rpki_der.proofs.CountedWalks.{back_into, back_ended, back_on, back_finished}

pub onward_enter : (tag : List ℕ) (s p : Position) (b a : ℕ) → Goes tag s p → a ≡ b + 1 → Onward s b p a
onward_enter tag s p b a g t = (g.level ∷ [], g.levels, g.mode, λ levels. back_into s.mode s.here g.identifier g.level p.here levels b a g.opens t)

pub onward_one : {X : Type 0} (c : ℕ) (grammar : Value → Option X) (s p : Position) (b m a : ℕ) (x : X) → CountedOne c grammar s p m a x → b ≤ m → Onward s b p a
onward_one c grammar s p b m a x t le = ([], t.takes.levels, t.takes.mode, λ levels final n k. (nodes t.takes.value + n, (t.takes.value, p.here, n, t.takes.begins, k, refl), omega (arith, t.least, le)))

-- where the loop stands
pub record Below (old : Position) (before : ℕ) (p : Position) (m : ℕ) : Type 0 where
  pub inner : List Level
  pub levels : p.levels ≡ inner ++ old.levels
  pub mode : p.mode ≡ old.mode
  pub back : CountedBack old.mode old.here [] before p.here inner m
  pub most : m + left p ≤ before + left old

append_none : (ls : List Level) → ls ++ [] ≡ ls
append_none [] = refl
append_none (l ∷ ls) = ap (λ (r : List Level). l ∷ r) (append_none ls)

append_three : (a b c : List Level) → (a ++ b) ++ c ≡ a ++ (b ++ c)
append_three [] b c = refl
append_three (l ∷ a) b c = ap (λ (r : List Level). l ∷ r) (append_three a b c)

pub below_first : (old : Position) (before : ℕ) (p : Position) (m : ℕ) → Onward old before p m → m + left p ≤ before + left old → Below old before p m
below_first old before p m o l = record {
  inner = o.0;
  levels = o.1;
  mode = o.2;
  back = subst (λ (ls : List Level). CountedBack old.mode old.here [] before p.here ls m) (append_none o.0) (o.3 []);
  most = l;
}

below_leave_of : (old : Position) (before : ℕ) (p q : Position) (m a : ℕ) (w : Below old before p m) (inner : List Level) → w.inner ≡ inner → length old.levels < length p.levels → Leaves p q → a ≡ m + marks (top p.levels) → Below old before q a
below_leave_of old before p q m a w [] e lt l t = let len : length p.levels ≡ length old.levels = ap length (rw e at w.levels) in absurd (omega arith)
below_leave_of old before p q m a w (level ∷ inner) e lt l t =
    let is : p.levels ≡ level ∷ (inner ++ old.levels) = rw e at w.levels in
    let ends : EndsLevel level p.here q.here = rw is at l.ends in
    let back : CountedBack old.mode old.here [] before p.here (level ∷ inner) m = rw e at w.back in
    record {
      inner = inner;
      levels = l.levels ∙ ap (drop 1) is;
      mode = l.mode ∙ w.mode;
      back = back_ended old.mode old.here level inner p.here q.here before m a back ends (omega (arith, t));
      most = omega (arith, t, leaves_left p q l, w.most);
    }

pub below_leave : (old : Position) (before : ℕ) (p q : Position) (m a : ℕ) → Below old before p m → length old.levels < length p.levels → Leaves p q → a ≡ m + marks (top p.levels) → Below old before q a
below_leave old before p q m a w lt l t = below_leave_of old before p q m a w w.inner refl lt l t

below_on_of : (old : Position) (before : ℕ) (p q : Position) (m a : ℕ) (w : Below old before p m) (inner : List Level) → w.inner ≡ inner → length old.levels < length p.levels → Onward p m q a → a + left q ≤ m + left p → Below old before q a
below_on_of old before p q m a w [] e lt o le = let len : length p.levels ≡ length old.levels = ap length (rw e at w.levels) in absurd (omega arith)
below_on_of old before p q m a w (level ∷ inner) e lt o le =
    let is : p.levels ≡ level ∷ (inner ++ old.levels) = rw e at w.levels in
    let back : CountedBack old.mode old.here [] before p.here (level ∷ inner) m = rw e at w.back in
    let on : CountedBack old.mode p.here (level ∷ inner) m q.here (o.0 ++ (level ∷ inner)) a =
    subst (λ (md : Mode). CountedBack md p.here (level ∷ inner) m q.here (o.0 ++ (level ∷ inner)) a) w.mode (o.3 (level ∷ inner)) in
    record {
      inner = o.0 ++ (level ∷ inner);
      levels = o.1 ∙ ap (λ (ls : List Level). o.0 ++ ls) is ∙ sym (append_three o.0 (level ∷ inner) old.levels);
      mode = o.2 ∙ w.mode;
      back = back_on old.mode old.here level inner p.here q.here (o.0 ++ (level ∷ inner)) before m a back on;
      most = omega (arith, le, w.most);
    }

pub below_on : (old : Position) (before : ℕ) (p q : Position) (m a : ℕ) → Below old before p m → length old.levels < length p.levels → Onward p m q a → a + left q ≤ m + left p → Below old before q a
below_on old before p q m a w lt o le = below_on_of old before p q m a w w.inner refl lt o le

below_done_of : {X : Type 0} (grammar : Value → Option X) (old : Position) (before : ℕ) (p : Position) (m : ℕ) (x : X) (w : Below old before p m) (inner : List Level) → w.inner ≡ inner → length p.levels ≤ length old.levels → TakesOne grammar old p x → CountedOne 1 grammar old p before m x
below_done_of grammar old before p m x w [] e le t =
    let back : CountedBack old.mode old.here [] before p.here [] m = rw e at w.back in
    let v = back_finished old.mode old.here p.here before m back in
    let same : v.0 ≡ t.value = (at_most_one old.mode old.here v.0 t.value p.here p.here v.1 t.begins).value in
    let least : before + nodes t.value ≤ m = subst (λ (u : Value). before + nodes u ≤ m) same v.2 in
    record { takes = t; least = least; most = omega (arith, w.most) }
below_done_of grammar old before p m x w (level ∷ inner) e le t =
    let len : length p.levels ≡ length ((level ∷ inner) ++ old.levels) = ap length (rw e at w.levels) in absurd (omega (arith, le, simp length-append at len))

pub below_done : {X : Type 0} (grammar : Value → Option X) (old : Position) (before : ℕ) (p : Position) (m : ℕ) (x : X) → Below old before p m → length p.levels ≤ length old.levels → TakesOne grammar old p x → CountedOne 1 grammar old p before m x
below_done grammar old before p m x w le t = below_done_of grammar old before p m x w w.inner refl le t
