-- A value that a whole text spells.
use Rattle.std.proofs.Common.{◌≡◌, ℕ, eqb, cond, None, Some, List, [], ◌∷◌, length, ◌<◌, refl, sym, ◌∙◌, arith}
use Rattle.std.proofs.lemmas.Bool.{cond-false, ne_eqb}
use Rattle.std.specs.Net.Reader.{Read, whole_value}
use Rattle.rpki_common.proofs.Truths.{none_some}

pub whole_value-all : {A : Type 0} (a : A) (r : Read A) → r ≡ Some (a, []) → whole_value r ≡ Some a
whole_value-all a r e = rw e refl

left_none : {A : Type 0} (a x : A) (left : List ℕ) → 0 < length left → cond (eqb (length left) 0) (Some x) None ≡ Some a → ⊥
left_none a x [] long e = absurd (omega arith)
left_none a x (c ∷ cs) long e = none_some a (sym (cond-false (eqb (length (c ∷ cs)) 0) (Some x) None (ne_eqb _ 0 (λ h. omega arith))) ∙ e)

pub whole_value-some : {A : Type 0} (a : A) (r : Read A) → whole_value r ≡ Some a → r ≡ Some (a, [])
whole_value-some a None e = absurd (none_some a e)
whole_value-some a (Some (x, [])) e = let same : x ≡ a = cc in λ i. Some (same i, [])
whole_value-some a (Some (x, c ∷ cs)) e = absurd (left_none a x (c ∷ cs) (omega arith) e)
