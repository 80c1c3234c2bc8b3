-- What tests that are true say, and equalities between options that can't be.
use Rattle.std.proofs.Common.{◌≡◌, ℕ, Bool, true, false, Option, None, Some, List, [], ◌∷◌, refl, ap, ◌∙◌}
use Rattle.std.specs.Prelude.{◌&&◌, bytes_eq}
use Rattle.std.proofs.lemmas.Bool.{eqb-true, eq-eqb}

pub both : (s t : Bool) → (s && t) ≡ true → (s ≡ true) × (t ≡ true)
both true t e = (refl, e)
both false t e = absurd cc

pub are_true : (s t : Bool) → s ≡ true → t ≡ true → (s && t) ≡ true
are_true s t e f = rw e f

pub same_octets : (a b : List ℕ) → bytes_eq a b ≡ true → a ≡ b
same_octets [] [] e = refl
same_octets [] (y ∷ b) e = absurd cc
same_octets (x ∷ a) [] e = absurd cc
same_octets (x ∷ a) (y ∷ b) e =
    let p = both _ _ e in
    ap (λ z. z ∷ a) (eqb-true x y p.0) ∙ ap (λ (l : List ℕ). y ∷ l) (same_octets a b p.1)

pub equal_octets : (a : List ℕ) → bytes_eq a a ≡ true
equal_octets [] = refl
equal_octets (x ∷ a) = are_true _ _ (eq-eqb x x refl) (equal_octets a)

pub none_some : {X : Type 0} (x : X) → ◌≡◌ {A = Option X} None (Some x) → ⊥
none_some x e = cc

pub some_none : {X : Type 0} (x : X) → ◌≡◌ {A = Option X} (Some x) None → ⊥
some_none x e = cc

pub same_some : {X : Type 0} (x y : X) → ◌≡◌ {A = Option X} (Some x) (Some y) → x ≡ y
same_some x y e = cc
