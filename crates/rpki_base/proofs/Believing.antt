-- A list of checks with one question to a scheme: it passes exactly where what is asked holds and all other checks hold.
use Rattle.std.proofs.Common.{◌≡◌, ℕ, Bool, true, Result, Ok, Err, List, refl, sym, ap, ◌∙◌}
use Rattle.std.specs.Prelude.{Decides, OnOk}
use Rattle.rpki_base.specs.Checks.{first_failure, failing}
use Rattle.rpki_base.specs.declared.validation.ValidationError.{ValidationError}
use Rattle.rpki_base.specs.declared.validation.ValidationKind.{ValidationKind}

pub decides_yes : {X : Type 0} → X → Decides true X
decides_yes x = (λ _. x, λ _. refl)

pub none_failing : (kind : ℕ → ValidationKind) (x : Result (Unit {0}) ℕ) → Ok tt ≡ failing kind x → x ≡ Ok tt
none_failing kind (Ok tt) e = refl
none_failing kind (Err n) e = cc

pub held_where_ok : {S : Type 0} (r : Result (Unit {0}) ValidationError) → OnOk r S → r ≡ Ok tt → S
held_where_ok (Ok u) s e = s
held_where_ok (Err x) s e = cc

-- where it passes
pub passes_where_ok : (kind : ℕ → ValidationKind) (S : Type 0) (n : ℕ) (list : Bool → List Bool) (r : Result (Unit {0}) ValidationError) → ((q : Bool) → Decides q S → r ≡ failing kind (first_failure n (list q))) → S → r ≡ Ok tt → first_failure n (list true) ≡ Ok tt
passes_where_ok kind S n list r first s e = none_failing kind (first_failure n (list true)) (sym e ∙ first true (decides_yes s))

pub ok_where_passes : (kind : ℕ → ValidationKind) (S : Type 0) (n : ℕ) (list : Bool → List Bool) (r : Result (Unit {0}) ValidationError) → ((q : Bool) → Decides q S → r ≡ failing kind (first_failure n (list q))) → S → first_failure n (list true) ≡ Ok tt → r ≡ Ok tt
ok_where_passes kind S n list r first s p = first true (decides_yes s) ∙ ap (failing kind) p
