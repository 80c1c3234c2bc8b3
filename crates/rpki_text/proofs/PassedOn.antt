-- An error that `?` passes on.
use Rattle.std.proofs.Common.{◌≡◌, Result, Ok, Err, refl, sym, ap, ◌∙◌}
use Rattle.std.specs.Prelude.{IsErrAnd, IsErrOf}

same_error : {U E : Type 0} (r : Result U E) (y e : E) → r ≡ Err y → r ≡ Err e → y ≡ e
same_error r y e g h = cc

-- what follows from this error of the call follows from it of the function
pub passed_on : {T U E A : Type 0} (r : Result U E) (x e : E) → IsErrAnd r (λ y. y ≡ x) → (IsErrOf {T = T} {E = E} (Err x) e → A) → IsErrOf r e → A
passed_on (Ok u) x e p f h = absurd p
passed_on (Err y) x e p f h = f (ap Err (sym p ∙ same_error (Err y) y e refl h))
