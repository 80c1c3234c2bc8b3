-- The answer of the checks, passed on with an error of another kind.
use Rattle.std.proofs.Common.{◌≡◌, ℕ, List, Ok, Err, subst, ap, sym, refl, ◌∙◌}
use Rattle.std.specs.Prelude.{ℤ, Result, ◌↔◌}
use Rattle.rpki_base.specs.PublicKey.{KeyFields}
use Rattle.rpki_base.specs.Checks.{first_failure, failing}
use Rattle.rpki_base.specs.declared.validation.ValidationError.{ValidationError}
use Rattle.rpki_base.specs.Scheme.{Relation}
use Rattle.rpki_sigmsg.specs.Checks.{Asked, IsBelieved, IsFirstBelieved, IsUnbelieved, AreOutcomes, ranked, passed_on, checks, kind_of}
use Rattle.rpki_sigmsg.specs.Message.{MessageFields}

-- an answer that was given of m is one of n, which is m
pub answer_of : {E : Type 0} (wrap : ValidationError → E) (scheme : Relation) (m n : MessageFields) (issuer : KeyFields) (when : ℤ) (x : Result (Unit {0}) ValidationError) (y : Result (Unit {0}) E) → m ≡ n → y ≡ passed_on wrap x
    → ((q : Asked scheme m issuer) → x ≡ failing kind_of (first_failure 1 (checks m issuer when q.q3 q.q8 q.q10)))
    → (q : Asked scheme n issuer) → y ≡ passed_on wrap (failing kind_of (first_failure 1 (checks n issuer when q.q3 q.q8 q.q10)))
answer_of wrap scheme m n issuer when x y same is holds =
    subst (λ (k : MessageFields). (q : Asked scheme k issuer) → y ≡ passed_on wrap (failing kind_of (first_failure 1 (checks k issuer when q.q3 q.q8 q.q10)))) same (λ q. is ∙ ap (passed_on wrap) (holds q))

none_failed : {E : Type 0} (wrap : ValidationError → E) (x : Result (Unit {0}) ValidationError) → passed_on wrap x ≡ Ok tt → x ≡ Ok tt
none_failed wrap (Ok tt) e = refl
none_failed wrap (Err x) e = cc

pub believed : {E : Type 0} (wrap : ValidationError → E) (scheme : Relation) (m n : MessageFields) (issuer : KeyFields) (when : ℤ) (x : Result (Unit {0}) ValidationError) (y : Result (Unit {0}) E) → m ≡ n → y ≡ passed_on wrap x
    → (x ≡ Ok tt) ↔ IsBelieved scheme m issuer when → (y ≡ Ok tt) ↔ IsBelieved scheme n issuer when
believed wrap scheme m n issuer when x y same is b =
    subst (λ (k : MessageFields). (y ≡ Ok tt) ↔ IsBelieved scheme k issuer when) same
    (λ e. b.0 (none_failed wrap x (sym is ∙ e)), λ h. is ∙ ap (passed_on wrap) (b.1 h))

-- ---- under a list of keys

passed : {E : Type 0} (wrap : ValidationError → E) (x : Result ℕ ValidationError) (place : ℕ) → passed_on wrap x ≡ Ok place → x ≡ Ok place
passed wrap (Ok p) place e = let same : p ≡ place = cc in ap (λ (q : ℕ). Ok q) same
passed wrap (Err x) place e = cc

failed : {E : Type 0} (wrap : ValidationError → E) (x : Result ℕ ValidationError) (error : E) → passed_on wrap x ≡ Err error → (e : ValidationError) × (x ≡ Err e)
failed wrap (Ok p) error e = absurd (unlike e)
  where
    unlike : passed_on wrap (Ok p) ≡ Err error → ⊥
    unlike e = cc
failed wrap (Err x) error e = (x, refl)

pub any_believed : {E : Type 0} (wrap : ValidationError → E) (scheme : Relation) (m n : MessageFields) (keys : List KeyFields) (when : ℤ) (x : Result ℕ ValidationError) (y : Result ℕ E) → m ≡ n → y ≡ passed_on wrap x
    → ((place : ℕ) → (x ≡ Ok place) ↔ IsFirstBelieved scheme m keys when place) → (place : ℕ) → (y ≡ Ok place) ↔ IsFirstBelieved scheme n keys when place
any_believed wrap scheme m n keys when x y same is b place =
    subst (λ (k : MessageFields). (y ≡ Ok place) ↔ IsFirstBelieved scheme k keys when place) same
    (λ e. (b place).0 (passed wrap x place (sym is ∙ e)), λ h. is ∙ ap (passed_on wrap) ((b place).1 h))

pub any_none : {E : Type 0} (wrap : ValidationError → E) (scheme : Relation) (m n : MessageFields) (keys : List KeyFields) (when : ℤ) (x : Result ℕ ValidationError) (y : Result ℕ E) → m ≡ n → y ≡ passed_on wrap x
    → ((error : ValidationError) → x ≡ Err error → IsUnbelieved scheme m keys when) → (error : E) → y ≡ Err error → IsUnbelieved scheme n keys when
any_none wrap scheme m n keys when x y same is none error e =
    let f = failed wrap x error (sym is ∙ e) in subst (λ (k : MessageFields). IsUnbelieved scheme k keys when) same (none f.0 f.1)

pub any_answer : {E : Type 0} (wrap : ValidationError → E) (scheme : Relation) (m n : MessageFields) (keys : List KeyFields) (when : ℤ) (x : Result ℕ ValidationError) (y : Result ℕ E) → m ≡ n → y ≡ passed_on wrap x
    → ((os : List (Result (Unit {0}) ℕ)) → AreOutcomes scheme m keys when os → x ≡ failing kind_of (ranked os))
    → (os : List (Result (Unit {0}) ℕ)) → AreOutcomes scheme n keys when os → y ≡ passed_on wrap (failing kind_of (ranked os))
any_answer wrap scheme m n keys when x y same is holds =
    subst (λ (k : MessageFields). (os : List (Result (Unit {0}) ℕ)) → AreOutcomes scheme k keys when os → y ≡ passed_on wrap (failing kind_of (ranked os))) same (λ os h. is ∙ ap (passed_on wrap) (holds os h))
