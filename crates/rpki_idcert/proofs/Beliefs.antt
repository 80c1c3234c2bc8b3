-- What the checks of identity certificates mean: Ok comes exactly where a certificate is believed.
use Rattle.std.proofs.Common.{◌≡◌, ℤ, Bool, true, false, Result, Ok, refl, sym, ap, ◌∙◌}
use Rattle.std.specs.Prelude.{◌↔◌, Decides, OnOk}
use Rattle.rpki_base.specs.Checks.{first_failure, failing, IsSigned}
use Rattle.rpki_base.specs.PublicKey.{KeyFields}
use Rattle.rpki_base.specs.Scheme.{Relation}
use Rattle.rpki_base.specs.declared.validation.ValidationError.{ValidationError}
use Rattle.rpki_base.proofs.Believing.{none_failing, held_where_ok, passes_where_ok, ok_where_passes}
use Rattle.rpki_idcert.specs.IdCert.{CertificateFields}
use Rattle.rpki_idcert.specs.Checks.{names_itself, ee_checks, ee_kind, IsEeBelieved, ta_checks, ta_kind, IsTaBelieved}

pub ee_believed : (scheme : Relation) (c : CertificateFields) (issuer : KeyFields) (when : ℤ) (r : Result (Unit {0}) ValidationError) → OnOk r (IsSigned scheme c issuer)
    → ((q : Bool) → Decides q (IsSigned scheme c issuer) → r ≡ failing ee_kind (first_failure 1 (ee_checks c issuer when q))) → (r ≡ Ok tt) ↔ IsEeBelieved scheme c issuer when
ee_believed scheme c issuer when r signed first = (
  (λ e. let s = held_where_ok r signed e in
      record { signed = s; passes = passes_where_ok ee_kind (IsSigned scheme c issuer) 1 (ee_checks c issuer when) r first s e }),
  (λ b. ok_where_passes ee_kind (IsSigned scheme c issuer) 1 (ee_checks c issuer when) r first b.signed b.passes),
)

-- where the certificate names itself, its signature is asked; where it doesn't, nothing is
ta_passes : (scheme : Relation) (c : CertificateFields) (when : ℤ) (r : Result (Unit {0}) ValidationError) (b : Bool) → names_itself c.tbs ≡ b → (b ≡ true → IsSigned scheme c c.tbs.key)
    → ((q : Bool) → Decides q (IsSigned scheme c c.tbs.key) → r ≡ failing ta_kind (first_failure 1 (ta_checks c when q)))
    → (b ≡ false → r ≡ failing ta_kind (first_failure 1 (ta_checks c when true))) → r ≡ failing ta_kind (first_failure 1 (ta_checks c when true))
ta_passes scheme c when r true is signed first unasked = first true ((λ _. signed refl), (λ _. refl))
ta_passes scheme c when r false is signed first unasked = unasked refl

pub ta_believed : (scheme : Relation) (c : CertificateFields) (when : ℤ) (r : Result (Unit {0}) ValidationError) → OnOk r (names_itself c.tbs ≡ true → IsSigned scheme c c.tbs.key)
    → ((q : Bool) → Decides q (IsSigned scheme c c.tbs.key) → r ≡ failing ta_kind (first_failure 1 (ta_checks c when q)))
    → (names_itself c.tbs ≡ false → r ≡ failing ta_kind (first_failure 1 (ta_checks c when true))) → (r ≡ Ok tt) ↔ IsTaBelieved scheme c when
ta_believed scheme c when r signed first unasked = (
  (λ e. let s = held_where_ok r signed e in
      let is = ta_passes scheme c when r (names_itself c.tbs) refl s first unasked in
      record { signed = s; passes = none_failing ta_kind (first_failure 1 (ta_checks c when true)) (sym e ∙ is) }),
  (λ b. ta_passes scheme c when r (names_itself c.tbs) refl b.signed first unasked ∙ ap (failing ta_kind) b.passes),
)
