-- The octets of a number without the zeros in front.
use Rattle.std.proofs.Common.{◌≡◌, ◌≢◌, ℕ, List, [], ◌∷◌, refl, sym, ap, ◌∙◌}
use Rattle.std.proofs.lemmas.Bool.{cond-true, cond-false, eq-eqb, ne_eqb}
use Rattle.rpki_base.specs.Serial.{significant}

significant-nil : significant [] ≡ []
unfolding significant
significant-nil = refl

significant-zero : (octet : ℕ) (more : List ℕ) → octet ≡ 0 → significant (octet ∷ more) ≡ significant more
unfolding significant
significant-zero octet more e = cond-true _ _ _ (eq-eqb octet 0 e)

significant-other : (octet : ℕ) (more : List ℕ) → octet ≢ 0 → significant (octet ∷ more) ≡ octet ∷ more
unfolding significant
significant-other octet more e = cond-false _ _ _ (ne_eqb octet 0 e)

-- ---- the loop, where the rest has the same significant octets as all

pub pass_zero : (octets rest : List ℕ) (octet : ℕ) (more : List ℕ) → rest ≡ octet ∷ more → octet ≡ 0 → significant rest ≡ significant octets → significant more ≡ significant octets
pass_zero octets rest octet more is e so = sym (significant-zero octet more e) ∙ sym (ap significant is) ∙ so

pub stop_other : (octets rest : List ℕ) (octet : ℕ) (more : List ℕ) → rest ≡ octet ∷ more → octet ≢ 0 → significant rest ≡ significant octets → rest ≡ significant octets
stop_other octets rest octet more is e so = is ∙ sym (significant-other octet more e) ∙ sym (ap significant is) ∙ so

pub end_zeros : (octets rest : List ℕ) → rest ≡ [] → significant rest ≡ significant octets → rest ≡ significant octets
end_zeros octets rest none so = none ∙ sym significant-nil ∙ sym (ap significant none) ∙ so
