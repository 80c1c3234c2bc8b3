-- The loops that pass spaces.
use Rattle.std.proofs.Common.{◌≡◌, ◌≢◌, ℕ, List, [], ◌∷◌, ◌++◌, reverse, refl, sym, ap, ◌∙◌}
use Rattle.std.proofs.lemmas.Bool.{cond-true, cond-false, eq-eqb, ne_eqb}
use Rattle.std.proofs.lemmas.List.{reverse-append, reverse-reverse}
use Rattle.rpki_sets.specs.Texts.{skip_spaces}

pub skip_spaces-nil : skip_spaces [] ≡ []
unfolding skip_spaces
skip_spaces-nil = refl

pub skip_spaces-space : (octet : ℕ) (more : List ℕ) → octet ≡ 32 → skip_spaces (octet ∷ more) ≡ skip_spaces more
unfolding skip_spaces
skip_spaces-space octet more e = cond-true _ _ _ (eq-eqb octet 32 e)

pub skip_spaces-other : (octet : ℕ) (more : List ℕ) → octet ≢ 32 → skip_spaces (octet ∷ more) ≡ octet ∷ more
unfolding skip_spaces
skip_spaces-other octet more e = cond-false _ _ _ (ne_eqb octet 32 e)

-- ---- from the front, over a text that begins with an octet

pub pass_front : (text rest : List ℕ) (octet : ℕ) (more : List ℕ) → rest ≡ octet ∷ more → octet ≡ 32 → skip_spaces rest ≡ skip_spaces text → skip_spaces more ≡ skip_spaces text
pass_front text rest octet more is e so = sym (skip_spaces-space octet more e) ∙ sym (ap skip_spaces is) ∙ so

pub stop_front : (text rest : List ℕ) (octet : ℕ) (more : List ℕ) → rest ≡ octet ∷ more → octet ≢ 32 → skip_spaces rest ≡ skip_spaces text → rest ≡ skip_spaces text
stop_front text rest octet more is e so = is ∙ sym (skip_spaces-other octet more e) ∙ sym (ap skip_spaces is) ∙ so

pub end_front : (text rest : List ℕ) → rest ≡ [] → skip_spaces rest ≡ skip_spaces text → rest ≡ skip_spaces text
end_front text rest none so = none ∙ sym skip_spaces-nil ∙ sym (ap skip_spaces none) ∙ so

-- ---- from the back, over a text that ends with an octet

abbrev pub from_back : List ℕ → List ℕ
from_back text = reverse (skip_spaces (reverse text))

reverse-last : (octet : ℕ) (front : List ℕ) → reverse (front ++ octet ∷ []) ≡ octet ∷ reverse front
reverse-last octet front = reverse-append front (octet ∷ [])

pub pass_back : (text rest : List ℕ) (octet : ℕ) (front : List ℕ) → rest ≡ front ++ octet ∷ [] → octet ≡ 32 → from_back rest ≡ from_back text → from_back front ≡ from_back text
pass_back text rest octet front is e so =
    ap reverse (sym (skip_spaces-space octet (reverse front) e) ∙ sym (ap skip_spaces (reverse-last octet front))) ∙ sym (ap from_back is) ∙ so

pub stop_back : (text rest : List ℕ) (octet : ℕ) (front : List ℕ) → rest ≡ front ++ octet ∷ [] → octet ≢ 32 → from_back rest ≡ from_back text → rest ≡ from_back text
stop_back text rest octet front is e so =
    let kept : skip_spaces (reverse rest) ≡ reverse rest =
    ap (λ x. skip_spaces (reverse x)) is ∙ ap skip_spaces (reverse-last octet front) ∙ skip_spaces-other octet (reverse front) e ∙ sym (reverse-last octet front) ∙ sym (ap reverse is) in
    sym (ap reverse kept ∙ reverse-reverse rest) ∙ so

pub end_back : (text rest : List ℕ) → rest ≡ [] → from_back rest ≡ from_back text → rest ≡ from_back text
end_back text rest none so = none ∙ sym (ap reverse skip_spaces-nil) ∙ sym (ap from_back none) ∙ so
