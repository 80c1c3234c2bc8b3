-- Signed data that are equal, part by part, are the same.
use Rattle.std.proofs.Common.{◌≡◌, ℕ, Bool, true, List, ap, ◌∙◌}
use Rattle.std.specs.Prelude.{◌&&◌, bytes_eq}
use Rattle.rpki_common.proofs.Truths.{both, are_true, same_octets, equal_octets}
use Rattle.rpki_base.specs.Signature.{SignatureParts}
use Rattle.rpki_base.specs.SignedData.{SignedParts}

abbrev made : {A : Type 0} → List ℕ → A → List ℕ → SignedParts A
made s a v = record { slice = s; signature = record { algorithm = a; value = v } }

same_parts : {A : Type 0} (s s' : List ℕ) (a a' : A) (v v' : List ℕ) → s ≡ s' → a ≡ a' → v ≡ v' → made s a v ≡ made s' a' v'
same_parts s s' a a' v v' e f g = ap (λ x. made x a v) e ∙ ap (λ x. made s' x v) f ∙ ap (λ x. made s' a' x) g

pub equal_same : {A : Type 0} (eq : A → A → Bool) (a b : SignedParts A) → ((x y : A) → eq x y ≡ true → x ≡ y) → (bytes_eq a.slice b.slice && (eq a.signature.algorithm b.signature.algorithm && bytes_eq a.signature.value b.signature.value)) ≡ true → a ≡ b
equal_same eq a b same e =
    let p = both _ _ e in
    let q = both _ _ p.1 in
    same_parts _ _ _ _ _ _ (same_octets _ _ p.0) (same _ _ q.0) (same_octets _ _ q.1)

pub same_equal : {A : Type 0} (eq : A → A → Bool) (a b : SignedParts A) → ((x : A) → eq x x ≡ true) → a ≡ b → (bytes_eq a.slice b.slice && (eq a.signature.algorithm b.signature.algorithm && bytes_eq a.signature.value b.signature.value)) ≡ true
same_equal eq a b equal e = rw e (are_true _ _ (equal_octets b.slice) (are_true _ _ (equal b.signature.algorithm) (equal_octets b.signature.value)))

-- ---- signatures

abbrev signature : {A : Type 0} → A → List ℕ → SignatureParts A
signature a v = record { algorithm = a; value = v }

same_signature_parts : {A : Type 0} (a a' : A) (v v' : List ℕ) → a ≡ a' → v ≡ v' → signature a v ≡ signature a' v'
same_signature_parts a a' v v' e f = ap (λ x. signature x v) e ∙ ap (λ x. signature a' x) f

pub equal_signatures : {A : Type 0} (eq : A → A → Bool) (a b : SignatureParts A) → ((x y : A) → eq x y ≡ true → x ≡ y) → (eq a.algorithm b.algorithm && bytes_eq a.value b.value) ≡ true → a ≡ b
equal_signatures eq a b same e =
    let q = both _ _ e in
    same_signature_parts _ _ _ _ (same _ _ q.0) (same_octets _ _ q.1)

pub same_signatures : {A : Type 0} (eq : A → A → Bool) (a b : SignatureParts A) → ((x : A) → eq x x ≡ true) → a ≡ b → (eq a.algorithm b.algorithm && bytes_eq a.value b.value) ≡ true
same_signatures eq a b equal e = rw e (are_true _ _ (equal b.algorithm) (equal_octets b.value))
