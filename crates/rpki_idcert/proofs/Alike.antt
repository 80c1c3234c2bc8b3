-- Fields that are equal, part by part, are the same.
use Rattle.std.proofs.Common.{◌≡◌, ℕ, ℤ, Bool, true, false, Option, None, Some, List, refl, ap, ◌∙◌}
use Rattle.std.specs.Prelude.{◌&&◌, ◌↔◌, bytes_eq, Decides}
use Rattle.std.specs.Bool.{beq}
use Rattle.std.specs.Option.{option_eq}
use Rattle.std.specs.Ordering.{int_eq}
use Rattle.std.proofs.lemmas.Bool.Decides.{Decides-int_eq}
use Rattle.std.proofs.lemmas.Slice.Eq.{bytes_eq-Decides}
use Rattle.rpki_common.proofs.Truths.{both, are_true}
use Rattle.rpki_base.specs.declared.algorithm.PublicKeyFormat.{PublicKeyFormat}
use Rattle.rpki_base.specs.PublicKey.{KeyFields}
use Rattle.rpki_base.specs.Validity.{ValidityFields}
use Rattle.rpki_idcert.specs.TbsIdCert.{TbsFields}

and_decides : {P Q : Type 0} (s t : Bool) → Decides s P → Decides t Q → Decides (s && t) (P × Q)
and_decides s t d e = (
  (λ h. let p = both s t h in (d.0 p.0, e.0 p.1)),
  (λ w. are_true s t (d.1 w.0) (e.1 w.1)),
)

flags_decide : (a b : Bool) → Decides (beq a b) (a ≡ b)
flags_decide true true = (λ _. refl, λ _. refl)
flags_decide false false = (λ _. refl, λ _. refl)
flags_decide true false = (λ e. absurd cc, λ e. absurd cc)
flags_decide false true = (λ e. absurd cc, λ e. absurd cc)

options_decide : {X : Type 0} (eq : X → X → Bool) → ((x y : X) → Decides (eq x y) (x ≡ y)) → (o p : Option X) → Decides (option_eq eq o p) (o ≡ p)
options_decide eq d None None = (λ _. refl, λ _. refl)
options_decide eq d None (Some y) = (λ e. absurd cc, λ e. absurd cc)
options_decide eq d (Some x) None = (λ e. absurd cc, λ e. absurd cc)
options_decide eq d (Some x) (Some y) = (λ e. ap Some ((d x y).0 e), λ e. let same : x ≡ y = cc in (d x y).1 same)

abbrev validity_of : ℤ → ℤ → ValidityFields
validity_of first last = record { not_before = first; not_after = last }

abbrev key_of : PublicKeyFormat → List ℕ → KeyFields
key_of format bits = record { format = format; bits = bits }

abbrev made : List ℕ → List ℕ → ℤ → ℤ → List ℕ → PublicKeyFormat → List ℕ → Option Bool → List ℕ → Option (List ℕ) → TbsFields
made serial issuer first last subject format bits ca id authority = record {
  serial = serial;
  issuer = issuer;
  validity = validity_of first last;
  subject = subject;
  key = key_of format bits;
  basic_ca = ca;
  subject_key_id = id;
  authority_key_id = authority;
}

same_made : (s s' i i' : List ℕ) (f f' l l' : ℤ) (u u' : List ℕ) (t t' : PublicKeyFormat) (b b' : List ℕ) (c c' : Option Bool) (d d' : List ℕ) (a a' : Option (List ℕ)) → s ≡ s' → i ≡ i' → f ≡ f' → l ≡ l' → u ≡ u' → t ≡ t' → b ≡ b' → c ≡ c' → d ≡ d' → a ≡ a' → made s i f l u t b c d a ≡ made s' i' f' l' u' t' b' c' d' a'
same_made s s' i i' f f' l l' u u' t t' b b' c c' d d' a a' p1 p2 p3 p4 p5 p6 p7 p8 p9 p10 =
    ap (λ x. made x i f l u t b c d a) p1
    ∙ ap (λ x. made s' x f l u t b c d a) p2
    ∙ ap (λ x. made s' i' x l u t b c d a) p3
    ∙ ap (λ x. made s' i' f' x u t b c d a) p4
    ∙ ap (λ x. made s' i' f' l' x t b c d a) p5
    ∙ ap (λ x. made s' i' f' l' u' x b c d a) p6
    ∙ ap (λ x. made s' i' f' l' u' t' x c d a) p7
    ∙ ap (λ x. made s' i' f' l' u' t' b' x d a) p8
    ∙ ap (λ x. made s' i' f' l' u' t' b' c' x a) p9
    ∙ ap (λ x. made s' i' f' l' u' t' b' c' d' x) p10

pub fields_decide : (formats : PublicKeyFormat → PublicKeyFormat → Bool) (identifiers : List ℕ → List ℕ → Bool) → ((x y : PublicKeyFormat) → Decides (formats x y) (x ≡ y)) → ((x y : List ℕ) → Decides (identifiers x y) (x ≡ y)) → (a b : TbsFields)
    → ((bytes_eq a.serial b.serial && (bytes_eq a.issuer b.issuer && ((int_eq a.validity.not_before b.validity.not_before && int_eq a.validity.not_after b.validity.not_after) && (bytes_eq a.subject b.subject && ((formats a.key.format b.key.format && bytes_eq a.key.bits b.key.bits) && (option_eq beq a.basic_ca b.basic_ca && (bytes_eq a.subject_key_id b.subject_key_id && option_eq identifiers a.authority_key_id b.authority_key_id))))))) ≡ true) ↔ (a ≡ b)
fields_decide formats identifiers df di a b =
    let d = and_decides _ _ (bytes_eq-Decides a.serial b.serial) (and_decides _ _ (bytes_eq-Decides a.issuer b.issuer) (and_decides _ _ (and_decides _ _ (Decides-int_eq a.validity.not_before b.validity.not_before) (Decides-int_eq a.validity.not_after b.validity.not_after)) (and_decides _ _ (bytes_eq-Decides a.subject b.subject) (and_decides _ _ (and_decides _ _ (df a.key.format b.key.format) (bytes_eq-Decides a.key.bits b.key.bits)) (and_decides _ _ (options_decide beq flags_decide a.basic_ca b.basic_ca) (and_decides _ _ (bytes_eq-Decides a.subject_key_id b.subject_key_id) (options_decide identifiers di a.authority_key_id b.authority_key_id))))))) in (
      (λ e. let w = d.0 e in same_made _ _ _ _ _ _ _ _ _ _ _ _ _ _ _ _ _ _ _ _ w.0 w.1.0 w.1.1.0.0 w.1.1.0.1 w.1.1.1.0 w.1.1.1.1.0.0 w.1.1.1.1.0.1 w.1.1.1.1.1.0 w.1.1.1.1.1.1.0 w.1.1.1.1.1.1.1),
      (λ e. d.1 (ap (λ (t : TbsFields). t.serial) e, (ap (λ (t : TbsFields). t.issuer) e, ((ap (λ (t : TbsFields). t.validity.not_before) e, ap (λ (t : TbsFields). t.validity.not_after) e), (ap (λ (t : TbsFields). t.subject) e, ((ap (λ (t : TbsFields). t.key.format) e, ap (λ (t : TbsFields). t.key.bits) e), (ap (λ (t : TbsFields). t.basic_ca) e, (ap (λ (t : TbsFields). t.subject_key_id) e, ap (λ (t : TbsFields). t.authority_key_id) e)))))))),
    )
