-- `==` of lists and options holds exactly between the same ones, where that of what they hold does.
use Rattle.std.proofs.Common.{◌≡◌, ◌↔◌, ℕ, Bool, true, false, List, [], ◌∷◌, Option, Some, None, refl, ap, subst, ◌∙◌}
use Rattle.std.specs.Prelude.{nat_eq}
use Rattle.std.specs.Cmp.Lexicographic.{pointwise}
use Rattle.std.specs.Option.{option_eq}
use Rattle.std.proofs.lemmas.Bool.{eqb-true, eq-eqb}
use Rattle.rpki_common.proofs.Truths.{both, are_true}
use Rattle.rpki_publication.specs.declared.query_pdu.QueryPdu.{QueryPdu}
use Rattle.rpki_publication.specs.declared.report_error_code.ReportErrorCode.{ReportErrorCode}
use Rattle.rpki_publication.specs.ReportError.{ReportErrorFields}

abbrev pub AreSame : {K : Type 0} → (K → K → Bool) → Type 0
AreSame {K} eq = (a b : K) → (eq a b ≡ true) ↔ (a ≡ b)

pub never : false ≡ true → ⊥
never e = cc

list_to : {K : Type 0} (eq : K → K → Bool) → AreSame eq → (xs ys : List K) → pointwise eq xs ys ≡ true → xs ≡ ys
list_to eq h [] [] e = refl
list_to eq h [] (y ∷ ys) e = absurd (never e)
list_to eq h (x ∷ xs) [] e = absurd (never e)
list_to {K} eq h (x ∷ xs) (y ∷ ys) e = let p = both (eq x y) (pointwise eq xs ys) e in ap (λ (z : K). z ∷ xs) ((h x y).0 p.0) ∙ ap (λ (l : List K). y ∷ l) (list_to eq h xs ys p.1)

list_itself : {K : Type 0} (eq : K → K → Bool) → AreSame eq → (xs : List K) → pointwise eq xs xs ≡ true
list_itself eq h [] = refl
list_itself eq h (x ∷ xs) = are_true (eq x x) (pointwise eq xs xs) ((h x x).1 refl) (list_itself eq h xs)

pub lists_same : {K : Type 0} (eq : K → K → Bool) → AreSame eq → AreSame (pointwise eq)
lists_same {K} eq h xs ys = (list_to eq h xs ys, λ e. subst (λ (l : List K). pointwise eq xs l ≡ true) e (list_itself eq h xs))

option_to : {K : Type 0} (eq : K → K → Bool) → AreSame eq → (a b : Option K) → option_eq eq a b ≡ true → a ≡ b
option_to eq h None None e = refl
option_to eq h None (Some y) e = absurd (never e)
option_to eq h (Some x) None e = absurd (never e)
option_to {K} eq h (Some x) (Some y) e = ap (λ (z : K). Some z) ((h x y).0 e)

option_itself : {K : Type 0} (eq : K → K → Bool) → AreSame eq → (a : Option K) → option_eq eq a a ≡ true
option_itself eq h None = refl
option_itself eq h (Some x) = (h x x).1 refl

pub options_same : {K : Type 0} (eq : K → K → Bool) → AreSame eq → AreSame (option_eq eq)
options_same {K} eq h a b = (option_to eq h a b, λ e. subst (λ (o : Option K). option_eq eq a o ≡ true) e (option_itself eq h a))

pub texts_same : AreSame (option_eq (pointwise nat_eq))
texts_same = options_same (pointwise nat_eq) (lists_same nat_eq (λ x y. (eqb-true x y, eq-eqb x y)))

pub report_is : (a b : ReportErrorFields) → a.error_code ≡ b.error_code → a.tag ≡ b.tag → a.error_text ≡ b.error_text → a.failed_pdu ≡ b.failed_pdu → a ≡ b
report_is a b p q r s =
    ap (λ (c : ReportErrorCode). record { error_code = c; tag = a.tag; error_text = a.error_text; failed_pdu = a.failed_pdu }) p
    ∙ ap (λ (t : Option (List ℕ)). record { error_code = b.error_code; tag = t; error_text = a.error_text; failed_pdu = a.failed_pdu }) q
    ∙ ap (λ (t : Option (List ℕ)). record { error_code = b.error_code; tag = b.tag; error_text = t; failed_pdu = a.failed_pdu }) r
    ∙ ap (λ (x : Option QueryPdu). record { error_code = b.error_code; tag = b.tag; error_text = b.error_text; failed_pdu = x }) s
