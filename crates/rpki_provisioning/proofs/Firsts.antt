-- The first of the elements, and the one of a list.
use Rattle.std.proofs.Common.{◌≡◌, ℕ, true, false, None, Some, List, [], ◌∷◌, ◌++◌, length, take, ◌-◌, refl, subst, ap, ◌∙◌}
use Rattle.std.specs.Prelude.{◌==◌}
use Rattle.std.proofs.lemmas.Bool.{eqb-true}
use Rattle.std.proofs.lemmas.List.{nil_from_length, append-nil}
use Rattle.rpki_common.specs.Chaining.{◌>>=◌}
use Rattle.rpki_common.specs.Items as items
use Rattle.rpki_updown.specs.Entitlements.{ClassOf, IssuedOf}
use Rattle.rpki_xml.specs.Element.{Element, Elements, listed}
use Rattle.rpki_xml.specs.Tables.{at_most_one_child}
use Rattle.rpki_xml.proofs.Listed.{next_is, next_none}
use Rattle.rpki_provisioning.specs.Class.{issuance_of_class}
use Rattle.rpki_provisioning.specs.NotPerformed.{status_in, description_where_there, not_performed_in}

-- ---- the one of a list

one_none : {X : Type 0} (list : List X) → list ≡ [] → items.the_one (λ x. Some x) list ≡ None
unfolding items.the_one
one_none list e = rw e refl

pub no_last : {X : Type 0} (list rest : List X) (n : ℕ) → list ≡ rest ++ [] → rest ≡ take (n - 1) list → n ≡ 0 → items.the_one (λ x. Some x) list ≡ None
no_last {X} list rest n is front none = one_none list (is ∙ append-nil rest ∙ front ∙ ap (λ (k : ℕ). take (k - 1) list) none ∙ take_none list)
  where
    take_none : (l : List X) → take (0 - 1) l ≡ []
    take_none [] = refl
    take_none (x ∷ l) = refl

many : {X : Type 0} (front : List X) (last : X) → (length front == 0) ≡ false → items.the_one (λ x. Some x) (front ++ last ∷ []) ≡ None
unfolding items.the_one
many [] last e = cc
many (x ∷ []) last e = refl
many (x ∷ y ∷ more) last e = refl

pub more_than_one : {X : Type 0} (list front : List X) (last : X) → list ≡ front ++ last ∷ [] → (length front == 0) ≡ false → items.the_one (λ x. Some x) list ≡ None
more_than_one {X} list front last is some = ap (λ (l : List X). items.the_one (λ x. Some x) l) is ∙ many front last some

alone : {X : Type 0} (front : List X) (last : X) → (length front == 0) ≡ true → items.the_one (λ x. Some x) (front ++ last ∷ []) ≡ Some last
unfolding items.the_one
alone [] last e = refl
alone (x ∷ front) last e = let none = nil_from_length (x ∷ front) (eqb-true (length (x ∷ front)) 0 e) in absurd cc

pub just_one : {X : Type 0} (list front : List X) (last : X) → list ≡ front ++ last ∷ [] → (length front == 0) ≡ true → items.the_one (λ x. Some x) list ≡ Some last
just_one {X} list front last is none = ap (λ (l : List X). items.the_one (λ x. Some x) l) is ∙ alone front last none

pub none_of_class : {C : Type 0} (class' : ClassOf C) (list : List (IssuedOf C)) → list ≡ class'.issued_certs → items.the_one (λ i. Some i) list ≡ None → issuance_of_class class' ≡ None
unfolding issuance_of_class ◌>>=◌
none_of_class {C} class' list is none = let e : items.the_one (λ i. Some i) class'.issued_certs ≡ None = subst (λ (l : List (IssuedOf C)). items.the_one (λ i. Some i) l ≡ None) is none in rw e refl

-- ---- the first of the elements is the status

pub first_status : (children rest : Elements) (e : Element) → listed children ≡ e ∷ listed rest
    → not_performed_in children ≡ (status_in e >>= λ status. at_most_one_child rest >>= λ found. description_where_there found >>= λ text. Some (record { status = status; description = text }))
unfolding not_performed_in
first_status children rest e split = ap not_performed_in (next_is children e rest split)

pub no_status : (children : Elements) → listed children ≡ [] → not_performed_in children ≡ None
unfolding not_performed_in
no_status children end = ap not_performed_in (next_none children end)
