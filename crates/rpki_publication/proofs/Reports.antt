-- The elements in the report of an error, one after the other.
use Rattle.std.proofs.Common.{◌≡◌, ℕ, Bool, true, false, ◌||◌, List, [], ◌∷◌, Option, Some, None, refl, sym, ap, subst, ◌∙◌}
use Rattle.std.specs.Prelude.{filter, if◌then◌else◌, codes}
use Rattle.std.specs.Str.{bytes_eq}
use Rattle.rpki_common.specs.Chaining.{◌>>=◌}
use Rattle.rpki_common.specs.Collecting.{collect, allowed, last_slot, both}
use Rattle.rpki_common.specs.Items as items
use Rattle.rpki_common.proofs.Collected.{bind_both, collect_optional, collect_only, collect_last}
use Rattle.rpki_common.proofs.Truths.{same_octets, equal_octets}
use Rattle.rpki_xml.specs.Element.{Element, Elements, listed}
use Rattle.rpki_xml.specs.Name.{local_name}
use Rattle.rpki_xml.specs.Tables.{require}
use Rattle.rpki_publication.specs.declared.query_pdu.QueryPdu.{QueryPdu}
use Rattle.rpki_publication.specs.Details.{nothing_found, details_step}
use Rattle.rpki_publication.specs.ReportError.{ErrorDetails, is_error_text, is_failed_pdu, is_detail, error_text_in, failed_pdu_in, details_in}

abbrev Text : Type 0
Text = Option (List ℕ)

abbrev Pdu : Type 0
Pdu = Option QueryPdu

-- no element is both
differs : (n : List ℕ) → n ≡ codes "error_text" → n ≡ codes "failed_pdu" → ⊥
differs n e f = never (subst (λ (l : List ℕ). bytes_eq (codes "error_text") l ≡ true) (sym e ∙ f) (equal_octets (codes "error_text")))
  where
    never : false ≡ true → ⊥
    never e = cc

not_both : (e : Element) → is_error_text e ≡ true → is_failed_pdu e ≡ false
not_both e t = go (is_failed_pdu e) refl
  where
    go : (b : Bool) → is_failed_pdu e ≡ b → b ≡ false
    go false f = refl
    go true f = absurd (differs (local_name e.head.name) (same_octets _ _ t) (same_octets _ _ f))

-- ---- one element in three ways

abbrev pair : Text → Pdu → Element → Option (Text × Pdu)
pair text pdu e = both (last_slot is_error_text error_text_in) (last_slot is_failed_pdu failed_pdu_in) (text, pdu) e

abbrev joint : Unit {0} × (Text × Pdu) → Element → Option (Unit {0} × (Text × Pdu))
joint s e = both (allowed is_detail) (both (last_slot is_error_text error_text_in) (last_slot is_failed_pdu failed_pdu_in)) s e

abbrev as_joint : ErrorDetails → Option (Unit {0} × (Text × Pdu))
as_joint d = Some (tt, (d.error_text, d.failed_pdu))

one : (d : ErrorDetails) (e : Element) → joint (tt, (d.error_text, d.failed_pdu)) e ≡ (details_step d e >>= as_joint)
unfolding both allowed last_slot ◌>>=◌
one d e = go (is_error_text e) (is_failed_pdu e) (not_both e) (error_text_in e) (failed_pdu_in e)
  where
    go : (is_text is_pdu : Bool) → (is_text ≡ true → is_pdu ≡ false) → (read : Option Text) (found : Option Pdu)
        → ((if is_text || is_pdu then Some tt else None) >>= λ x. ((if is_text then read else Some d.error_text) >>= λ t. (if is_pdu then found else Some d.failed_pdu) >>= λ p. Some (t, p)) >>= λ y. Some (x, y))
        ≡ ((if is_text then (read >>= λ text. Some (record { error_text = text; failed_pdu = d.failed_pdu })) else (require is_pdu >>= λ _. found >>= λ pdu. Some (record { error_text = d.error_text; failed_pdu = pdu }))) >>= as_joint)
    go true true apart read found = absurd (unlike (apart refl))
      where
        unlike : true ≡ false → ⊥
        unlike e = cc
    go true false apart None found = refl
    go true false apart (Some t) found = refl
    go false true apart read None = refl
    go false true apart read (Some p) = refl
    go false false apart read found = refl

after : (o : Option ErrorDetails) (more : List Element) → ((d : ErrorDetails) → collect joint (tt, (d.error_text, d.failed_pdu)) more ≡ (collect details_step d more >>= as_joint))
    → ((o >>= as_joint) >>= λ st. collect joint st more) ≡ ((o >>= λ d. collect details_step d more) >>= as_joint)
unfolding ◌>>=◌
after None more h = refl
after (Some d) more h = h d

all : (d : ErrorDetails) (list : List Element) → collect joint (tt, (d.error_text, d.failed_pdu)) list ≡ (collect details_step d list >>= as_joint)
unfolding collect ◌>>=◌
all d [] = refl
all d (e ∷ more) = ap (λ o. o >>= λ st. collect joint st more) (one d e) ∙ after (details_step d e) more (λ d. all d more)

abbrev made : Text → Pdu → Option ErrorDetails
made text pdu = Some (record { error_text = text; failed_pdu = pdu })

last_of : (o : Option ErrorDetails) → ((o >>= as_joint) >>= λ st. made st.1.0 st.1.1) ≡ o
unfolding ◌>>=◌
last_of None = refl
last_of (Some d) = refl

-- what the elements are read as, by the steps
pub details_are : (children : Elements) → details_in children ≡ collect details_step nothing_found (listed children)
unfolding details_in
details_are children =
    let list = listed children in
    let texts : items.the_last None error_text_in (filter is_error_text list) ≡ collect (last_slot is_error_text error_text_in) None list = sym (collect_last is_error_text error_text_in None list) in
    let pdus : items.the_last None failed_pdu_in (filter is_failed_pdu list) ≡ collect (last_slot is_failed_pdu failed_pdu_in) None list = sym (collect_last is_failed_pdu failed_pdu_in None list) in
    bind_both (items.only is_detail list) (collect (allowed is_detail) tt list) _ (λ x. collect (both (last_slot is_error_text error_text_in) (last_slot is_failed_pdu failed_pdu_in)) (None, None) list >>= λ y. made y.0 y.1)
    (sym (collect_only is_detail list))
    (λ x. bind_both _ _ _ _ texts (λ t. ap (λ o. o >>= λ p. made t p) pdus) ∙ sym (collect_optional (last_slot is_error_text error_text_in) (last_slot is_failed_pdu failed_pdu_in) None None list made))
    ∙ sym (collect_optional (allowed is_detail) (both (last_slot is_error_text error_text_in) (last_slot is_failed_pdu failed_pdu_in)) tt (None, None) list (λ x y. made y.0 y.1))
    ∙ ap (λ o. o >>= λ st. made st.1.0 st.1.1) (all nothing_found list)
    ∙ last_of (collect details_step nothing_found list)

-- ---- the loop

pub step_more : (found next : ErrorDetails) (list rest : List Element) (e : Element) (total : Option ErrorDetails) → list ≡ e ∷ rest → details_step found e ≡ Some next → collect details_step found list ≡ total → collect details_step next rest ≡ total
unfolding collect ◌>>=◌
step_more found next list rest e total is read so_far = sym (ap (collect details_step found) is ∙ ap (λ o. o >>= λ d. collect details_step d rest) read) ∙ so_far

pub step_none : (found : ErrorDetails) (list rest : List Element) (e : Element) (total : Option ErrorDetails) → list ≡ e ∷ rest → details_step found e ≡ None → collect details_step found list ≡ total → total ≡ None
unfolding collect ◌>>=◌
step_none found list rest e total is read so_far = sym so_far ∙ ap (collect details_step found) is ∙ ap (λ o. o >>= λ d. collect details_step d rest) read

pub none_read : (children : Elements) → collect details_step nothing_found (listed children) ≡ None → details_in children ≡ None
none_read children e = details_are children ∙ e

pub all_read : (children : Elements) (found : ErrorDetails) (list : List Element) → list ≡ [] → collect details_step found list ≡ collect details_step nothing_found (listed children) → details_in children ≡ Some found
unfolding collect
all_read children found list none so_far = details_are children ∙ sym so_far ∙ ap (collect details_step found) none
