-- The elements of a parent's response, one after the other.
use Rattle.std.proofs.Common.{◌≡◌, ℕ, Bool, true, false, ◌||◌, List, [], ◌∷◌, Option, Some, None, refl, sym, ap, ◌∙◌}
use Rattle.std.specs.Prelude.{filter, if◌then◌else◌}
use Rattle.rpki_common.specs.Chaining.{◌>>=◌}
use Rattle.rpki_common.specs.Collecting.{collect, allowed, last_slot, both}
use Rattle.rpki_common.specs.Items as items
use Rattle.rpki_common.proofs.Collected.{bind_both, collect_optional, collect_only, collect_last}
use Rattle.rpki_xml.specs.Element.{Element, Elements, listed}
use Rattle.rpki_xml.specs.Tables.{require}
use Rattle.rpki_setup.specs.ParentResponse.{holds_certificate, is_passed_over, may_stand, some_certificate, last_certificate_in}
use Rattle.rpki_setup.specs.ResponseStep.{response_step}

abbrev Found : Type 0
Found = Option (List ℕ)

abbrev pair : Found → Option (Unit {0} × Found)
pair found = Some (tt, found)

abbrev joint : Unit {0} × Found → Element → Option (Unit {0} × Found)
joint s a = both (allowed may_stand) (last_slot holds_certificate some_certificate) s a

-- one element in both ways
one : (found : Found) (e : Element) → joint (tt, found) e ≡ (response_step found e >>= pair)
unfolding both allowed last_slot ◌>>=◌
one found e = go (holds_certificate e) (is_passed_over e) (some_certificate e)
  where
    go : (holds passed : Bool) (read : Option Found)
        → ((if holds || passed then Some tt else None) >>= λ x. (if holds then read else Some found) >>= λ y. Some (x, y)) ≡ ((if holds then read else (require passed >>= λ _. Some found)) >>= pair)
    go true passed None = refl
    go true passed (Some f) = refl
    go false true read = refl
    go false false read = refl

after : (o : Option Found) (more : List Element) → ((f : Found) → collect joint (tt, f) more ≡ (collect response_step f more >>= pair)) → ((o >>= pair) >>= λ st. collect joint st more) ≡ ((o >>= λ f. collect response_step f more) >>= pair)
unfolding ◌>>=◌
after None more h = refl
after (Some f) more h = h f

all : (found : Found) (list : List Element) → collect joint (tt, found) list ≡ (collect response_step found list >>= pair)
unfolding collect ◌>>=◌
all found [] = refl
all found (e ∷ more) = ap (λ o. o >>= λ st. collect joint st more) (one found e) ∙ after (response_step found e) more (λ f. all f more)

abbrev second : Unit {0} → Found → Found
second x found = found

last_of : (o : Option Found) → ((o >>= pair) >>= λ st. second st.0 st.1) ≡ (o >>= λ found. found)
unfolding ◌>>=◌
last_of None = refl
last_of (Some f) = refl

-- what the elements are read as, by the steps
pub last_is : (children : Elements) → last_certificate_in children ≡ (collect response_step None (listed children) >>= λ found. found)
unfolding last_certificate_in
last_is children =
    let list = listed children in
    bind_both (items.only may_stand list) (collect (allowed may_stand) tt list) (λ _. items.the_last None some_certificate (filter holds_certificate list) >>= λ found. found) (λ x. collect (last_slot holds_certificate some_certificate) None list >>= second x)
    (sym (collect_only may_stand list)) (λ x. ap (λ o. o >>= λ found. found) (sym (collect_last holds_certificate some_certificate None list)))
    ∙ sym (collect_optional (allowed may_stand) (last_slot holds_certificate some_certificate) tt None list second)
    ∙ ap (λ o. o >>= λ st. second st.0 st.1) (all None list)
    ∙ last_of (collect response_step None list)

-- ---- the loop

pub step_more : (found next : Found) (list rest : List Element) (e : Element) (total : Option Found) → list ≡ e ∷ rest → response_step found e ≡ Some next → collect response_step found list ≡ total → collect response_step next rest ≡ total
unfolding collect ◌>>=◌
step_more found next list rest e total is read so_far = sym (ap (collect response_step found) is ∙ ap (λ o. o >>= λ f. collect response_step f rest) read) ∙ so_far

pub step_none : (found : Found) (list rest : List Element) (e : Element) (total : Option Found) → list ≡ e ∷ rest → response_step found e ≡ None → collect response_step found list ≡ total → total ≡ None
unfolding collect ◌>>=◌
step_none found list rest e total is read so_far = sym so_far ∙ ap (collect response_step found) is ∙ ap (λ o. o >>= λ f. collect response_step f rest) read

pub none_read : (children : Elements) → collect response_step None (listed children) ≡ None → last_certificate_in children ≡ None
unfolding ◌>>=◌
none_read children e = last_is children ∙ ap (λ o. o >>= λ found. found) e

pub all_read : (children : Elements) (found : Found) (list : List Element) → list ≡ [] → collect response_step found list ≡ collect response_step None (listed children) → last_certificate_in children ≡ found
unfolding collect ◌>>=◌
all_read children found list none so_far = last_is children ∙ ap (λ o. o >>= λ f. f) (sym so_far ∙ ap (collect response_step found) none)
