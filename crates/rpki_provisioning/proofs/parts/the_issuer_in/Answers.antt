use Rattle.std.proofs.Common.{◌≡◌, Option, Some, None, List, refl, sym, ◌∙◌, ℕ}
use Rattle.std.proofs.lemmas.Result.{err_from_is_err_and}
use Rattle.rpki_common.specs.Chaining.{◌>>=◌}
use Rattle.rpki_common.specs.Collecting.{slot, collect}
use Rattle.rpki_common.proofs.Collected.{collect_the_one}
use Rattle.rpki_xmltext.proofs.Read.{none_through}
use Rattle.rpki_xml.specs.Element.{Element, listed}
use Rattle.rpki_provisioning.specs.Class.{is_issuer, issuer_in}
use Rattle.rpki_provisioning.proofs.Collects.{step_more, step_none, step_done}
use Rattle.rpki_provisioning.proofs.parts.the_issuer_in.Goals as goal

abbrev step : Option (List ℕ) → Element → Option (Option (List ℕ))
step = slot is_issuer issuer_in

itself : {X : Type 0} (o : Option (Option X)) (x : Option X) → o ≡ Some x → (o >>= λ y. y) ≡ x
unfolding ◌>>=◌
itself o x e = rw e refl

nothing : {X : Type 0} (o : Option (Option X)) → o ≡ None → (o >>= λ y. y) ≡ None
unfolding ◌>>=◌
nothing o e = rw e refl

pub returns-in_err-found : goal.returns-in_err-found
returns-in_err-found c =
    let p = err_from_is_err_and c.from_residual.result c.from_residual.ensures.1 in
    let are = collect_the_one is_issuer issuer_in (listed c.args.children) in
    rw (p.1, p.2) (none_through c.in_err-found.field-0.0 (step c.elements.found c.in-Some.e) _
    (λ n. sym are ∙ nothing (collect step None (listed c.args.children)) (step_none step c.elements.found (listed c.elements.children) (listed c.next.new.self) c.in-Some.e _ c.in-Some.ensures.steps n c.elements.invariant)) c.in_err-found.ensures)

pub elements-preserved : goal.elements-preserved
elements-preserved c = step_more step c.elements.found c.in_ok-found.found (listed c.elements.children) (listed c.next.new.self) c.in-Some.e _ c.in-Some.ensures.steps c.in_ok-found.ensures c.elements.invariant

pub returns-in-None : goal.returns-in-None
returns-in-None c =
    sym (collect_the_one is_issuer issuer_in (listed c.args.children))
    ∙ itself (collect step None (listed c.args.children)) c.elements.found (step_done step c.elements.found (listed c.elements.children) _ c.in_default.ensures.steps.0 c.elements.invariant)
    ∙ c.in-None.is

pub returns-in-Some-found : goal.returns-in-Some-found
returns-in-Some-found c =
    sym (collect_the_one is_issuer issuer_in (listed c.args.children))
    ∙ itself (collect step None (listed c.args.children)) c.elements.found (step_done step c.elements.found (listed c.elements.children) _ c.in_default.ensures.steps.0 c.elements.invariant)
    ∙ c.in-Some-found.is
