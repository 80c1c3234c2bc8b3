use Rattle.std.proofs.Common.{sym, ◌∙◌}
use Rattle.std.proofs.lemmas.Result.{err_from_is_err_and}
use Rattle.rpki_xmltext.proofs.Read.{none_through}
use Rattle.rpki_xml.specs.Element.{listed}
use Rattle.rpki_provisioning.specs.Class.{is_certificate, certificate_in}
use Rattle.rpki_provisioning.specs.Gathering.{each_slot}
use Rattle.rpki_provisioning.proofs.Collects.{step_more, step_none, step_done, kept_are}
use Rattle.rpki_provisioning.proofs.parts.issued_in.Goals as goal

pub returns-in_err-found : goal.returns-in_err-found
returns-in_err-found c =
    let p = err_from_is_err_and c.from_residual.result c.from_residual.ensures.1 in
    let are = kept_are is_certificate certificate_in (listed c.args.children) in
    rw (p.1, p.2) (none_through c.in_err-found.field-0.0 (each_slot is_certificate certificate_in c.elements.found c.in-Some.e) _
    (λ n. sym are ∙ step_none (each_slot is_certificate certificate_in) c.elements.found (listed c.elements.children) (listed c.next.new.self) c.in-Some.e _ c.in-Some.ensures.steps n c.elements.invariant) c.in_err-found.ensures)

pub elements-preserved : goal.elements-preserved
elements-preserved c =
    step_more (each_slot is_certificate certificate_in) c.elements.found c.in_ok-found.found (listed c.elements.children) (listed c.next.new.self) c.in-Some.e _ c.in-Some.ensures.steps c.in_ok-found.ensures c.elements.invariant

pub returns : goal.returns
returns c =
    sym (kept_are is_certificate certificate_in (listed c.args.children))
    ∙ step_done (each_slot is_certificate certificate_in) c.elements.found (listed c.elements.children) _ c.in_default.ensures.steps.0 c.elements.invariant
