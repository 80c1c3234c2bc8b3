use Rattle.std.proofs.lemmas.Result.{err_from_is_err_and}
use Rattle.rpki_xml.specs.Element.{listed}
use Rattle.rpki_xmltext.proofs.Read.{none_through}
use Rattle.rpki_publication.specs.Details.{details_step}
use Rattle.rpki_publication.proofs.Reports.{step_more, step_none, none_read, all_read}
use Rattle.rpki_publication.proofs.details.details_in.Goals as goal

pub returns-in_err-found : goal.returns-in_err-found
returns-in_err-found c =
    let p = err_from_is_err_and c.from_residual.result c.from_residual.ensures.1 in
    rw (p.1, p.2) (none_through c.in_err-found.field-0.0 (details_step c.elements.found c.in-Some.e) _
    (λ n. none_read c.args.children (step_none c.elements.found (listed c.elements.children) (listed c.next.new.self) c.in-Some.e _ c.in-Some.ensures.steps n c.elements.invariant)) c.in_err-found.ensures)

pub elements-preserved : goal.elements-preserved
elements-preserved c =
    step_more c.elements.found c.in_ok-found.found (listed c.elements.children) (listed c.next.new.self) c.in-Some.e _ c.in-Some.ensures.steps c.in_ok-found.ensures c.elements.invariant

pub returns : goal.returns
returns c = all_read c.args.children c.elements.found (listed c.elements.children) c.in_default.ensures.steps.0 c.elements.invariant
