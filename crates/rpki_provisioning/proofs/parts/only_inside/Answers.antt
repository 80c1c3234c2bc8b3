use Rattle.std.proofs.lemmas.Result.{err_from_is_err_and}
use Rattle.rpki_xml.specs.Element.{listed}
use Rattle.rpki_provisioning.specs.Class.{is_inside}
use Rattle.rpki_provisioning.proofs.Collects.{only_more, only_fails, only_done}
use Rattle.rpki_provisioning.proofs.parts.only_inside.Goals as goal

pub returns-in_err-require : goal.returns-in_err-require
returns-in_err-require c =
    let p = err_from_is_err_and c.from_residual.result c.from_residual.ensures.1 in
    rw p.1 (only_fails is_inside (listed c.elements.children) (listed c.next.new.self) c.in-Some.e _ c.in-Some.ensures.steps (rw c.is_inside.ensures at c.in_err-require.ensures) c.elements.invariant)

pub elements-preserved : goal.elements-preserved
elements-preserved c =
    only_more is_inside (listed c.elements.children) (listed c.next.new.self) c.in-Some.e _ c.in-Some.ensures.steps (rw c.is_inside.ensures at c.in_ok-require.ensures) c.elements.invariant

pub returns : goal.returns
returns c = only_done is_inside (listed c.elements.children) _ c.in_default.ensures.steps.0 c.elements.invariant
