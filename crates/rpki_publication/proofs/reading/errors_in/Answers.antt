use Rattle.std.proofs.lemmas.Result.{err_from_is_err_and}
use Rattle.rpki_xml.specs.Tables.{each_of}
use Rattle.rpki_xml.proofs.Each.{each_starts, each_more, each_fails, each_done}
use Rattle.rpki_publication.specs.ReportError.{report_error_in}
use Rattle.rpki_publication.proofs.reading.errors_in.Goals as goal

pub elements-init : goal.elements-init
elements-init c = rw (c.in_ok-errors.ensures.items, c.children-children.ensures) (each_starts report_error_in c.args.root.now.children)

pub returns-in_err-error : goal.returns-in_err-error
returns-in_err-error c =
    let p = err_from_is_err_and c.from_residual-in_err-error.result c.from_residual-in_err-error.ensures.1 in
    rw (p.1, p.2) (each_fails report_error_in c.in_err-error.field-0.0 c.elements.errors.items c.elements.children c.in-Some.e c.next.new.self (each_of report_error_in c.args.root.now.children) c.in-Some.ensures.steps c.in_err-error.ensures c.elements.invariant)

pub elements-preserved : goal.elements-preserved
elements-preserved c =
    rw c.in_ok-push.ensures.items (each_more report_error_in c.elements.errors.items c.elements.children c.in-Some.e c.next.new.self c.in_ok-error.error (each_of report_error_in c.args.root.now.children) c.in-Some.ensures.steps c.in_ok-error.ensures c.elements.invariant)

pub returns : goal.returns
returns c = each_done report_error_in c.elements.errors.items c.elements.children (each_of report_error_in c.args.root.now.children) c.in_default.ensures.steps.0 c.elements.invariant
