use Rattle.std.proofs.lemmas.Result.{err_from_is_err_and}
use Rattle.rpki_xml.specs.Tables.{each_of}
use Rattle.rpki_xml.proofs.Each.{each_starts, each_more, each_fails, each_done}
use Rattle.rpki_publication.specs.Change.{change_in}
use Rattle.rpki_publication.proofs.reading.changes_in.Goals as goal

pub elements-init : goal.elements-init
elements-init c = rw (c.in_ok-changes.ensures.items, c.children-children.ensures) (each_starts change_in c.args.root.now.children)

pub returns-in_err-change : goal.returns-in_err-change
returns-in_err-change c =
    let p = err_from_is_err_and c.from_residual-in_err-change.result c.from_residual-in_err-change.ensures.1 in
    rw (p.1, p.2) (each_fails change_in c.in_err-change.field-0.0 c.elements.changes.items c.elements.children c.in-Some.e c.next.new.self (each_of change_in c.args.root.now.children) c.in-Some.ensures.steps c.in_err-change.ensures c.elements.invariant)

pub elements-preserved : goal.elements-preserved
elements-preserved c =
    rw c.in_ok-push.ensures.items (each_more change_in c.elements.changes.items c.elements.children c.in-Some.e c.next.new.self c.in_ok-change.change (each_of change_in c.args.root.now.children) c.in-Some.ensures.steps c.in_ok-change.ensures c.elements.invariant)

pub returns : goal.returns
returns c = each_done change_in c.elements.changes.items c.elements.children (each_of change_in c.args.root.now.children) c.in_default.ensures.steps.0 c.elements.invariant
