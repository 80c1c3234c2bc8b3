use Rattle.std.proofs.lemmas.Result.{err_from_is_err_and}
use Rattle.rpki_xml.specs.Tables.{each_of}
use Rattle.rpki_xml.proofs.Each.{each_starts, each_more, each_fails, each_done}
use Rattle.rpki_publication.specs.ListReply.{list_element_in}
use Rattle.rpki_publication.proofs.reading.objects_in.Goals as goal

pub elements-init : goal.elements-init
elements-init c = rw (c.in_ok-objects.ensures.items, c.children-children.ensures) (each_starts list_element_in c.args.root.now.children)

pub returns-in_err-object : goal.returns-in_err-object
returns-in_err-object c =
    let p = err_from_is_err_and c.from_residual-in_err-object.result c.from_residual-in_err-object.ensures.1 in
    rw (p.1, p.2) (each_fails list_element_in c.in_err-object.field-0.0 c.elements.objects.items c.elements.children c.in-Some.e c.next.new.self (each_of list_element_in c.args.root.now.children) c.in-Some.ensures.steps c.in_err-object.ensures c.elements.invariant)

pub elements-preserved : goal.elements-preserved
elements-preserved c =
    rw c.in_ok-push.ensures.items (each_more list_element_in c.elements.objects.items c.elements.children c.in-Some.e c.next.new.self c.in_ok-object.object (each_of list_element_in c.args.root.now.children) c.in-Some.ensures.steps c.in_ok-object.ensures c.elements.invariant)

pub returns : goal.returns
returns c = each_done list_element_in c.elements.objects.items c.elements.children (each_of list_element_in c.args.root.now.children) c.in_default.ensures.steps.0 c.elements.invariant
