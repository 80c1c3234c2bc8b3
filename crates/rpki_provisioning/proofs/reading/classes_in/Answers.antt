use Rattle.std.proofs.lemmas.Result.{err_from_is_err_and}
use Rattle.rpki_xml.specs.Tables.{each_of}
use Rattle.rpki_xml.proofs.Each.{each_starts, each_more, each_fails, each_done}
use Rattle.rpki_provisioning.specs.Class.{class_in}
use Rattle.rpki_provisioning.proofs.reading.classes_in.Goals as goal

pub elements-init : goal.elements-init
elements-init c = rw c.new-classes.ensures.items (each_starts class_in c.args.children)

pub returns-in_err-class : goal.returns-in_err-class
returns-in_err-class c =
    let p = err_from_is_err_and c.from_residual.result c.from_residual.ensures.1 in
    rw (p.1, p.2) (each_fails class_in c.in_err-class.field-0.0 c.elements.classes.items c.elements.children c.in-Some.e c.next.new.self (each_of class_in c.args.children) c.in-Some.ensures.steps c.in_err-class.ensures c.elements.invariant)

pub elements-preserved : goal.elements-preserved
elements-preserved c =
    rw c.in_ok-push.ensures.items (each_more class_in c.elements.classes.items c.elements.children c.in-Some.e c.next.new.self c.in_ok-class.class (each_of class_in c.args.children) c.in-Some.ensures.steps c.in_ok-class.ensures c.elements.invariant)

pub returns : goal.returns
returns c = rw c.from_vec.ensures (each_done class_in c.elements.classes.items c.elements.children (each_of class_in c.args.children) c.in_default.ensures.steps.0 c.elements.invariant)
