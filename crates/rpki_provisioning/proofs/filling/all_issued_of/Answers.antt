use Rattle.std.proofs.Common.{rules, sym, ◌∙◌}
use Rattle.std.proofs.lemmas.List.{nil_from_length}
use Rattle.std.proofs.lemmas.Result.{err_from_is_err_and}
use Rattle.rpki_updown.specs.declared.error.Error.TheVariants.{CertSyntax}
use Rattle.rpki_provisioning.specs.Filling.{issued_size}
use Rattle.rpki_provisioning.specs.Shape.{certificate_of, issued_by}
use Rattle.rpki_provisioning.proofs.Fills.{starts, more, fails, not_kept, done}
use Rattle.rpki_provisioning.proofs.filling.all_issued_of.Goals as goal

pub shapes-init : goal.shapes-init
shapes-init g c =
    rw c.new-all.ensures.items (starts (issued_by certificate_of) issued_size c.args.shapes c.into_iter-left.result.rest.items c.args.steps.now (c.into_iter-left.ensures.rest ∙ c.into_vec.ensures))

pub returns-in_err-issued : goal.returns-in_err-issued
returns-in_err-issued g c =
    let p = err_from_is_err_and c.from_residual.result c.from_residual.ensures.1 in
    rw (p.1, p.2) (fails CertSyntax c.in_err-issued.field-0.0 (issued_by certificate_of) issued_size c.args.shapes c.shapes.left.rest.items c.next.new.self.rest.items c.shapes.all.items c.in-Some.shape
    c.args.steps.now c.shapes.steps c.issued_of.new.steps c.in-Some.ensures.items c.shapes.invariant c.in_err-issued.ensures)

pub shapes-smaller : goal.shapes-smaller
shapes-smaller g c = search rules

pub shapes-preserved : goal.shapes-preserved
shapes-preserved g c =
    rw c.in_ok-push.ensures.items (more (issued_by certificate_of) issued_size c.args.shapes c.shapes.left.rest.items c.next.new.self.rest.items c.shapes.all.items c.in-Some.shape c.in_ok-issued.issued
    c.args.steps.now c.shapes.steps c.issued_of.new.steps c.in-Some.ensures.items c.shapes.invariant c.in_ok-issued.ensures)

pub returns-in_err-push : goal.returns-in_err-push
returns-in_err-push g c =
    let p = err_from_is_err_and c.from_residual-in_err-push.result c.from_residual-in_err-push.ensures.1 in
    rw (p.1, p.2) (not_kept CertSyntax (issued_by certificate_of) issued_size c.args.shapes c.shapes.left.rest.items c.next.new.self.rest.items c.shapes.all.items c.in-Some.shape c.in_ok-issued.issued
    c.args.steps.now c.shapes.steps c.issued_of.new.steps c.in-Some.ensures.items c.shapes.invariant c.in_ok-issued.ensures)

pub returns : goal.returns
returns g c = done (issued_by certificate_of) issued_size c.args.shapes c.shapes.left.rest.items c.shapes.all.items c.args.steps.now c.shapes.steps (nil_from_length c.shapes.left.rest.items (sym c.shapes.left.rest.ok.0 ∙ c.in_default.ensures.cases.0)) c.shapes.invariant
