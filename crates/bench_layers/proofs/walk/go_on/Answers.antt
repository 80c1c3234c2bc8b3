use Rattle.std.proofs.Common.{◌≡◌, ap, subst, ◌∙◌, Ok}
use Rattle.rpki_der.specs.Position.{Position}
use Rattle.bench_layers.specs.Onward.{GoesOn}
use Rattle.bench_layers.proofs.Onwards.{over, none_next, none_left}
use Rattle.bench_layers.proofs.walk.go_on.Goals as goal

pub returns-in-Ok-Some-clause-ok : goal.returns-in-Ok-Some-clause-ok
returns-in-Ok-Some-clause-ok c =
    let still : c.enters-else-branch.new.cursor ≡ c.args.cursor.now = c.in_ok-enters-2.ensures.kept (ap Ok c.if-branch-2.false) ∙ c.in_ok-enters.ensures.kept (ap Ok c.if-branch.false) in
    subst (λ (p : Position). GoesOn p c.next_value.new.self) still (over _ _ _ (rw c.in-Ok-Some.field-0-is at c.in-Ok-Some.ensures.value))

pub returns-in-Ok-None-clause-malformed : goal.returns-in-Ok-None-clause-malformed
returns-in-Ok-None-clause-malformed c =
    let still : c.enters-else-branch.new.cursor ≡ c.args.cursor.now = c.in_ok-enters-2.ensures.kept (ap Ok c.if-branch-2.false) ∙ c.in_ok-enters.ensures.kept (ap Ok c.if-branch.false) in
    λ e. none_left _ _ still (rw c.in-Ok-None.field-0-is at c.in-Ok-None.ensures.value).0

pub returns-in-Err-clause-malformed : goal.returns-in-Err-clause-malformed
returns-in-Err-clause-malformed c =
    let still : c.enters-else-branch.new.cursor ≡ c.args.cursor.now = c.in_ok-enters-2.ensures.kept (ap Ok c.if-branch-2.false) ∙ c.in_ok-enters.ensures.kept (ap Ok c.if-branch.false) in
    λ e. none_next _ _ _ still c.in-Err.ensures.value e
