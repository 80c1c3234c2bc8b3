use Rattle.std.proofs.Common.{refl, sym, ap, ◌∙◌}
use Rattle.std.proofs.lemmas.List.{nil_from_length}
use Rattle.rpki_sets.specs.Runs.{union as union_of}
use Rattle.rpki_sets.proofs.RunLemmas.{union-nil}
use Rattle.rpki_sets.proofs.Joining.{start_joining, step_joined, step_pushed, not_near, all_joined}
use Rattle.rpki_sets.proofs.union.join.Goals.{then-is_joined, else-is_joined+in_ok-push}
use Rattle.rpki_sets.proofs.union.join.Goals as goal

pub each-init : goal.each-init
each-init c = rw c.new-joined.ensures.items (start_joining _ _ _ c.in-Some.ensures.cases.0 c.requires.ordered c.requires.ascending)

pub each-preserved : goal.each-preserved
each-preserved c = elim c.if-is_joined.branch [
  | then-is_joined w ↦ step_joined _ _ _ _ _ _ c.each-test.true c.each.invariant _ _ _ (ap (λ v. v.items) w.joined-is) w.held-is w.max.ensures (w.if-is_joined.ensures.0 refl)
  | else-is_joined+in_ok-push w ↦ step_pushed _ _ _ _ _ _ c.each-test.true c.each.invariant _ _ (ap (λ v. v.items) w.joined-is ∙ w.in_ok-push.ensures.items) w.held-is (not_near _ _ w.if-is_joined.ensures.1)
]

pub returns-in_default : goal.returns-in_default
returns-in_default c =
    c.new-joined.ensures.items ∙ sym (ap union_of (nil_from_length _ c.in_default.ensures.cases) ∙ union-nil)

pub returns : goal.returns
returns c = c.in_ok-push-2.ensures.items ∙ all_joined _ _ _ _ _ c.each-test.false c.requires.ordered c.each.invariant
