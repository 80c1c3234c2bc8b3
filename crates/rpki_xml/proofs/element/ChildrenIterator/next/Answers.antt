use Rattle.std.proofs.Common.{◌≡◌, [], None, length, ap, sym, subst, ◌∙◌, arith}
use Rattle.rpki_xml.specs.Element.{listed}
use Rattle.rpki_xml.specs.Lettered.{AreLettered}
use Rattle.rpki_xml.proofs.Flats.{splits, no_nodes}
use Rattle.rpki_xml.proofs.element.ChildrenIterator.next.Goals as goal

pub split_at-requires : goal.split_at-requires
split_at-requires c = (splits c.self.inside.source.now c.self.inside.nodes.now c.in_ok-node.node.now c.in_ok-node.rest.now c.in_ok-node.ensures.cases.0 c.self.invariant.0).fits

pub invariant_of-result : goal.invariant_of-result
invariant_of-result c =
    let s = splits c.self.inside.source.now c.self.inside.nodes.now c.in_ok-node.node.now c.in_ok-node.rest.now c.in_ok-node.ensures.cases.0 c.self.invariant.0 in
    let l = subst AreLettered s.tree c.self.invariant.1 in
    (l.0, rw c.split_at.ensures.front (s.below, l.1.0))

pub invariant_of-self : goal.invariant_of-self
invariant_of-self c =
    let s = splits c.self.inside.source.now c.self.inside.nodes.now c.in_ok-node.node.now c.in_ok-node.rest.now c.in_ok-node.ensures.cases.0 c.self.invariant.0 in
    let l = subst AreLettered s.tree c.self.invariant.1 in
    rw c.split_at.ensures.back (s.after, l.1.1)

pub returns-clause-steps : goal.returns-clause-steps
returns-clause-steps c =
    let s = splits c.self.inside.source.now c.self.inside.nodes.now c.in_ok-node.node.now c.in_ok-node.rest.now c.in_ok-node.ensures.cases.0 c.self.invariant.0 in
    rw (c.split_at.ensures.front, c.split_at.ensures.back) (ap listed (sym c.self.view_is ∙ s.tree))

pub returns-clause-goes : goal.returns-clause-goes
returns-clause-goes c =
    let e = returns-clause-steps c in
    let less = ap length e in
    record { on = λ f. (tt, tt, omega (arith, less)); keeps = tt; rests = λ f. tt }

pub returns-in_err-node-clause-steps : goal.returns-in_err-node-clause-steps
returns-in_err-node-clause-steps c =
    let m : listed c.args.self.now ≡ [] = ap listed (sym c.self.view_is ∙ no_nodes c.self.inside.source.now c.self.inside.nodes.now c.in_err-node.ensures.cases) in
    let e : c.from_residual.result ≡ None = c.from_residual.ensures in
    rw e (m, m)
