use Rattle.std.proofs.Common.{ap, sym, ◌∙◌}
use Rattle.rpki_der.proofs.Nodes.{children_of, no_children}
use Rattle.rpki_der.specs.Item.{item}
use Rattle.rpki_der.specs.Tree.{value_in}
use Rattle.rpki_der.proofs.tree.Node.children.Goals as goal

pub invariant_of-result : goal.invariant_of-result
invariant_of-result c =
    let w = no_children (value_in c.self.inside.octets.now) c.self.inside.octets.now c.self.inside.entry c.self.inside.inner.now c.self.invariant c.if-not-self.true in w.nodes'

pub returns-then-not-self : goal.returns-then-not-self
returns-then-not-self c =
    let w = no_children (value_in c.self.inside.octets.now) c.self.inside.octets.now c.self.inside.entry c.self.inside.inner.now c.self.invariant c.if-not-self.true in
    rw (← c.self.view_is) w.each'

pub invariant_of-result-2 : goal.invariant_of-result-2
invariant_of-result-2 c =
    let is = c.content-octets.ensures ∙ ap (λ v. (item v).content) (sym c.self.view_is) in
    let w = children_of (value_in c.self.inside.octets.now) c.self.inside.octets.now c.content-octets.result.now c.self.inside.entry c.self.inside.inner.now c.self.invariant c.if-not-self.false is in w.nodes'

pub returns : goal.returns
returns c =
    let is = c.content-octets.ensures ∙ ap (λ v. (item v).content) (sym c.self.view_is) in
    let w = children_of (value_in c.self.inside.octets.now) c.self.inside.octets.now c.content-octets.result.now c.self.inside.entry c.self.inside.inner.now c.self.invariant c.if-not-self.false is in
    rw (← c.self.view_is) w.each'
