use Rattle.rpki_der.proofs.Nodes.{contents}
use Rattle.rpki_der.specs.Tree.{value_in}
use Rattle.rpki_der.proofs.tree.Node.content.Goals as goal

pub returns : goal.returns
returns c =
    let w = contents (value_in c.self.inside.octets.now) c.self.inside.octets.now c.self.inside.entry c.self.inside.inner.now c.self.invariant in
    rw (← c.self.view_is) w.content
