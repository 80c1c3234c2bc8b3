use Rattle.std.proofs.Common.{◌<◌, length, arith}
use Rattle.rpki_der.proofs.Nodes.{some_entry}
use Rattle.rpki_der.specs.Tree.{value_in}
use Rattle.rpki_der.proofs.tree.Tree.root.Goals as goal

pub unreachable-requires : goal.unreachable-requires
unreachable-requires c =
    let some : 0 < length c.self.inside.entries.items = some_entry (value_in c.self.inside.octets.items) c.self.inside.octets.items c.self.inside.entries.items c.self.invariant in
    let none = rw c.deref.ensures.value at c.in-None.ensures.cases in
    omega (arith, some, none)
