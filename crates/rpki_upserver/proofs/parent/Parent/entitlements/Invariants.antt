use Rattle.std.proofs.Common.{◌≡◌, map, take}
use Rattle.rpki_upserver.specs.Table.{entitled}
use Rattle.rpki_upserver.proofs.parent.Parent.entitlements.Given as goal

abbrev pub invariant-loop-class : goal.invariant-loop-class
invariant-loop-class l = l.told.items ≡ map entitled (take l.class-index l.self.table)
