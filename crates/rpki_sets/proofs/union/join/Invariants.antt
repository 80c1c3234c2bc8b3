use Rattle.std.proofs.Common.{drop}
use Rattle.rpki_sets.proofs.Joining.{IsJoining}
use Rattle.rpki_sets.proofs.union.join.Given as goal

abbrev pub invariant-each : goal.invariant-each
invariant-each l = IsJoining l.runs l.joined.items l.held (drop l.next-index l.more)
