use Rattle.std.proofs.Common.{take}
use Rattle.rpki_pubserver.specs.Deciding.{AreKnown}
use Rattle.rpki_pubserver.proofs.told.Told.has_all.Given as goal

-- something is known of each of the first
abbrev pub invariant-loop-change : goal.invariant-loop-change
invariant-loop-change l = AreKnown l.self (take l.change-index l.changes)
