use Rattle.std.proofs.Common.{length}
use Rattle.rpki_c.proofs.KnownRecords.{AreRead}
use Rattle.rpki_c.proofs.known.all_in.Given as goal

abbrev pub invariant-loop-rest : goal.invariant-loop-rest
invariant-loop-rest l = AreRead l.octets l.list.items l.rest

abbrev pub decreases-loop-rest : goal.decreases-loop-rest
decreases-loop-rest l = length l.rest
