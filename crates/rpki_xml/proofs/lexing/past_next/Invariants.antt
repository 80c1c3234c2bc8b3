use Rattle.std.proofs.Common.{◌≡◌, ◌≤◌, length}
use Rattle.rpki_xml.specs.Lexing.{past_next}
use Rattle.rpki_xml.proofs.lexing.past_next.Given as goal

abbrev pub invariant-loop-from : goal.invariant-loop-from
invariant-loop-from l = (past_next l.close l.from ≡ past_next l.close l.b) × (length l.from ≤ length l.b)

abbrev pub decreases-loop-from : goal.decreases-loop-from
decreases-loop-from l = length l.from
