use Rattle.std.proofs.Common.{◌≡◌, ◌++◌, drop}
use Rattle.rpki_external.proofs.asked.cloned.Given as goal

abbrev pub invariant-loop-key : goal.invariant-loop-key
invariant-loop-key l = l.list.items ++ drop l.key-index l.keys ≡ l.keys
