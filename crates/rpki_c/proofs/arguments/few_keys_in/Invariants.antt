use Rattle.std.proofs.Common.{◌≡◌, length}
use Rattle.rpki_c.proofs.ManyKeys.{AreRead}
use Rattle.rpki_c.proofs.arguments.few_keys_in.Given as goal

abbrev pub invariant-loop : goal.invariant-loop
invariant-loop l = AreRead l.octets l.list.items l.cursor × (length l.list.items ≡ l.counter)
