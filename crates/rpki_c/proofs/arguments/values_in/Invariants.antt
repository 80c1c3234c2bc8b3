use Rattle.std.proofs.Common.{◌≡◌, ◌++◌, drop, map}
use Rattle.rpki_c.specs.Arguments.{octet_of}
use Rattle.rpki_c.proofs.arguments.values_in.Given as goal

abbrev pub invariant-loop-octet : goal.invariant-loop-octet
invariant-loop-octet l = map octet_of l.values.items ++ drop l.octet-index l.octets ≡ l.octets
