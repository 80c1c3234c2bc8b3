use Rattle.std.proofs.Common.{◌≡◌, ◌++◌, drop, map}
use Rattle.rpki_c.specs.Arguments.{octet_of}
use Rattle.rpki_c.proofs.receiving.octets_of.Given as goal

abbrev pub invariant-loop-value : goal.invariant-loop-value
invariant-loop-value l = l.octets.items ++ map octet_of (drop l.value-index l.values) ≡ map octet_of l.values
