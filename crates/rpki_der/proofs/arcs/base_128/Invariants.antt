use Rattle.std.proofs.Common.{◌≡◌, take}
use Rattle.rpki_der.specs.Arcs.{base_128}
use Rattle.rpki_der.proofs.arcs.base_128.Given as goal

-- the number that the octets so far spell
abbrev pub invariant-loop-octet : goal.invariant-loop-octet
invariant-loop-octet l = l.number ≡ base_128 (take l.octet-index l.octets)
