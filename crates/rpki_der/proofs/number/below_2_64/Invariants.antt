use Rattle.std.proofs.Common.{◌≡◌, take}
use Rattle.rpki_der.specs.Lengths.{number}
use Rattle.rpki_der.proofs.number.below_2_64.Given as goal

-- the number that the octets so far spell
abbrev pub invariant-loop-octet : goal.invariant-loop-octet
invariant-loop-octet l = l.number ≡ number (take l.octet-index l.octets)
