use Rattle.std.proofs.Common.{◌≡◌, ◌*◌, take, length}
use Rattle.hex.specs.Hex.{encode_upper}
use Rattle.rpki_base.proofs.key_identifier.upper_text.Given as goal

abbrev pub invariant-loop-i : goal.invariant-loop-i
invariant-loop-i l = (length l.out ≡ 40) × (length l.octets ≡ 20) × (take (2 * l.i) l.out ≡ encode_upper (take l.i l.octets))
