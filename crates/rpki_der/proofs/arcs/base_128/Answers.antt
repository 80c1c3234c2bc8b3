use Rattle.std.proofs.Common.{arith}
use Rattle.rpki_der.proofs.Dotted.{eight_octets}
use Rattle.rpki_der.proofs.arcs.base_128.Goals as goal

pub overflow_mul-number : goal.overflow_mul-number
overflow_mul-number c =
    let small = eight_octets _ _ c.loop-octet-test.true c.requires in omega (arith, small, c.loop-octet.invariant)

pub overflow_add-number : goal.overflow_add-number
overflow_add-number c =
    let small = eight_octets _ _ c.loop-octet-test.true c.requires in omega (arith, small, c.loop-octet.invariant, c.from.ensures)
