use Rattle.rpki_der.specs.Bits.{bit_string}
use Rattle.rpki_der.proofs.Reading.{not_ended}
use Rattle.rpki_der.proofs.Wholes.{whole_more, whole_none, whole_memory, whole_err}
use Rattle.rpki_der.proofs.leaf.BitString.take.Goals as goal

pub returns-in_err-unused : goal.returns-in_err-unused
returns-in_err-unused c = whole_err _ _ _ _ _ _ c.from_residual.ensures.1 (whole_none _ _ _ c.new-cursor.result _ c.new-cursor.ensures c.in_err-unused.ensures)

pub returns-then-not-end : goal.returns-then-not-end
returns-then-not-end c = whole_more bit_string _ _ c.new-cursor.result _ _ c.new-cursor.ensures c.in_ok-unused.ensures (not_ended c.if-not-end.ensures)

pub returns-in_err-octets : goal.returns-in_err-octets
returns-in_err-octets c = whole_err _ _ _ _ _ _ c.from_residual-in_err-octets.ensures.1 (whole_memory _ _ _)
