use Rattle.std.proofs.Common.{sym}
use Rattle.rpki_der.proofs.Counting.{takes_err, takes_so, refuses_so, refuses_convert}
use Rattle.rpki_base.specs.Serial.{serial}
use Rattle.rpki_base.proofs.serial.Serial.take_from_counted.Goals as goal

pub returns-in_err-octets : goal.returns-in_err-octets
unfolding serial
returns-in_err-octets g c = takes_err _ _ _ _ _ _ _ _ _ c.from_residual.ensures.1 (refuses_so _ _ _ _ _ _ _ c.in_err-octets.ensures)

pub returns-in-Some : goal.returns-in-Some
unfolding serial
returns-in-Some g c = takes_so _ _ _ _ _ _ _ _ _ c.in_ok-octets.ensures (sym c.in-Some.ensures)

pub returns-in-None : goal.returns-in-None
unfolding serial
returns-in-None g c = refuses_convert _ _ _ _ _ _ _ _ c.in_ok-octets.ensures (sym c.in-None.ensures)
