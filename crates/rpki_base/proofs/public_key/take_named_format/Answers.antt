use Rattle.std.proofs.Common.{sym}
use Rattle.rpki_base.specs.PublicKey.{named_format}
use Rattle.rpki_der.proofs.Counting.{takes_err, takes_so, refuses_so, refuses_convert}
use Rattle.rpki_base.proofs.public_key.take_named_format.Goals as goal

pub returns-in_err-name : goal.returns-in_err-name
unfolding named_format
returns-in_err-name g c = takes_err _ _ _ _ _ _ _ _ _ c.from_residual.ensures.1 (refuses_so _ _ _ _ _ _ _ c.in_err-name.ensures)

pub returns-in-Some : goal.returns-in-Some
unfolding named_format
returns-in-Some g c = takes_so _ _ _ _ _ _ _ _ _ c.in_ok-name.ensures (sym c.in-Some.ensures)

pub returns-in-None : goal.returns-in-None
unfolding named_format
returns-in-None g c = refuses_convert _ _ _ _ _ _ _ _ c.in_ok-name.ensures (sym c.in-None.ensures)
