use Rattle.std.proofs.Common.{sym}
use Rattle.rpki_der.proofs.Counting.{takes_err, takes_so, refuses_so, refuses_convert}
use Rattle.rpki_cert.specs.KeyUsage.{key_usage}
use Rattle.rpki_cert.proofs.key_usage.take_key_usage.Goals as goal

pub returns-in_err-unused : goal.returns-in_err-unused
unfolding key_usage
returns-in_err-unused g c = takes_err _ _ _ _ _ _ _ _ _ c.from_residual.ensures.1 (refuses_so _ _ _ _ _ _ _ c.in_err-unused.ensures)

pub returns-in-Some : goal.returns-in-Some
unfolding key_usage
returns-in-Some g c = takes_so _ _ _ _ _ _ _ _ _ c.in_ok-unused.ensures (sym c.in-Some.ensures)

pub returns-in-None : goal.returns-in-None
unfolding key_usage
returns-in-None g c = refuses_convert _ _ _ _ _ _ _ _ c.in_ok-unused.ensures (sym c.in-None.ensures)
