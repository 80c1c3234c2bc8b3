use Rattle.std.proofs.Common.{sym}
use Rattle.rpki_der.proofs.Counting.{takes_err, takes_so, refuses_so, refuses_convert}
use Rattle.rpki_der.proofs.Leftovers.{takes_alike, refuses_alike}
use Rattle.rpki_idcert.proofs.Gathering.{tagged_is}
use Rattle.rpki_idcert.proofs.extensions.take_extensions.Goals as goal

pub returns-in_err-found : goal.returns-in_err-found
returns-in_err-found g c = takes_err _ _ _ _ _ _ _ _ _ c.from_residual.ensures.1 (refuses_alike _ _ _ _ _ _ _ (tagged_is _) (refuses_so _ _ _ _ _ _ _ c.in_err-found.ensures))

pub returns-in-Some : goal.returns-in-Some
returns-in-Some g c = takes_alike _ _ _ _ _ _ _ _ (tagged_is _) (takes_so _ _ _ _ _ _ _ _ _ c.in_ok-found.ensures (sym c.in-Some.ensures))

pub returns-in-None : goal.returns-in-None
returns-in-None g c = refuses_alike _ _ _ _ _ _ _ (tagged_is _) (refuses_convert _ _ _ _ _ _ _ _ c.in_ok-found.ensures (sym c.in-None.ensures))
