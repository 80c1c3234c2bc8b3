use Rattle.rpki_der.proofs.Counting.{takes_err}
use Rattle.rpki_der.proofs.Leftovers.{takes_alike, refuses_alike}
use Rattle.rpki_cert.proofs.Gathering.{tagged_is}
use Rattle.rpki_cert.proofs.cert.pass_extensions.Goals as goal

pub returns-in_err-take_tagged_extensions_counted : goal.returns-in_err-take_tagged_extensions_counted
returns-in_err-take_tagged_extensions_counted g c = takes_err _ _ _ _ _ _ _ _ _ c.from_residual.ensures.1 (refuses_alike _ _ _ _ _ _ _ (tagged_is _) c.in_err-take_tagged_extensions_counted.ensures)

pub returns : goal.returns
returns g c = takes_alike _ _ _ _ _ _ _ _ (tagged_is _) c.in_ok-take_tagged_extensions_counted.ensures
