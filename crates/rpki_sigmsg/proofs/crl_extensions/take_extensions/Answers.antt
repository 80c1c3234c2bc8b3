use Rattle.rpki_der.proofs.Leftovers.{all_alike}
use Rattle.rpki_sigmsg.proofs.CrlGathering.{tagged_is}
use Rattle.rpki_sigmsg.proofs.crl_extensions.take_extensions.Goals as goal

pub returns : goal.returns
returns g c = all_alike _ _ _ _ _ _ _ _ _ (tagged_is _) c.take_tagged_extensions_counted.ensures
