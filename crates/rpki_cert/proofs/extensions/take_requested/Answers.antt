use Rattle.rpki_cert.proofs.Captured.{takes_view}
use Rattle.rpki_cert.specs.Gathered.{complete}
use Rattle.rpki_cert.proofs.Gathering.{list_is}
use Rattle.rpki_cert.proofs.extensions.take_requested.Goals as goal

pub returns : goal.returns
returns g c = takes_view _ _ _ complete _ _ _ _ _ _ (list_is _) c.take_extensions_counted.ensures
