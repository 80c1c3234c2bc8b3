use Rattle.rpki_sets.proofs.Ipv4Laws.{ipv4_lawful}
use Rattle.rpki_sets.proofs.ipv4.Ipv4AddressesNumbers.law.Goals as goal

pub returns : goal.returns
returns c = ipv4_lawful
