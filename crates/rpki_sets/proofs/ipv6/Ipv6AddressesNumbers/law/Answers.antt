use Rattle.rpki_sets.proofs.Ipv6Laws.{ipv6_lawful}
use Rattle.rpki_sets.proofs.ipv6.Ipv6AddressesNumbers.law.Goals as goal

pub returns : goal.returns
returns c = ipv6_lawful
