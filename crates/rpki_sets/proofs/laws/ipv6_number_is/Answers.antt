use Rattle.rpki_sets.proofs.Ipv6Laws.{ipv6_number-colon_hex, ipv6_number-sound}
use Rattle.rpki_sets.proofs.laws.ipv6_number_is.Goals as goal

pub returns-clause-reads : goal.returns-clause-reads
returns-clause-reads c = ipv6_number-colon_hex

pub returns-clause-only : goal.returns-clause-only
returns-clause-only c = ipv6_number-sound
