use Rattle.rpki_sets.proofs.Ipv4Laws.{ipv4_number-dotted, ipv4_number-sound}
use Rattle.rpki_sets.proofs.laws.ipv4_number_is.Goals as goal

pub returns-clause-reads : goal.returns-clause-reads
returns-clause-reads c = ipv4_number-dotted

pub returns-clause-only : goal.returns-clause-only
returns-clause-only c = ipv4_number-sound
