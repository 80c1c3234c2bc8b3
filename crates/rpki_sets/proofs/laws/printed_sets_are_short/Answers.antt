use Rattle.rpki_sets.proofs.Lengths.{as_set_short, ipv4_set_short, ipv6_set_short}
use Rattle.rpki_sets.proofs.laws.printed_sets_are_short.Goals as goal

pub returns-clause-as_numbers : goal.returns-clause-as_numbers
returns-clause-as_numbers c = as_set_short

pub returns-clause-ipv4 : goal.returns-clause-ipv4
returns-clause-ipv4 c = ipv4_set_short

pub returns-clause-ipv6 : goal.returns-clause-ipv6
returns-clause-ipv6 c = ipv6_set_short
