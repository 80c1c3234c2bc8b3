use Rattle.rpki_sets.proofs.Printed.{as_set_read, ipv4_set_read, ipv6_set_read}
use Rattle.rpki_sets.proofs.laws.read_sets_are_sets.Goals as goal

pub returns-clause-as_numbers : goal.returns-clause-as_numbers
returns-clause-as_numbers c = as_set_read

pub returns-clause-ipv4 : goal.returns-clause-ipv4
returns-clause-ipv4 c = ipv4_set_read

pub returns-clause-ipv6 : goal.returns-clause-ipv6
returns-clause-ipv6 c = ipv6_set_read
