use Rattle.rpki_sets.proofs.Printed.{as_read_again, ipv4_read_again, ipv6_read_again}
use Rattle.rpki_sets.proofs.laws.printed_set_is_read.Goals as goal

pub returns-clause-as_numbers : goal.returns-clause-as_numbers
returns-clause-as_numbers c = as_read_again

pub returns-clause-ipv4 : goal.returns-clause-ipv4
returns-clause-ipv4 c = ipv4_read_again

pub returns-clause-ipv6 : goal.returns-clause-ipv6
returns-clause-ipv6 c = ipv6_read_again
