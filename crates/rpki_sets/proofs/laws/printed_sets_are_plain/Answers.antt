use Rattle.rpki_sets.proofs.Printed.{as_set_octets, ipv4_set_octets, ipv6_set_octets, set_octet_visible, set_octet_itself}
use Rattle.rpki_sets.proofs.laws.printed_sets_are_plain.Goals as goal

pub returns-clause-as_numbers : goal.returns-clause-as_numbers
returns-clause-as_numbers c = as_set_octets

pub returns-clause-ipv4 : goal.returns-clause-ipv4
returns-clause-ipv4 c = ipv4_set_octets

pub returns-clause-ipv6 : goal.returns-clause-ipv6
returns-clause-ipv6 c = ipv6_set_octets

pub returns-clause-visible : goal.returns-clause-visible
returns-clause-visible c = set_octet_visible

pub returns-clause-itself : goal.returns-clause-itself
returns-clause-itself c = set_octet_itself
