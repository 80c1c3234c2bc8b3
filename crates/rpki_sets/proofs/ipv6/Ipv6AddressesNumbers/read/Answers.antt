use Rattle.std.proofs.Common.{Some, sym, ap, ◌∙◌}
use Rattle.std.specs.Net.Addr.{ipv6_bits}
use Rattle.rpki_sets.proofs.Ipv6Laws.{ipv6_number-colon_hex, ipv6_number-none}
use Rattle.rpki_sets.proofs.ipv6.Ipv6AddressesNumbers.read.Goals as goal

pub returns-in-Ok : goal.returns-in-Ok
unfolding ipv6_bits
returns-in-Ok c = ap Some c.to_bits.ensures ∙ sym (ipv6_number-colon_hex c.args.text.now _ c.in-Ok.ensures)

pub returns-in-Err : goal.returns-in-Err
returns-in-Err c = sym (ipv6_number-none c.args.text.now (λ segments h. c.in-Err.ensures (record { segments = segments }) h))
