use Rattle.std.proofs.Common.{Some, sym, ap, ◌∙◌}
use Rattle.std.specs.Net.Addr.{ipv4_bits}
use Rattle.rpki_sets.proofs.Ipv4Laws.{ipv4_number-dotted, ipv4_number-none}
use Rattle.rpki_sets.proofs.ipv4.Ipv4AddressesNumbers.read.Goals as goal

pub returns-in-Ok : goal.returns-in-Ok
unfolding ipv4_bits
returns-in-Ok c = ap Some (c.from.ensures ∙ c.to_bits.ensures) ∙ sym (ipv4_number-dotted c.args.text.now _ c.in-Ok.ensures)

pub returns-in-Err : goal.returns-in-Err
returns-in-Err c = sym (ipv4_number-none c.args.text.now (λ octets h. c.in-Err.ensures (record { octets = octets }) h))
