use Rattle.std.proofs.Common.{List, ℕ, ap, subst}
use Rattle.std.specs.Fmt.{HasWritten}
use Rattle.std.specs.Net.Addr.{IsIpv4OfBits}
use Rattle.std.specs.Net.Text.{ipv4_text}
use Rattle.rpki_sets.specs.Ipv4Addresses.{ipv4_number_text}
use Rattle.rpki_sets.proofs.ipv4.Ipv4AddressesNumbers.write.Goals as goal

pub returns : goal.returns
unfolding ipv4_number_text IsIpv4OfBits
returns g c =
    λ p ok. subst (λ (text : List ℕ). HasWritten g.W.Write.write_str_gives c.args.f.now text c.write.new.self) (ap ipv4_text c.from_bits-address.ensures) (c.write.ensures.writes p ok)
