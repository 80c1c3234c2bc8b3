-- The text of an address that has a number's bits.
use Rattle.std.proofs.Common.{◌≡◌, ℕ, ap, ◌∙◌}
use Rattle.std.specs.declared.net.ipv6_addr.Ipv6Addr.{Ipv6Addr}
use Rattle.std.specs.declared.net.display.HexGroups.{HexGroups}
use Rattle.std.specs.Net.Addr.{ipv6_segments, IsIpv6OfBits}
use Rattle.std.specs.Net.Text.{hex_groups_text, hex_groups_addr}
use Rattle.rpki_sets.specs.Ipv6Addresses.{ipv6_number_text}

pub written_groups : (groups : HexGroups) (address : Ipv6Addr) (n : ℕ) → IsIpv6OfBits address n → hex_groups_addr groups ≡ address → hex_groups_text (ipv6_segments (hex_groups_addr groups)) ≡ ipv6_number_text n
unfolding IsIpv6OfBits ipv6_number_text
written_groups groups address n h e = ap (λ a. hex_groups_text (ipv6_segments a)) e ∙ ap hex_groups_text h
