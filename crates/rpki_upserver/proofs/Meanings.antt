-- What the program's own texts mean.
use Rattle.std.proofs.Common.{IsSome, codes, refl}
use Rattle.std.specs.Net.Reader.{read_ipv4, read_ipv6, read_number, read_octet, read_segment, read_segments}
use Rattle.rpki_common.specs.Chaining.{◌>>=◌}
use Rattle.rpki_sets.specs.AsNumbers.{as_kind, as_number}
use Rattle.rpki_sets.specs.Ipv4Addresses.{ipv4_kind, ipv4_number}
use Rattle.rpki_sets.specs.Ipv6Addresses.{ipv6_kind, ipv6_number}
use Rattle.rpki_sets.specs.Kinds.{blocks_of, item, range, runs_of}
use Rattle.rpki_sets.specs.Texts.{cut, decimal_below, parts, read_all, skip_spaces, trimmed}

pub asn_means : IsSome (blocks_of as_kind (codes "1-10"))
unfolding blocks_of runs_of item range as_number decimal_below parts trimmed skip_spaces cut read_all ◌>>=◌
asn_means = refl

pub ipv4_means : IsSome (blocks_of ipv4_kind (codes "10.0.0.0/8"))
unfolding blocks_of runs_of item range ipv4_number decimal_below parts trimmed skip_spaces cut read_all ◌>>=◌ read_ipv4 read_octet read_number
ipv4_means = refl

pub ipv6_means : IsSome (blocks_of ipv6_kind (codes "2001:db8::/32"))
unfolding blocks_of runs_of item range ipv6_number decimal_below parts trimmed skip_spaces cut read_all ◌>>=◌ read_ipv6 read_ipv4 read_octet read_segment read_segments read_number
ipv6_means = refl
