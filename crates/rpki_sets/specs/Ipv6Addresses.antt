-- IPv6 addresses as text.
use Rattle.std.specs.Prelude.{ℕ, true, Option, Some, List}
use Rattle.std.specs.Int.{w128, from_be_bytes, to_be_bytes}
use Rattle.std.specs.Net.Addr.{octets_of, segments_of}
use Rattle.std.specs.Net.Reader.{read_ipv6, whole_value}
use Rattle.std.specs.Net.Text.{hex_groups_text}
use Rattle.rpki_common.specs.Chaining.{◌>>=◌}
use Rattle.rpki_sets.specs.declared.run.Run.{Run}
use Rattle.rpki_sets.specs.Kinds.{Kind, blocks_of, printed}

-- eight groups of one to four hexadecimal digits with colons between them, of which `::` stands for
-- one zero group or more, and the last two may be written as an IPv4 address; as one number
unfoldable pub ipv6_number : List ℕ → Option ℕ
ipv6_number text = whole_value (read_ipv6 text)
    >>= λ groups. Some (from_be_bytes w128 (octets_of groups))

-- the eight groups of a number in lower-case hexadecimal without leading zeros, the first of the
-- longest runs of two zero groups or more as `::`
unfoldable pub ipv6_number_text : ℕ → List ℕ
ipv6_number_text n = hex_groups_text (segments_of (to_be_bytes w128 n))

-- IPv6 addresses
abbrev pub ipv6_kind : Kind
ipv6_kind = record {
  width = 128;
  has_prefixes = true;
  number = ipv6_number;
  number_text = ipv6_number_text;
}

-- the IPv6 addresses that a text stands for, as maximal runs
abbrev pub ipv6_blocks : List ℕ → Option (List Run)
ipv6_blocks = blocks_of ipv6_kind

-- the text of IPv6 addresses
abbrev pub ipv6_blocks_text : List Run → List ℕ
ipv6_blocks_text = printed ipv6_kind
