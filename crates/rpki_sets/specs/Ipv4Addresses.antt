-- IPv4 addresses as text.
use Rattle.std.specs.Prelude.{ℕ, true, Option, Some, List}
use Rattle.std.specs.Int.{w32, from_be_bytes, to_be_bytes}
use Rattle.std.specs.Net.Reader.{read_ipv4, whole_value}
use Rattle.std.specs.Net.Text.{ipv4_text}
use Rattle.rpki_common.specs.Chaining.{◌>>=◌}
use Rattle.rpki_sets.specs.declared.run.Run.{Run}
use Rattle.rpki_sets.specs.Kinds.{Kind, blocks_of, printed}

-- four decimal numbers from 0 to 255 without leading zeros, with dots between them, as one number
unfoldable pub ipv4_number : List ℕ → Option ℕ
ipv4_number text = whole_value (read_ipv4 text) >>= λ octets. Some (from_be_bytes w32 octets)

-- the four octets of a number in decimal, with dots between them
unfoldable pub ipv4_number_text : ℕ → List ℕ
ipv4_number_text n = ipv4_text (to_be_bytes w32 n)

-- IPv4 addresses
abbrev pub ipv4_kind : Kind
ipv4_kind = record {
  width = 32;
  has_prefixes = true;
  number = ipv4_number;
  number_text = ipv4_number_text;
}

-- the IPv4 addresses that a text stands for, as maximal runs
abbrev pub ipv4_blocks : List ℕ → Option (List Run)
ipv4_blocks = blocks_of ipv4_kind

-- the text of IPv4 addresses
abbrev pub ipv4_blocks_text : List Run → List ℕ
ipv4_blocks_text = printed ipv4_kind
