-- A state as a text: one line for each key in the order in which they were first admitted.
use Rattle.std.specs.Prelude.{◌≡◌, ◌==◌, ◌||◌, ◌-◌, ℕ, Bool, List, ◌++◌, codes, length, map, slice_index}
use Rattle.std.specs.Fmt.{signed_decimal}
use Rattle.hex.specs.Hex.{encode_lower}
use Rattle.rpki_base.specs.PublicKey.{spelled_key}
use Rattle.rpki_ca.specs.Lines.{answer_lines}
use Rattle.rpki_replay.specs.declared.peers.Peer.{Peer}
use Rattle.rpki_replay.specs.State.{IsState}

-- the key's DER in hexadecimal digits of lower case, a space, and the seconds since 1970 in decimal
-- digits without leading zeros, with a minus sign in front of a negative number
abbrev pub peer_line : Peer → List ℕ
peer_line peer = encode_lower (spelled_key peer.key) ++ (codes " " ++ signed_decimal peer.last)

-- the text of a state: the lines of its peers, in their order
abbrev pub state_text : List Peer → List ℕ
state_text peers = answer_lines (map peer_line peers)

-- the text is that of the state
pub record IsStateText (text : List ℕ) (peers : List Peer) : Type 0 where
  pub state : IsState peers
  pub written : text ≡ state_text peers

-- the octets are none, or end with a line feed
abbrev pub ends_line : List ℕ → Bool
ends_line octets = length octets == 0 || slice_index octets (length octets - 1) == 10
