-- The input of the guard's program: a state, a line with a dash, and messages.
use Rattle.std.specs.Prelude.{◌≡◌, ℕ, Option, None, Some, List, [], ◌∷◌, ◌++◌, codes, map}
use Rattle.std.specs.Result.{result_ok}
use Rattle.hex.specs.Hex.{decode_of}
use Rattle.rpki_base.specs.PublicKey.{KeyFields}
use Rattle.rpki_ca.specs.Words.{key_of_word}
use Rattle.rpki_ca.specs.Lines.{lines_of, words_of}
use Rattle.rpki_replay.specs.declared.peers.Peer.{Peer}
use Rattle.rpki_replay.specs.State.{IsState}
use Rattle.rpki_replay.specs.StateText.{peer_line}

-- the key of a peer, and the octets that it is to have sent
pub record Sent : Type 0 where
  pub peer : KeyFields
  pub octets : List ℕ

-- what a peer sent, where both its key and the octets are there
abbrev pub sent_by : Option KeyFields → Option (List ℕ) → Option Sent
sent_by (Some peer) (Some octets) = Some (record { peer = peer; octets = octets })
sent_by peer octets = None

-- two words: the key's DER and the octets, each in hexadecimal digits of either case
abbrev pub sent_in_words : List (List ℕ) → Option Sent
sent_in_words (key ∷ octets ∷ []) = sent_by (key_of_word key) (result_ok (decode_of octets))
sent_in_words other = None

-- what a line says that a peer sent, by the words of the line
abbrev pub sent_in : List ℕ → Option Sent
sent_in line = sent_in_words (words_of line)

-- the line between state and messages
abbrev pub dash : List ℕ
dash = codes "-"

-- the input begins with the lines of the state's text and the line with a dash, and these lines are
-- behind it
pub record OpensWithState (input : List ℕ) (peers : List Peer) (behind : List (List ℕ))
    : Type 0 where
  pub state : IsState peers
  pub lines : lines_of input ≡ map peer_line peers ++ dash ∷ behind

-- no input of the program: there is no line with a dash, or what stands before the first is no
-- state's text
abbrev pub HasNoState : List ℕ → Type 0
HasNoState input =
    (peers : List Peer) (behind : List (List ℕ)) → OpensWithState input peers behind → ⊥

-- each line is a message
abbrev pub AreSent : List (List ℕ) → List Sent → Type 0
AreSent lines messages = map sent_in lines ≡ map Some messages

-- some line isn't
abbrev pub AreNotSent : List (List ℕ) → Type 0
AreNotSent lines = (messages : List Sent) → AreSent lines messages → ⊥
