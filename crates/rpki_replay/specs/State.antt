-- The state of a guard: for each key under which a message was admitted, the signing time of the
-- last one.
use Rattle.std.specs.Prelude.{◌≡◌, ℤ, if◌then◌else◌, Option, None, Some, List, [], ◌∷◌}
use Rattle.std.specs.List.{AllByRecursion}
use Rattle.hex.specs.Hex.{IsBytes}
use Rattle.rpki_base.specs.Civil.{IsMoment}
use Rattle.rpki_base.specs.PublicKey.{KeyFields, CanSpellKey, spelled_key}
use Rattle.rpki_ca.specs.Keys.{same_key}
use Rattle.rpki_replay.specs.declared.peers.Peer.{Peer}

-- the time that is held for a key
abbrev pub last_of : List Peer → KeyFields → Option ℤ
last_of [] key = None
last_of (peer ∷ more) key = if same_key key peer.key then Some peer.last else last_of more key

-- the state where a time is put for a key: in the place of the one that was held for it; or a new
-- pair behind the others
abbrev pub put : List Peer → KeyFields → ℤ → List Peer
put [] key time = record { key = key; last = time } ∷ []
put (peer ∷ more) key time =
    if same_key key peer.key then record { key = peer.key; last = time } ∷ more
    else peer ∷ put more key time

-- no key is held twice
abbrev pub AreDistinctPeers : List Peer → Type 0
AreDistinctPeers [] = Unit {0}
AreDistinctPeers (peer ∷ more) = (last_of more peer.key ≡ None) × AreDistinctPeers more

-- a pair whose time lies in the years 0 to 9999, and whose key has a spelling in octets
pub record IsPeer (peer : Peer) : Type 0 where
  pub moment : IsMoment peer.last
  pub spelled : CanSpellKey peer.key
  pub octets : IsBytes (spelled_key peer.key)

-- what a state may be
pub record IsState (peers : List Peer) : Type 0 where
  pub distinct : AreDistinctPeers peers
  pub each : AllByRecursion IsPeer peers
