-- Where each key stands in a list, as the code keeps it.
use Rattle.std.specs.Prelude.{ℕ, Option, List}
use Rattle.std.specs.Global.{Vec}
use Rattle.std.specs.BTreeMap.{BTreeMap, get_by}
use Rattle.std.specs.Cmp.Lexicographic.{slice_cmp}
use Rattle.std.specs.Ordering.{nat_cmp}
use Rattle.rpki_base.specs.PublicKey.{KeyFields}
use Rattle.std.specs.Prelude.{◌≡◌, ◌+◌, None, Some, [], ◌∷◌, if◌then◌else◌}
use Rattle.rpki_base.specs.declared.algorithm.PublicKeyFormat.{PublicKeyFormat}
use Rattle.rpki_base.specs.declared.algorithm.PublicKeyFormat.TheVariants.{Rsa, EcdsaP256}
use Rattle.rpki_replay.specs.declared.peers.Peer.{Peer}
use Rattle.rpki_replay.specs.declared.places.Places as held
use Rattle.rpki_ca.specs.Keys.{same_key}

-- the place that the octets have
abbrev pub place_of_bits : List ℕ → BTreeMap (Vec ℕ) ℕ → Option ℕ
place_of_bits bits map = get_by (λ held. slice_cmp nat_cmp bits held.items) map

-- the place that the octets have among the keys of this format
abbrev pub place_among : PublicKeyFormat → List ℕ → held.Places → Option ℕ
place_among Rsa bits places = place_of_bits bits places.rsa
place_among EcdsaP256 bits places = place_of_bits bits places.elliptic

-- the place that a key has
abbrev pub place_at : held.Places → KeyFields → Option ℕ
place_at places key = place_among key.format key.bits places

-- the place at which a key stands in a list, of which the first pair has this place
abbrev pub place_from : ℕ → List Peer → KeyFields → Option ℕ
place_from n [] key = None
place_from n (peer ∷ more) key =
    if same_key key peer.key then Some n else place_from (n + 1) more key

-- each key has the place at which it stands
abbrev pub AreTold : held.Places → List Peer → Type 0
AreTold places peers = (key : KeyFields) → place_at places key ≡ place_from 0 peers key
