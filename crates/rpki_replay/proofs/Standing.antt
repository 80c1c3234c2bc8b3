-- Where a key stands among peers.
use Rattle.std.proofs.Common.{◌≡◌, ◌+◌, ◌-◌, ◌<◌, ◌≤◌, ℕ, ℤ, true, false, if◌then◌else◌, Option, None, Some, List, [], ◌∷◌, ◌++◌, length, get_or, set, suc, zero, refl, sym, ap, ◌∙◌, arith, IfSome, subst}
use Rattle.std.proofs.lemmas.Option.{none-some, same_Some}
use Rattle.rpki_base.specs.PublicKey.{KeyFields}
use Rattle.rpki_replay.specs.declared.peers.Peer.{Peer}
use Rattle.rpki_replay.specs.declared.places.Places as held
use Rattle.rpki_replay.specs.State.{last_of, put, AreDistinctPeers}
use Rattle.rpki_ca.specs.Keys.{same_key}
use Rattle.rpki_replay.specs.Places.{place_from, place_at, AreTold}
use Rattle.rpki_ca.proofs.Keys.{key_is, key_itself, same_key-sym}

-- a place is one of the list's
pub within : (n : ℕ) (peers : List Peer) (key : KeyFields) (place : ℕ) → place_from n peers key ≡ Some place → (n ≤ place) × (place < n + length peers)
within n [] key place e = absurd (none-some place e)
within n (peer ∷ more) key place e =
    elim (same_key key peer.key) as (λ t. (if t then Some n else place_from (n + 1) more key) ≡ Some place → (n ≤ place) × (place < n + length (peer ∷ more))) [
      | true ↦ λ here. let same : n ≡ place = sym (same_Some place n (sym here)) in (omega arith, omega arith)
      | false ↦ λ behind. let w = within (n + 1) more key place behind in (omega (arith, w.0), omega (arith, w.1))
    ] e

-- the place in the list behind the first pair
one_less : (n place : ℕ) → n + 1 ≤ place → place - n ≡ suc (place - (n + 1))
one_less n place h = omega arith

-- the time that is held is that of the pair at the place
pub last_there : (n : ℕ) (peers : List Peer) (key : KeyFields) (place : ℕ) (d : Peer) → place_from n peers key ≡ Some place → last_of peers key ≡ Some (get_or peers (place - n) d).last
last_there n [] key place d e = absurd (none-some place e)
last_there n (peer ∷ more) key place d e =
    elim (same_key key peer.key) as (λ t. (if t then Some n else place_from (n + 1) more key) ≡ Some place → (if t then Some peer.last else last_of more key) ≡ Some (get_or (peer ∷ more) (place - n) d).last) [
      | true ↦ λ here. let same : n ≡ place = sym (same_Some place n (sym here)) in let first : place - n ≡ 0 = omega arith in rw first refl
      | false ↦ λ behind.
          let w = within (n + 1) more key place behind in
          rw (one_less n place w.0) (last_there (n + 1) more key place d behind)
    ] e

pub last_nowhere : (n : ℕ) (peers : List Peer) (key : KeyFields) → place_from n peers key ≡ None → last_of peers key ≡ None
last_nowhere n [] key e = refl
last_nowhere n (peer ∷ more) key e =
    elim (same_key key peer.key) as (λ t. (if t then Some n else place_from (n + 1) more key) ≡ None → (if t then Some peer.last else last_of more key) ≡ None) [
      | true ↦ λ here. absurd (none-some n (sym here))
      | false ↦ λ behind. last_nowhere (n + 1) more key behind
    ] e

pub no_time : (z : ℤ) → Some z ≡ None → ⊥
no_time z e = cc

pub no_place : (n : ℕ) (peers : List Peer) (key : KeyFields) → last_of peers key ≡ None → place_from n peers key ≡ None
no_place n [] key e = refl
no_place n (peer ∷ more) key e =
    elim (same_key key peer.key) as (λ t. (if t then Some peer.last else last_of more key) ≡ None → (if t then Some n else place_from (n + 1) more key) ≡ None) [
      | true ↦ λ here. absurd (no_time peer.last here)
      | false ↦ λ behind. no_place (n + 1) more key behind
    ] e

-- ---- a time in the place of another

-- the pair, with this time
abbrev pub timed : Peer → ℤ → Peer
timed peer time = record { key = peer.key; last = time }

pub put_there : (n : ℕ) (peers : List Peer) (key : KeyFields) (time : ℤ) (place : ℕ) (d : Peer) → place_from n peers key ≡ Some place
    → put peers key time ≡ set peers (place - n) (timed (get_or peers (place - n) d) time)
put_there n [] key time place d e = absurd (none-some place e)
put_there n (peer ∷ more) key time place d e =
    elim (same_key key peer.key) as (λ t. (if t then Some n else place_from (n + 1) more key) ≡ Some place
    → (if t then timed peer time ∷ more else peer ∷ put more key time) ≡ set (peer ∷ more) (place - n) (timed (get_or (peer ∷ more) (place - n) d) time)) [
      | true ↦ λ here. let same : n ≡ place = sym (same_Some place n (sym here)) in let first : place - n ≡ 0 = omega arith in rw first refl
      | false ↦ λ behind.
          let w = within (n + 1) more key place behind in
          rw (one_less n place w.0) (ap (λ (l : List Peer). peer ∷ l) (put_there (n + 1) more key time place d behind))
    ] e

-- where a pair is changed and its key stays, each key stands where it stood
pub place_set : (n : ℕ) (peers : List Peer) (i : ℕ) (time : ℤ) (d : Peer) (key : KeyFields) → place_from n (set peers i (timed (get_or peers i d) time)) key ≡ place_from n peers key
place_set n [] i time d key = refl
place_set n (peer ∷ more) zero time d key = refl
place_set n (peer ∷ more) (suc i) time d key = ap (λ (o : Option ℕ). if same_key key peer.key then Some n else o) (place_set (n + 1) more i time d key)

last_set : (peers : List Peer) (i : ℕ) (time : ℤ) (d : Peer) (key : KeyFields) → last_of peers key ≡ None → last_of (set peers i (timed (get_or peers i d) time)) key ≡ None
last_set peers i time d key e = last_nowhere 0 _ key (place_set 0 peers i time d key ∙ no_place 0 peers key e)

pub distinct_set : (peers : List Peer) (i : ℕ) (time : ℤ) (d : Peer) → AreDistinctPeers peers → AreDistinctPeers (set peers i (timed (get_or peers i d) time))
distinct_set [] i time d h = h
distinct_set (peer ∷ more) zero time d h = h
distinct_set (peer ∷ more) (suc i) time d h = (last_set more i time d peer.key h.0, distinct_set more i time d h.1)

-- ---- a new pair

-- a key that isn't held is another than that of each pair
head_other : (peer : Peer) (more : List Peer) (key : KeyFields) → last_of (peer ∷ more) key ≡ None → (same_key key peer.key ≡ false) × (last_of more key ≡ None)
head_other peer more key e =
    elim (same_key key peer.key) as (λ t. (if t then Some peer.last else last_of more key) ≡ None → (t ≡ false) × (last_of more key ≡ None)) [
      | true ↦ λ here. absurd (no_time peer.last here)
      | false ↦ λ behind. (refl, behind)
    ] e

pub put_new : (peers : List Peer) (key : KeyFields) (time : ℤ) → last_of peers key ≡ None → put peers key time ≡ peers ++ record { key = key; last = time } ∷ []
put_new [] key time e = refl
put_new (peer ∷ more) key time e =
    let h = head_other peer more key e in
    rw h.0 (ap (λ (l : List Peer). peer ∷ l) (put_new more key time h.1))

push_other : (n : ℕ) (peers : List Peer) (new : Peer) (key : KeyFields) → same_key key new.key ≡ false → place_from n (peers ++ new ∷ []) key ≡ place_from n peers key
push_other n [] new key other = rw other refl
push_other n (peer ∷ more) new key other = ap (λ (o : Option ℕ). if same_key key peer.key then Some n else o) (push_other (n + 1) more new key other)

push_here : (n : ℕ) (peers : List Peer) (new : Peer) (key : KeyFields) → last_of peers key ≡ None → same_key key new.key ≡ true → place_from n (peers ++ new ∷ []) key ≡ Some (n + length peers)
push_here n [] new key e same = rw same (ap (λ (k : ℕ). Some k) (omega arith))
push_here n (peer ∷ more) new key e same =
    let h = head_other peer more key e in
    rw h.0 (push_here (n + 1) more new key h.1 same ∙ ap (λ (k : ℕ). Some k) (omega arith))

last_push : (peers : List Peer) (new : Peer) (key : KeyFields) → same_key key new.key ≡ false → last_of peers key ≡ None → last_of (peers ++ new ∷ []) key ≡ None
last_push peers new key other e = last_nowhere 0 (peers ++ new ∷ []) key (push_other 0 peers new key other ∙ no_place 0 peers key e)

pub distinct_push : (peers : List Peer) (new : Peer) → AreDistinctPeers peers → last_of peers new.key ≡ None → AreDistinctPeers (peers ++ new ∷ [])
distinct_push [] new h e = (refl, tt)
distinct_push (peer ∷ more) new h e =
    let other = head_other peer more new.key e in
    (last_push more new peer.key (same_key-sym peer.key new.key ∙ other.0) h.0, distinct_push more new h.1 other.1)

-- ---- as the code keeps them

pub told_set : (places : held.Places) (peers : List Peer) (i : ℕ) (time : ℤ) (d : Peer) → AreTold places peers → AreTold places (set peers i (timed (get_or peers i d) time))
told_set places peers i time d h key = h key ∙ sym (place_set 0 peers i time d key)

pub told_push : (old new : held.Places) (peers : List Peer) (peer : Peer) (key : KeyFields) (place : ℕ) → peer.key ≡ key → place ≡ length peers → last_of peers key ≡ None → AreTold old peers
    → ((other : KeyFields) → place_at new other ≡ (if same_key key other then Some place else place_at old other)) → AreTold new (peers ++ peer ∷ [])
told_push old new peers peer key place is at none told ok other =
    ok other ∙ elim (same_key key other) as (λ t. same_key key other ≡ t → (if t then Some place else place_at old other) ≡ place_from 0 (peers ++ peer ∷ []) other) [
      | true ↦ λ same.
          let one : key ≡ other = key_is key other same in
          let absent : last_of peers other ≡ None = ap (λ (k : KeyFields). last_of peers k) (sym one) ∙ none in
          let here : same_key other peer.key ≡ true = ap (λ (k : KeyFields). same_key other k) (is ∙ one) ∙ key_itself other in
          ap (λ (k : ℕ). Some k) at ∙ sym (push_here 0 peers peer other absent here ∙ ap (λ (k : ℕ). Some k) (omega arith))
      | false ↦ λ apart.
          let elsewhere : same_key other peer.key ≡ false = ap (λ (k : KeyFields). same_key other k) is ∙ same_key-sym other key ∙ apart in
          told other ∙ sym (push_other 0 peers peer other elsewhere)
    ] refl

pub within_all : (peers : List Peer) (key : KeyFields) (o : Option ℕ) → o ≡ place_from 0 peers key → IfSome o (λ place. place < length peers)
within_all peers key None e = tt
within_all peers key (Some place) e = let w = within 0 peers key place (sym e) in omega (arith, w.1)

pub last_at : (peers : List Peer) (key : KeyFields) (place : ℕ) (peer : Peer) → Some place ≡ place_from 0 peers key → peer ≡ get_or peers place peer → Some peer.last ≡ last_of peers key
last_at peers key place peer e at =
    let whole : place - 0 ≡ place = omega arith in
    ap (λ (p : Peer). Some p.last) at ∙ sym (rw whole at (last_there 0 peers key place peer (sym e)))

pub put_at : (peers : List Peer) (key : KeyFields) (time : ℤ) (place : ℕ) (peer : Peer) → Some place ≡ place_from 0 peers key → peer ≡ get_or peers place peer → set peers place (timed peer time) ≡ put peers key time
put_at peers key time place peer e at =
    let whole : place - 0 ≡ place = omega arith in
    ap (λ (p : Peer). set peers place (timed p time)) at ∙ sym (rw whole at (put_there 0 peers key time place peer (sym e)))

pub kept_at : (places : held.Places) (peers : List Peer) (time : ℤ) (place : ℕ) (peer : Peer) → peer ≡ get_or peers place peer → AreDistinctPeers peers × AreTold places peers
    → AreDistinctPeers (set peers place (timed peer time)) × AreTold places (set peers place (timed peer time))
kept_at places peers time place peer at h =
    let P : Peer → Type 0 = λ p. AreDistinctPeers (set peers place (timed p time)) × AreTold places (set peers place (timed p time)) in
    subst P (sym at) (distinct_set peers place time peer h.0, told_set places peers place time peer h.1)

pub put_pushed : (peers items : List Peer) (held key : KeyFields) (time : ℤ) → items ≡ peers ++ record { key = held; last = time } ∷ [] → held ≡ key → last_of peers key ≡ None → items ≡ put peers key time
put_pushed peers items held key time e same none = e ∙ ap (λ (k : KeyFields). peers ++ record { key = k; last = time } ∷ []) same ∙ sym (put_new peers key time none)

pub kept_pushed : (old new : held.Places) (peers items : List Peer) (kept key : KeyFields) (time : ℤ) (place : ℕ) → items ≡ peers ++ record { key = kept; last = time } ∷ [] → kept ≡ key → place ≡ length peers
    → last_of peers key ≡ None → AreDistinctPeers peers × AreTold old peers
    → ((other : KeyFields) → place_at new other ≡ (if same_key key other then Some place else place_at old other)) → AreDistinctPeers items × AreTold new items
kept_pushed old new peers items kept key time place e same at none h ok =
    let P : List Peer → Type 0 = λ l. AreDistinctPeers l × AreTold new l in
    let absent : last_of peers kept ≡ None = ap (λ (k : KeyFields). last_of peers k) same ∙ none in
    subst P (sym e) (distinct_push peers (record { key = kept; last = time }) h.0 absent, told_push old new peers (record { key = kept; last = time }) key place same at none h.1 ok)
