-- Keys that are read one behind the other.
use Rattle.std.proofs.Common.{◌≡◌, ◌<◌, ◌⊎◌, inl, inr, ℕ, Option, Some, List, [], ◌∷◌, ◌++◌, ◌+◌, length, append-nil, length-append, refl, sym, ap, subst, ◌∙◌, arith}
use Rattle.rpki_common.proofs.Truths.{none_some}
use Rattle.rpki_der.specs.Position.{Position, AtEnd}
use Rattle.rpki_der.specs.Takes.{NoneStands, TakesOne}
use Rattle.rpki_der.specs.Value.{Value, Begins}
use Rattle.rpki_der.specs.declared.mode.Mode.{Mode}
use Rattle.rpki_der.specs.declared.mode.Mode.TheVariants.{Der}
use Rattle.rpki_der.proofs.Counting.{begins_left}
use Rattle.rpki_der.proofs.Parts.{at_most_one}
use Rattle.rpki_base.specs.PublicKey.{KeyFields, public_key}
use Rattle.rpki_c.specs.Arguments.{AreFewKeysIn, AreKeysIn, IsUnread}

-- with these keys the octets begin, one behind the other, and this is behind them
abbrev pub ThenKeys : List ℕ → List KeyFields → List ℕ → Type 0
ThenKeys octets [] rest = octets ≡ rest
ThenKeys octets (key ∷ more) rest = (v : Value) × (next : List ℕ) × Begins Der octets v next
    × (public_key v ≡ Some key) × ThenKeys next more rest

-- and with the one that stands behind them
one_more : (octets : List ℕ) (list : List KeyFields) (here : List ℕ) (v : Value) (rest : List ℕ) (key : KeyFields)
    → ThenKeys octets list here → Begins Der here v rest → public_key v ≡ Some key → ThenKeys octets (list ++ key ∷ []) rest
one_more octets [] here v rest key read begins is = (v, rest, subst (λ (o : List ℕ). Begins Der o v rest) (sym read) begins, is, refl)
one_more octets (k ∷ more) here v rest key read begins is =
    (read.0, read.1, read.2, read.3, one_more read.1 more here v rest key read.4 begins is)

-- with nothing behind them the octets are these
are_all : (octets : List ℕ) (list : List KeyFields) → ThenKeys octets list [] → AreKeysIn octets list
are_all octets [] read = read
are_all octets (k ∷ more) read = (read.0, read.1, read.2, read.3, are_all read.1 more read.4)

some_same : (a b : KeyFields) → ◌≡◌ {A = Option KeyFields} (Some a) (Some b) → a ≡ b
some_same a b e = cc

-- no value begins no octets
nothing_begins : (octets : List ℕ) (v : Value) (rest : List ℕ) → Begins Der octets v rest → octets ≡ [] → ⊥
nothing_begins octets v rest begins none = let size : length octets ≡ 0 = ap length none in omega (arith, begins_left Der octets v rest begins, size)

-- what keys the octets are, they are these and more, which what is behind them is
pub record GoesOn (list : List KeyFields) (rest : List ℕ) (other : List KeyFields) : Type 0 where
  pub more : List KeyFields
  pub is : other ≡ list ++ more
  pub are : AreKeysIn rest more

goes_on : (octets : List ℕ) (list : List KeyFields) (rest : List ℕ) (other : List KeyFields) → ThenKeys octets list rest → AreKeysIn octets other → GoesOn list rest other
goes_on octets [] rest other read are = record { more = other; is = refl; are = subst (λ (o : List ℕ). AreKeysIn o other) read are }
goes_on octets (k ∷ more) rest [] read are = absurd (nothing_begins octets read.0 read.1 read.2 are)
goes_on octets (k ∷ more) rest (o ∷ others) read are =
    let same = at_most_one Der octets are.0 read.0 are.1 read.1 are.2 read.2 in
    let key : o ≡ k = some_same o k (sym are.3 ∙ (ap public_key same.value ∙ read.3)) in
    let behind : AreKeysIn read.1 others = subst (λ (x : List ℕ). AreKeysIn x others) same.rest are.4 in
    let go = goes_on read.1 more rest others read.4 behind in
    record { more = go.more; is = subst (λ (x : KeyFields). o ∷ others ≡ x ∷ (more ++ go.more)) key (ap (λ (l : List KeyFields). o ∷ l) go.is); are = go.are }

-- ---- where a cursor stands

-- these keys were read, and the cursor stands behind them; behind some, not at the end
pub record AreRead (octets : List ℕ) (list : List KeyFields) (at : Position) : Type 0 where
  pub mode : at.mode ≡ Der
  pub levels : at.levels ≡ []
  pub read : ThenKeys octets list at.here
  pub on : (list ≡ []) ⊎ (at.here ≡ [] → ⊥)

-- nothing is read yet
pub none_read : (octets : List ℕ) (at : Position) → at ≡ record { mode = Der; here = octets; levels = [] } → AreRead octets [] at
none_read octets at is = record { mode = ap (λ (p : Position). p.mode) is; levels = ap (λ (p : Position). p.levels) is; read = sym (ap (λ (p : Position). p.here) is); on = inl refl }

-- where nothing stands that is a key, the octets are none
pub no_more : (octets : List ℕ) (list : List KeyFields) (at : Position) → AreRead octets list at → NoneStands public_key at → IsUnread (AreFewKeysIn octets)
no_more octets list at r none other few =
    let go = goes_on octets list at.here other r.read few.are in
    ended go.more go.is go.are
  where
    no_others : other ≡ list ++ [] → at.here ≡ [] → (list ≡ []) ⊎ (at.here ≡ [] → ⊥) → ⊥
    no_others is end (inl first) = let size : length other ≡ 0 = ap length (is ∙ (append-nil list ∙ first)) in omega (arith, few.some, size)
    no_others is end (inr on) = on end

    ended : (more : List KeyFields) → other ≡ list ++ more → AreKeysIn at.here more → ⊥
    ended [] is are = no_others is are r.on
    ended (key ∷ more) is are =
        none_some key (sym (none are.0 are.1 (subst (λ (m : Mode). Begins m at.here are.0 are.1) (sym r.mode) are.2)) ∙ are.3)

-- behind the key that was taken
pub one_read : (octets : List ℕ) (list : List KeyFields) (old new : Position) (key : KeyFields) → AreRead octets list old → TakesOne public_key old new key
    → ThenKeys octets (list ++ key ∷ []) new.here
one_read octets list old new key r t =
    one_more octets list old.here t.value new.here key r.read (subst (λ (m : Mode). Begins m old.here t.value new.here) r.mode t.begins) t.reads

at_end : (at : Position) → at.levels ≡ [] → at.here ≡ [] → AtEnd at
at_end at levels end = rw levels ([], (end, refl))

is_end : (at : Position) → at.levels ≡ [] → AtEnd at → at.here ≡ []
is_end at levels end = (rw levels at end).1.0

-- which isn't the last
pub go_on : (octets : List ℕ) (list : List KeyFields) (old new : Position) (key : KeyFields) → AreRead octets list old → TakesOne public_key old new key
    → (AtEnd new → ⊥) → AreRead octets (list ++ key ∷ []) new
go_on octets list old new key r t not = record {
  mode = t.mode ∙ r.mode;
  levels = t.levels ∙ r.levels;
  read = one_read octets list old new key r t;
  on = inr (λ end. not (at_end new (t.levels ∙ r.levels) end));
}

-- which is the last of at most eight
pub all_read : (octets : List ℕ) (list : List KeyFields) (old new : Position) (key : KeyFields) → AreRead octets list old → TakesOne public_key old new key
    → AtEnd new → length list < 8 → AreFewKeysIn octets (list ++ key ∷ [])
all_read octets list old new key r t end few =
    let size : length (list ++ key ∷ []) ≡ length list + 1 = length-append list (key ∷ []) in
    let done = is_end new (t.levels ∙ r.levels) end in
    record {
      some = omega (arith, size);
      few = omega (arith, size, few);
      are = are_all octets (list ++ key ∷ []) (subst (λ (h : List ℕ). ThenKeys octets (list ++ key ∷ []) h) done (one_read octets list old new key r t));
    }

-- behind eight that aren't all, the octets are too many
pub too_many : (octets : List ℕ) (list : List KeyFields) (at : Position) → AreRead octets list at → length list ≡ 8 → IsUnread (AreFewKeysIn octets)
too_many octets list at r eight other few =
    let go = goes_on octets list at.here other r.read few.are in
    ended go.more go.is go.are r.on
  where
    ended : (more : List KeyFields) → other ≡ list ++ more → AreKeysIn at.here more → (list ≡ []) ⊎ (at.here ≡ [] → ⊥) → ⊥
    ended more is are (inl first) = let size : length list ≡ 0 = ap length first in omega (arith, eight, size)
    ended [] is are (inr on) = on are
    ended (key ∷ more) is are (inr on) =
        let size : length other ≡ length list + length (key ∷ more) = ap length is ∙ length-append list (key ∷ more) in
        omega (arith, few.few, eight, size)
