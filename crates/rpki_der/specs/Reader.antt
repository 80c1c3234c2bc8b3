-- The value that begins octets, if any does, as a function. Its steps are a means alone: it is
-- known by its law, `value_at-is`.
use Rattle.std.specs.Prelude.{ℕ, zero, suc, ◌+◌, Bool, true, false, nat_lt, if◌then◌else◌, Option, None, Some, List, [], ◌∷◌, length, take, drop}
use Rattle.rpki_der.specs.declared.header.Length.{Length}
use Rattle.rpki_der.specs.declared.header.Length.TheVariants as length_is
use Rattle.rpki_der.specs.declared.mode.Mode.{Mode}
use Rattle.rpki_der.specs.Identifier.{is_constructed}
use Rattle.rpki_der.specs.HeaderAt.{identifier_size}
use Rattle.rpki_der.specs.HeaderAt.{length_at}
use Rattle.rpki_der.specs.Value.{Definite, Indefinite, Value, Primitive, Constructed, Values, End, ◌▸◌}
use Rattle.rpki_common.specs.Chaining.{◌>>=◌}

-- the header at the beginning
pub record Headed : Type 0 where
  pub identifier : List ℕ
  pub lengths : List ℕ
  pub length' : Length
  pub rest : List ℕ

-- the header that begins the octets, and the octets behind it, if a header begins them
unfoldable pub head_at : Mode → List ℕ → Option Headed
head_at mode octets =
    identifier_size octets >>= λ k. length_at mode (drop k octets) >>= λ l.
    Some (record {
      identifier = take k octets;
      lengths = take l.1 (drop k octets);
      length' = l.0;
      rest = drop l.1 (drop k octets);
    })

-- the primitive value whose contents are the n octets behind the header, and the octets behind it
abbrev pub primitive_of : Headed → ℕ → Option (Value × List ℕ)
primitive_of h n = Some (Primitive h.identifier h.lengths (take n h.rest), drop n h.rest)

-- all octets were read
abbrev pub sized_of : Headed → ℕ → Values × List ℕ → Option (Value × List ℕ)
sized_of h n (vs, []) = Some (Constructed h.identifier (Definite h.lengths) vs, drop n h.rest)
sized_of h n (vs, a ∷ more) = None

-- 00 00 stands behind the values
abbrev pub marked_of : Headed → Values × List ℕ → Option (Value × List ℕ)
marked_of h (vs, zero ∷ zero ∷ more) = Some (Constructed h.identifier Indefinite vs, more)
marked_of h (vs, rest) = None

-- a value, the contents behind a header, and values up to the end or an octet 0, with the octets
-- behind each; the number bounds the depth of the recursion
unfoldable mutual
  pub read_value : ℕ → Mode → List ℕ → Option (Value × List ℕ)
  read_value zero mode octets = None
  read_value (suc n) mode octets =
      head_at mode octets >>= λ h. read_contents n mode h h.length' (is_constructed h.identifier)

  pub read_contents : ℕ → Mode → Headed → Length → Bool → Option (Value × List ℕ)
  read_contents zero mode h l constructed = None
  read_contents (suc n) mode h (length_is.Definite k) false =
      if nat_lt (length h.rest) k then None else primitive_of h k
  read_contents (suc n) mode h (length_is.Definite k) true =
      if nat_lt (length h.rest) k then None else (read_values n mode (take k h.rest)
      >>= sized_of h k)
  read_contents (suc n) mode h length_is.Indefinite false = None
  read_contents (suc n) mode h length_is.Indefinite true = read_values n mode h.rest >>= marked_of h

  pub read_values : ℕ → Mode → List ℕ → Option (Values × List ℕ)
  read_values zero mode octets = None
  read_values (suc n) mode [] = Some (End, [])
  read_values (suc n) mode (zero ∷ more) = Some (End, zero ∷ more)
  read_values (suc n) mode (suc a ∷ more) =
      read_value n mode (suc a ∷ more) >>= λ v. read_values n mode v.1
      >>= λ w. Some (v.0 ▸ w.0, w.1)

-- the value that begins the octets, and the octets behind it
unfoldable pub value_at : Mode → List ℕ → Option (Value × List ℕ)
value_at mode octets = read_value (3 + length octets + length octets + length octets) mode octets

-- what the grammar reads of the value that begins the octets
unfoldable pub decoded : {X : Type 0} → (Value → Option X) → Mode → List ℕ → Option X
decoded grammar mode octets = value_at mode octets >>= λ v. grammar v.0
