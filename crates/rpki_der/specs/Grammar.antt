-- Grammars over values: partial functions, from one value to what it means, or from the values of a
-- level to what they mean.
-- A grammar of several fields reads them in their order, each with the values behind it, by `do`.
use Rattle.std.specs.Prelude.{ℕ, if◌then◌else◌, bytes_eq, Option, None, Some, List, [], ◌∷◌}
use Rattle.rpki_common.specs.Chaining.{◌>>=◌}
use Rattle.rpki_der.specs.Identifier.{has_tag}
use Rattle.rpki_der.specs.Value.{Value, Primitive, Constructed, Values, End, ◌▸◌, spelling}

-- the identifier that a value is spelled with
abbrev pub identifier_of : Value → List ℕ
identifier_of (Primitive identifier lengths contents) = identifier
identifier_of (Constructed identifier form inner) = identifier

-- any value, as its octets
abbrev pub any : Value → Option (List ℕ)
any v = Some (spelling v)

-- the contents of a primitive value
abbrev pub primitive : List ℕ → Value → Option (List ℕ)
primitive tag (Primitive identifier lengths contents) =
    if has_tag tag identifier then Some contents else None
primitive tag (Constructed identifier form inner) = None

-- what a grammar reads, and then a test or a conversion
unfoldable pub so : {X Y : Type 0} → (Value → Option X) → (X → Option Y) → Value → Option Y
so grammar convert v = grammar v >>= convert

-- the values inside a constructed value, as fields reads them
unfoldable pub within : {X : Type 0} → List ℕ → (Values → Option X) → Value → Option X
within tag fields (Primitive identifier lengths contents) = None
within tag fields (Constructed identifier form inner) =
    if has_tag tag identifier then fields inner else None

-- the first value, and the values behind it
unfoldable pub first : {X : Type 0} → (Value → Option X) → Values → Option (X × Values)
first field End = None
first field (v ▸ vs) = field v >>= λ x. Some (x, vs)

-- the first value if it has this tag, and the values behind it
unfoldable pub optional : {X : Type 0} → List ℕ → (Value → Option X) → Values
    → Option (Option X × Values)
optional tag field End = Some (None, End)
optional tag field (v ▸ vs) = if has_tag tag (identifier_of v)
    then (field v >>= λ x. Some (Some x, vs)) else Some (None, v ▸ vs)

-- a list of what each value is read as
unfoldable pub every : {X : Type 0} → (Value → Option X) → Values → Option (List X)
every field End = Some []
every field (v ▸ vs) = field v >>= λ x. every field vs >>= λ xs. Some (x ∷ xs)

-- each value in turn changes what was gathered so far
unfoldable pub gather : {S : Type 0} → (S → Value → Option S) → S → Values → Option S
gather step so_far End = Some so_far
gather step so_far (v ▸ vs) = step so_far v >>= λ more. gather step more vs

-- no value is left
unfoldable pub done : {X : Type 0} → X → Values → Option X
done x End = Some x
done x (v ▸ vs) = None

-- these octets and no others
abbrev pub exactly : List ℕ → List ℕ → Option (Unit {0})
exactly wanted octets = if bytes_eq octets wanted then Some tt else None

-- values of any kind, unread
abbrev pub anything : Values → Option (Unit {0})
anything vs = Some tt

-- a constructed value with exactly one value in it
unfoldable pub wrapped : {X : Type 0} → List ℕ → (Value → Option X) → Value → Option X
wrapped tag field = within tag (λ vs. do
  x ← first field vs
  done x.0 x.1)
