-- The count of levels never comes to its end.
use Rattle.std.proofs.Common.{◌≡◌, ℕ, ◌+◌, ◌<◌, ◌^◌, List, [], ◌∷◌, length, drop, sym, subst, arith}
use Rattle.rpki_der.specs.declared.mode.Mode.{Mode}
use Rattle.rpki_der.specs.Value.{Value, Begins}
use Rattle.rpki_der.specs.Level.{Level, EndsLevel, Opens}
use Rattle.rpki_der.specs.Levels.{HasRoom}
use Rattle.rpki_der.specs.Position.{top}
use Rattle.rpki_der.proofs.Counting.{opens_left, begins_left, ends_left}

pub room_for : (mode : Mode) (here i : List ℕ) (level : Level) (inner : List ℕ) (levels : List Level) → Opens mode here i level inner → HasRoom here levels → length levels + 1 < 2 ^ 64
room_for mode here i level inner levels o h = omega (arith, opens_left mode here i level inner o, h)

pub room_into : (mode : Mode) (here i : List ℕ) (level : Level) (inner : List ℕ) (levels levels' : List Level) → Opens mode here i level inner → levels' ≡ level ∷ levels → HasRoom here levels → HasRoom inner levels'
room_into mode here i level inner levels levels' o e h =
    subst (HasRoom inner) (sym e) (omega (arith, opens_left mode here i level inner o, h))

-- the first level, where nothing is known but that the octets are those of a slice
pub room_first : (mode : Mode) (here i : List ℕ) (level : Level) (inner : List ℕ) (levels : List Level) → Opens mode here i level inner → levels ≡ level ∷ [] → length here < 2 ^ 63 → HasRoom inner levels
room_first mode here i level inner levels o e h =
    subst (HasRoom inner) (sym e) (omega (arith, opens_left mode here i level inner o, h))

pub room_over : (mode : Mode) (here : List ℕ) (v : Value) (rest : List ℕ) (levels : List Level) → Begins mode here v rest → HasRoom here levels → HasRoom rest levels
room_over mode here v rest levels b h = omega (arith, begins_left mode here v rest b, h)

pub room_out : (here rest : List ℕ) (levels levels' : List Level) → levels' ≡ drop 1 levels → EndsLevel (top levels) here rest → HasRoom here levels → HasRoom rest levels'
room_out here rest [] levels' e ends h = subst (HasRoom rest) (sym e) (omega (arith, ends_left [] here rest ends, h))
room_out here rest (level ∷ levels) levels' e ends h = subst (HasRoom rest) (sym e) (omega (arith, ends_left (level ∷ levels) here rest ends, h))

pub room_out_last : (here rest : List ℕ) (levels : List Level) (level : Level) → levels ≡ level ∷ drop 1 levels → EndsLevel level here rest → HasRoom here levels → HasRoom rest (drop 1 levels)
room_out_last here rest levels level e ends h =
    let k : HasRoom here (level ∷ drop 1 levels) = subst (HasRoom here) e h in
    omega (arith, ends_left (level ∷ drop 1 levels) here rest ends, k)
