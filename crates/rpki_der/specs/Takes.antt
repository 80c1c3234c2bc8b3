-- What a call of a cursor says of the values that stand there: that it takes what a grammar reads,
-- or refuses exactly where the grammar reads nothing.
use Rattle.std.specs.Prelude.{◌≡◌, ℕ, true, false, Option, None, Some, Result, List, ◌∷◌, drop, MatchResult, ⊤}
use Rattle.rpki_der.specs.declared.error.DecodeError.{DecodeError}
use Rattle.rpki_der.specs.declared.error.DecodeError.TheVariants.{Malformed, OutOfMemory}
use Rattle.rpki_der.specs.declared.mode.Mode.{Mode}
use Rattle.rpki_der.specs.Identifier.{has_tag}
use Rattle.rpki_der.specs.Value.{Value, Values, Begins}
use Rattle.rpki_der.specs.Level.{Level, Sized, Opens, LevelHolds}
use Rattle.rpki_der.specs.Position.{Position, top, AtEnd, Leaves}

-- ---- one value

-- A value that the grammar reads as x stands here, and behind it the cursor stands afterwards.
pub record TakesOne {X : Type 0} (grammar : Value → Option X) (old new : Position) (x : X) : Type 0
  where
    pub value : Value
    pub begins : Begins old.mode old.here value new.here
    pub reads : grammar value ≡ Some x
    pub levels : new.levels ≡ old.levels
    pub mode : new.mode ≡ old.mode

-- no value stands here that the grammar reads
abbrev pub NoneStands : {X : Type 0} → (Value → Option X) → Position → Type 0
NoneStands grammar old = (v : Value) (rest : List ℕ) → Begins old.mode old.here v rest
    → grammar v ≡ None

-- what an error of a call that takes a value says: Malformed, that none stands here that the
-- grammar reads; OutOfMemory, nothing
unfoldable pub Refuses : {X : Type 0} → (Value → Option X) → Position → DecodeError → Type 0
Refuses grammar old Malformed = NoneStands grammar old
Refuses grammar old OutOfMemory = ⊤

-- The answer is the value that stands here, or Malformed exactly where the grammar reads none that
-- does.
abbrev pub Takes : {X Y : Type 0} → (Value → Option X) → (Y → X) → Position → Position
    → Result Y DecodeError → Type 0
Takes grammar view old new result =
    MatchResult result (λ y. TakesOne grammar old new (view y)) (Refuses grammar old)

-- ---- into a constructed value, and out of it

-- into the constructed value with this tag that begins here
pub record Goes (tag : List ℕ) (old new : Position) : Type 0 where
  pub identifier : List ℕ
  pub level : Level
  pub opens : Opens old.mode old.here identifier level new.here
  pub tagged : has_tag tag identifier ≡ true
  pub levels : new.levels ≡ level ∷ old.levels
  pub mode : new.mode ≡ old.mode

-- no constructed value with this tag begins here
abbrev pub NoneOpens : List ℕ → Position → Type 0
NoneOpens tag old = (identifier : List ℕ) (level : Level) (inner : List ℕ)
    → Opens old.mode old.here identifier level inner → has_tag tag identifier ≡ false

-- a constructed value with this tag and of definite length begins here
pub record OpensSized (tag : List ℕ) (old : Position) : Type 0 where
  pub identifier : List ℕ
  pub after : List ℕ
  pub inner : List ℕ
  pub opens : Opens old.mode old.here identifier (Sized after) inner
  pub tagged : has_tag tag identifier ≡ true

-- what an error of going in says: Malformed, that no constructed value with this tag begins here;
-- OutOfMemory, that one of definite length does
abbrev pub RefusesToEnter : List ℕ → Position → DecodeError → Type 0
RefusesToEnter tag old Malformed = NoneOpens tag old
RefusesToEnter tag old OutOfMemory = OpensSized tag old

-- The cursor goes in, or the answer is Malformed exactly where no constructed value with this tag
-- begins. Want of memory is answered only where one of definite length does: to go into a value of
-- indefinite length takes none.
abbrev pub Enters : List ℕ → Position → Position → Result (Unit {0}) DecodeError → Type 0
Enters tag old new result = MatchResult result (λ _. Goes tag old new) (RefusesToEnter tag old)

-- what an error of going out says: Malformed, that the level isn't at its end; OutOfMemory doesn't
-- come
abbrev pub RefusesToLeave : Position → DecodeError → Type 0
RefusesToLeave old Malformed = AtEnd old → ⊥
RefusesToLeave old OutOfMemory = ⊥

-- The cursor goes out, or the answer is Malformed exactly where the level isn't at its end.
abbrev pub GoesOut : Position → Position → Result (Unit {0}) DecodeError → Type 0
GoesOut old new result = MatchResult result (λ _. Leaves old new) (RefusesToLeave old)

-- ---- fields that are not one value

-- Fields that stand next at this level are read as x, and the cursor stands behind them afterwards.
pub record TakesFields {X : Type 0} (fields : Values → Option (X × Values)) (old new : Position)
    (x : X) : Type 0 where
  pub reads : (vs : Values) (rest : List ℕ) → LevelHolds new.mode (top new.levels) new.here vs rest
      → (all : Values) × LevelHolds old.mode (top old.levels) old.here all rest
      × (fields all ≡ Some (x, vs))
  pub only : (all : Values) (rest : List ℕ) → LevelHolds old.mode (top old.levels) old.here all rest
      → (vs : Values) × LevelHolds new.mode (top new.levels) new.here vs rest
      × (fields all ≡ Some (x, vs))
  pub levels : new.levels ≡ old.levels
  pub mode : new.mode ≡ old.mode

-- no fields stand at this level that are read so
unfoldable pub RefusesFields : {X : Type 0} → (Values → Option (X × Values)) → Position
    → DecodeError → Type 0
RefusesFields fields old Malformed =
    (all : Values) (rest : List ℕ) → LevelHolds old.mode (top old.levels) old.here all rest
    → fields all ≡ None
RefusesFields fields old OutOfMemory = ⊤

-- the answer is what fields reads next at this level, or Malformed exactly where nothing stands
-- that it reads
abbrev pub TakesPart : {X Y : Type 0} → (Values → Option (X × Values)) → (Y → X) → Position
    → Position → Result Y DecodeError → Type 0
TakesPart fields view old new result =
    MatchResult result (λ y. TakesFields fields old new (view y)) (RefusesFields fields old)

-- ---- the beginning of octets

-- A value that the grammar reads as x begins the octets.
pub record BeginsAs {X : Type 0} (grammar : Value → Option X) (mode : Mode) (octets : List ℕ)
    (x : X) : Type 0 where
  pub value : Value
  pub rest : List ℕ
  pub begins : Begins mode octets value rest
  pub reads : grammar value ≡ Some x

-- what an error of a call on octets says: Malformed, that no value begins them that the grammar
-- reads; OutOfMemory, nothing
unfoldable pub RefusesOctets : {X : Type 0} → (Value → Option X) → Mode → List ℕ → DecodeError
    → Type 0
RefusesOctets grammar mode octets Malformed =
    (v : Value) (rest : List ℕ) → Begins mode octets v rest → grammar v ≡ None
RefusesOctets grammar mode octets OutOfMemory = ⊤

-- The answer is the value that begins the octets, or Malformed exactly where the grammar reads none
-- that does.
abbrev pub Decodes : {X Y : Type 0} → (Value → Option X) → (Y → X) → Mode → List ℕ
    → Result Y DecodeError → Type 0
Decodes grammar view mode octets result =
    MatchResult result (λ y. BeginsAs grammar mode octets (view y))
    (RefusesOctets grammar mode octets)

-- ---- what is left of a level, up to its end

-- What is left of the level at p, fields reads as y, and q is behind the level.
pub record ReadsFields {Y : Type 0} (fields : Values → Option Y) (p q : Position) (y : Y)
    : Type 0 where
  pub values : Values
  pub holds : LevelHolds p.mode (top p.levels) p.here values q.here
  pub reads : fields values ≡ Some y
  pub levels : q.levels ≡ drop 1 p.levels
  pub mode : q.mode ≡ p.mode

-- What is left of the level at p is nothing that fields reads.
pub record ReadsNone {Y : Type 0} (fields : Values → Option Y) (p : Position) : Type 0 where
  pub none : (vs : Values) (rest : List ℕ) → LevelHolds p.mode (top p.levels) p.here vs rest
      → fields vs ≡ None

-- what an error of a call on the rest of a level says: Malformed, that nothing that fields reads is
-- left; OutOfMemory, nothing
unfoldable pub Stops : {Y : Type 0} → (Values → Option Y) → Position → DecodeError → Type 0
Stops fields p Malformed = ReadsNone fields p
Stops fields p OutOfMemory = ⊤

-- What is left of the level is read as y, and the cursor stands behind the level afterwards; or the
-- answer is Malformed exactly where nothing that fields reads is left.
abbrev pub TakesRest : {X Y : Type 0} → (Values → Option X) → (Y → X) → Position → Position
    → Result Y DecodeError → Type 0
TakesRest fields view old new result =
    MatchResult result (λ y. ReadsFields fields old new (view y)) (Stops fields old)

-- ---- what is calculated of octets

-- what an error of a calculation says: Malformed, that there is nothing; OutOfMemory, nothing
unfoldable pub Lacks : {X : Type 0} → Option X → DecodeError → Type 0
Lacks o Malformed = o ≡ None
Lacks o OutOfMemory = ⊤

-- The answer is what is there, or Malformed exactly where nothing is.
abbrev pub Gives : {X Y : Type 0} → Option X → (Y → X) → Result Y DecodeError → Type 0
Gives o view result = MatchResult result (λ y. o ≡ Some (view y)) (Lacks o)
