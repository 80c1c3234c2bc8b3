-- Ticks: one for each header and each end mark that was read.
use Rattle.std.specs.Prelude.{ℕ, ◌+◌, ◌*◌, ◌≤◌, Option, Result, List, [], ◌∷◌, length, MatchResult}
use Rattle.rpki_der.specs.declared.error.DecodeError.{DecodeError}
use Rattle.rpki_der.specs.Value.{Form, Definite, Indefinite, Value, Primitive, Constructed, Values, End, ◌▸◌}
use Rattle.rpki_der.specs.Level.{Level, Sized, Marked, behind_level, LevelHolds}
use Rattle.rpki_der.specs.Position.{Position, top}
use Rattle.rpki_der.specs.Takes.{TakesOne, Refuses, TakesFields, RefusesFields, BeginsAs, RefusesOctets, ReadsFields, Stops}
use Rattle.rpki_der.specs.declared.mode.Mode.{Mode}

-- how many values a value is, itself and those inside it
abbrev mutual
  pub nodes : Value → ℕ
  nodes (Primitive identifier lengths contents) = 1
  nodes (Constructed identifier form inner) = 1 + all_nodes inner

  pub all_nodes : Values → ℕ
  all_nodes End = 0
  all_nodes (v ▸ vs) = nodes v + all_nodes vs

-- how many end marks a form has
abbrev pub form_marks : Form → ℕ
form_marks (Definite octets) = 0
form_marks Indefinite = 1

-- how many headers and end marks a value has, with those inside it; and how many values in turn
-- have
abbrev mutual
  pub counts : Value → ℕ
  counts (Primitive identifier lengths contents) = 1
  counts (Constructed identifier form inner) = 1 + (all_counts inner + form_marks form)

  pub all_counts : Values → ℕ
  all_counts End = 0
  all_counts (v ▸ vs) = counts v + all_counts vs

-- how many octets are known to stand behind the levels, in all
abbrev pub behind : List Level → ℕ
behind [] = 0
behind (level ∷ levels) = behind_level level + behind levels

-- how many octets are still to be read, on all levels
abbrev pub left : Position → ℕ
left p = length p.here + behind p.levels

-- how many end marks end the level
abbrev pub marks : Level → ℕ
marks (Sized after) = 0
marks Marked = 1

-- A value that the grammar reads as x stands here, and behind it the cursor stands afterwards.
-- Each value in it ticked, and there were at most c ticks for each octet that was passed.
pub record CountedOne {X : Type 0} (c : ℕ) (grammar : Value → Option X) (old new : Position)
    (before after : ℕ) (x : X) : Type 0 where
  pub takes : TakesOne grammar old new x
  pub least : before + nodes takes.value ≤ after
  pub most : after + c * left new ≤ before + c * left old

-- The grammar reads no value that stands here, or memory ran out. The count didn't fall, and there
-- were at most c ticks for each octet that was left, and 8.
pub record CountedRefuses {X : Type 0} (c : ℕ) (grammar : Value → Option X) (old : Position)
    (before after : ℕ) (error : DecodeError) : Type 0 where
  pub refuses : Refuses grammar old error
  pub least : before ≤ after
  pub most : after ≤ before + c * left old + 8

-- Takes, and c ticks an octet at most.
abbrev pub TakesCounted : {X Y : Type 0} → ℕ → (Value → Option X) → (Y → X) → Position → Position
    → ℕ → ℕ → Result Y DecodeError → Type 0
TakesCounted c grammar view old new before after result =
    MatchResult result (λ y. CountedOne c grammar old new before after (view y))
    (λ e. CountedRefuses c grammar old before after e)

-- Fields that stand next at this level are read as x, and the cursor stands behind them afterwards.
-- Each value in them ticked, and there were at most c ticks for each octet that was passed, and k.
pub record CountedFields {X : Type 0} (c k : ℕ) (fields : Values → Option (X × Values))
    (old new : Position) (before after : ℕ) (x : X) : Type 0 where
  pub takes : TakesFields fields old new x
  pub least : (vs : Values) (rest : List ℕ)
      (h : LevelHolds new.mode (top new.levels) new.here vs rest)
      → before + all_nodes (takes.reads vs rest h).0 ≤ after + all_nodes vs
  pub later : before ≤ after
  pub on : left new ≤ left old
  pub most : after + c * left new ≤ before + c * left old + k

-- no fields stand at this level that fields reads, or memory ran out; the count didn't fall, and
-- there were at most c ticks for each octet that was left, and k and 8
pub record CountedRefusesFields {X : Type 0} (c k : ℕ) (fields : Values → Option (X × Values))
    (old : Position) (before after : ℕ) (error : DecodeError) : Type 0 where
  pub refuses : RefusesFields fields old error
  pub least : before ≤ after
  pub most : after ≤ before + c * left old + k + 8

-- TakesPart, and c ticks an octet at most, and k more
abbrev pub TakesPartCounted : {X Y : Type 0} → ℕ → ℕ → (Values → Option (X × Values)) → (Y → X)
    → Position → Position → ℕ → ℕ → Result Y DecodeError → Type 0
TakesPartCounted c k fields view old new before after result =
    MatchResult result (λ y. CountedFields c k fields old new before after (view y))
    (λ e. CountedRefusesFields c k fields old before after e)

-- A value that the grammar reads as x begins the octets. Each value in it ticked, and there were at
-- most c ticks for each octet that was passed.
pub record CountedBegins {X : Type 0} (c : ℕ) (grammar : Value → Option X) (mode : Mode)
    (octets : List ℕ) (before after : ℕ) (x : X) : Type 0 where
  pub begins : BeginsAs grammar mode octets x
  pub least : before + nodes begins.value ≤ after
  pub most : after + c * length begins.rest ≤ before + c * length octets

-- the grammar reads no value that begins the octets, or memory ran out; the count didn't fall, and
-- there were at most c ticks for each octet, and 8
pub record CountedRefusesOctets {X : Type 0} (c : ℕ) (grammar : Value → Option X) (mode : Mode)
    (octets : List ℕ) (before after : ℕ) (error : DecodeError) : Type 0 where
  pub refuses : RefusesOctets grammar mode octets error
  pub least : before ≤ after
  pub most : after ≤ before + c * length octets + 8

-- Decodes, and c ticks an octet at most.
abbrev pub DecodesCounted : {X Y : Type 0} → ℕ → (Value → Option X) → (Y → X) → Mode → List ℕ → ℕ
    → ℕ → Result Y DecodeError → Type 0
DecodesCounted c grammar view mode octets before after result =
    MatchResult result (λ y. CountedBegins c grammar mode octets before after (view y))
    (λ e. CountedRefusesOctets c grammar mode octets before after e)

-- ---- what is left of a level, up to its end

-- What is left of the level at p, fields reads as y, and q is behind the level; k ticks are paid by
-- the header in front.
pub record CountedReads {Y : Type 0} (c k : ℕ) (fields : Values → Option Y) (p q : Position)
    (before after : ℕ) (y : Y) : Type 0 where
  pub reads : ReadsFields fields p q y
  pub least : before + all_nodes reads.values ≤ after
  pub most : after + c * left q ≤ before + c * left p + k

-- nothing that fields reads is left of the level, or memory ran out; the count didn't fall, and
-- there were at most c ticks for each octet that was left, and k and 8
pub record CountedStops {Y : Type 0} (c k : ℕ) (fields : Values → Option Y) (p : Position)
    (before after : ℕ) (error : DecodeError) : Type 0 where
  pub stops : Stops fields p error
  pub least : before ≤ after
  pub most : after ≤ before + c * left p + k + 8

-- TakesRest, and c ticks an octet at most; k ticks more are paid by the header in front.
abbrev pub TakesRestCounted : {X Y : Type 0} → ℕ → ℕ → (Values → Option X) → (Y → X) → Position
    → Position → ℕ → ℕ → Result Y DecodeError → Type 0
TakesRestCounted c k fields view old new before after result =
    MatchResult result (λ y. CountedReads c k fields old new before after (view y))
    (λ e. CountedStops c k fields old before after e)
