-- Whole values, as the octets show them, and what it is to take one (X.690, 8.1).
use Rattle.std.specs.Prelude.{◌≡◌, ℕ, ◌+◌, ◌*◌, ◌≤◌, ◌⊎◌, Bool, true, false, if◌then◌else◌, Option, None, Some, Result, List, MatchOption, MatchResult}
use Rattle.rpki_der.specs.declared.error.DecodeError.{DecodeError}
use Rattle.rpki_der.specs.declared.error.DecodeError.TheVariants.{Malformed, OutOfMemory}
use Rattle.rpki_der.specs.Identifier.{tag_of, has_tag}
use Rattle.rpki_der.specs.Value.{Value, Primitive, Constructed, spelling, spellings}
use Rattle.rpki_der.specs.Header.{IdentifierFirst}
use Rattle.rpki_der.specs.Part.{NoValue}
use Rattle.rpki_der.specs.Position.{Position, AtEnd}
use Rattle.rpki_der.specs.Grammar.{identifier_of}
use Rattle.rpki_der.specs.Takes.{TakesOne, NoneStands}
use Rattle.rpki_der.specs.Ticks.{left, CountedOne}

-- the tag, whether the form is constructed, the contents octets, and all octets
pub record ItemFields : Type 0 where
  pub tag : List ℕ
  pub constructed : Bool
  pub content : List ℕ
  pub slice : List ℕ

-- What a value shows. The contents of a constructed value are the spellings of the values inside
-- it; an end mark isn't among them.
abbrev pub item : Value → ItemFields
item (Primitive identifier lengths contents) = record {
  tag = tag_of identifier;
  constructed = false;
  content = contents;
  slice = spelling (Primitive identifier lengths contents);
}
item (Constructed identifier form inner) = record {
  tag = tag_of identifier;
  constructed = true;
  content = spellings inner;
  slice = spelling (Constructed identifier form inner);
}

-- any value
abbrev pub any_item : Value → Option ItemFields
any_item v = Some (item v)

-- a value with this tag, of either form
abbrev pub item_with : List ℕ → Value → Option ItemFields
item_with tag v = if has_tag tag (identifier_of v) then Some (item v) else None

-- ---- the next value, if there is one

-- Where no value is taken, it isn't the end of the level; and the answer is Malformed only where no
-- value stands next.
unfoldable pub RefusesNext : Position → DecodeError → Type 0
RefusesNext old Malformed = (AtEnd old → ⊥) × NoValue old.mode old.here
RefusesNext old OutOfMemory = AtEnd old → ⊥

-- The answer is the value that stands next; or None, at the end of the level; or Malformed, exactly
-- where neither is so.
abbrev pub TakesNext : Position → Position → Result (Option ItemFields) DecodeError → Type 0
TakesNext old new result =
    MatchResult result (λ found. MatchOption found (AtEnd old × (new ≡ old))
    (λ i. TakesOne any_item old new i)) (RefusesNext old)

-- neither a next value is taken nor the level's end found, for this error; the count didn't fall,
-- and there were at most c ticks for each octet that was left, and 8
pub record CountedRefusesNext (c : ℕ) (old : Position) (before after : ℕ)
    (error : DecodeError) : Type 0 where
  pub refuses : RefusesNext old error
  pub least : before ≤ after
  pub most : after ≤ before + c * left old + 8

-- TakesNext, and c ticks an octet at most; None ticks nothing.
abbrev pub TakesNextCounted : ℕ → Position → Position → ℕ → ℕ
    → Result (Option ItemFields) DecodeError → Type 0
TakesNextCounted c old new before after result =
    MatchResult result (λ found. MatchOption found (AtEnd old × (new ≡ old) × (after ≡ before))
    (λ i. CountedOne c any_item old new before after i)) (CountedRefusesNext c old before after)

-- ---- the next value, if it has this tag

-- an identifier of another tag stands at the beginning of the octets, whatever follows it
abbrev pub OtherFirst : List ℕ → List ℕ → Type 0
OtherFirst tag octets = (identifier : List ℕ) × (rest : List ℕ)
    × IdentifierFirst octets identifier rest × (has_tag tag identifier ≡ false)

-- the level ends here, or an identifier of another tag stands next
abbrev pub Absent : List ℕ → Position → Type 0
Absent tag old = AtEnd old ⊎ OtherFirst tag old.here

-- Where no value is taken, neither the level ends nor another tag stands next; the answer is
-- Malformed only where no value stands next.
unfoldable pub RefusesOptional : List ℕ → Position → DecodeError → Type 0
RefusesOptional tag old Malformed = (Absent tag old → ⊥) × NoValue old.mode old.here
RefusesOptional tag old OutOfMemory = Absent tag old → ⊥

-- The answer is the value that stands next, which has this tag; or None, at the end of the level
-- and where an identifier of another tag stands next; or Malformed, exactly where none of these is
-- so.
abbrev pub TakesOptional : List ℕ → Position → Position → Result (Option ItemFields) DecodeError
    → Type 0
TakesOptional tag old new result =
    MatchResult result (λ found. MatchOption found (Absent tag old × (new ≡ old))
    (λ i. TakesOne (item_with tag) old new i)) (RefusesOptional tag old)

-- Absent: the end of the level ticks nothing, and the identifier of another tag once.
abbrev pub CountedAbsent : List ℕ → Position → ℕ → ℕ → Type 0
CountedAbsent tag old before after =
    (AtEnd old × (after ≡ before)) ⊎ (OtherFirst tag old.here × (after ≡ before + 1))

-- neither a value with this tag is taken nor its absence found, for this error; the count didn't
-- fall, and there were at most c ticks for each octet that was left, and 8
pub record CountedRefusesOptional (c : ℕ) (tag : List ℕ) (old : Position) (before after : ℕ)
    (error : DecodeError) : Type 0 where
  pub refuses : RefusesOptional tag old error
  pub least : before ≤ after
  pub most : after ≤ before + c * left old + 8

-- TakesOptional, and c ticks an octet at most.
abbrev pub TakesOptionalCounted : ℕ → List ℕ → Position → Position → ℕ → ℕ
    → Result (Option ItemFields) DecodeError → Type 0
TakesOptionalCounted c tag old new before after result =
    MatchResult result (λ found. MatchOption found
    (CountedAbsent tag old before after × (new ≡ old))
    (λ i. CountedOne c (item_with tag) old new before after i))
    (CountedRefusesOptional c tag old before after)

-- ---- a value that may be absent, by what a grammar reads of it

-- Where no value is taken, neither the level ends nor another tag stands next; the answer is
-- Malformed only where the grammar reads no value that stands next.
unfoldable pub RefusesOptionalAs : {X : Type 0} → List ℕ → (Value → Option X) → Position
    → DecodeError → Type 0
RefusesOptionalAs tag grammar old Malformed = (Absent tag old → ⊥) × NoneStands grammar old
RefusesOptionalAs tag grammar old OutOfMemory = Absent tag old → ⊥

-- The answer is what the grammar reads of the value that stands next, whatever follows it; or
-- nothing, at the end of the level and where an identifier of another tag stands next; or
-- Malformed, exactly where none of these is so.
abbrev pub TakesOptionalAs : {X Y : Type 0} → List ℕ → (Value → Option X) → (Y → Option X)
    → Position → Position → Result Y DecodeError → Type 0
TakesOptionalAs tag grammar view old new result =
    MatchResult result (λ y. MatchOption (view y) (Absent tag old × (new ≡ old))
    (λ x. TakesOne grammar old new x)) (RefusesOptionalAs tag grammar old)
