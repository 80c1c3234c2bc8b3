-- Values in DER inside the contents of a leaf, whatever the mode round it.
use Rattle.std.specs.Prelude.{◌≡◌, ℕ, ◌+◌, ◌*◌, ◌≤◌, Option, Some, Result, List, length, MatchResult}
use Rattle.rpki_der.specs.declared.error.DecodeError.{DecodeError}
use Rattle.rpki_der.specs.declared.mode.Mode.TheVariants.{Der}
use Rattle.rpki_der.specs.Reader.{decoded}
use Rattle.rpki_der.specs.Takes.{Lacks}
use Rattle.rpki_der.specs.Value.{Value}

-- what the grammar reads of the value that begins the octets, in DER; what stands behind it is
-- unread
abbrev pub in_der : {X : Type 0} → (Value → Option X) → List ℕ → Option X
in_der grammar octets = decoded grammar Der octets

-- What is there, after at most c ticks for each of the octets.
pub record CountedGiven {X : Type 0} (c : ℕ) (o : Option X) (octets : List ℕ) (before after : ℕ)
    (x : X) : Type 0 where
  pub is : o ≡ Some x
  pub least : before ≤ after
  pub most : after ≤ before + c * length octets

-- Nothing is there, or memory ran out, after at most c ticks for each of the octets, and 8.
pub record CountedLacks {X : Type 0} (c : ℕ) (o : Option X) (octets : List ℕ) (before after : ℕ)
    (error : DecodeError) : Type 0 where
  pub lacks : Lacks o error
  pub least : before ≤ after
  pub most : after ≤ before + c * length octets + 8

-- Gives, and at most c ticks for each of the octets from which it is calculated.
abbrev pub GivesCounted : {X Y : Type 0} → ℕ → Option X → (Y → X) → List ℕ → ℕ → ℕ
    → Result Y DecodeError → Type 0
GivesCounted c o view octets before after result =
    MatchResult result (λ y. CountedGiven c o octets before after (view y))
    (λ e. CountedLacks c o octets before after e)
