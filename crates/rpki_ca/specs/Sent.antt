-- Signed messages that stand in the lines of an input, each in hexadecimal digits.
use Rattle.std.specs.Prelude.{◌≡◌, ℕ, ℤ, Option, Some, Err, List, map}
use Rattle.std.specs.Result.{result_ok}
use Rattle.hex.specs.Hex.{decode_of}
use Rattle.rpki_sigmsg.specs.Making.{HasWindow}
use Rattle.rpki_ca.specs.Answer.{Ends}
use Rattle.rpki_ca.specs.Seen.{Seen}
use Rattle.rpki_ca.specs.declared.refusals.Refusal.TheVariants.{Moment}

-- the octets that a line spells, two digits of either case an octet; none where it is no even
-- number of digits
abbrev pub sent_in : List ℕ → Option (List ℕ)
sent_in line = result_ok (decode_of line)

-- each line is the hexadecimal of these octets, in digits of either case
abbrev pub AreSent : List (List ℕ) → List (List ℕ) → Type 0
AreSent lines messages = map sent_in lines ≡ map Some messages

-- some line is that of none
abbrev pub AreNotSent : List (List ℕ) → Type 0
AreNotSent lines = (messages : List (List ℕ)) → AreSent lines messages → ⊥

-- How a program ends where each line is that of octets, and the moment has no window, so that no
-- answer could be signed.
pub record EndsMoment (when : ℤ) (lines : List (List ℕ)) (status : ℕ) (sink : Seen) : Type 0 where
  pub messages : List (List ℕ)
  pub are : AreSent lines messages
  pub none : HasWindow when → ⊥
  pub ends : Ends (Err Moment) status sink
