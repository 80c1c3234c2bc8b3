-- What a line asks to receive.
use Rattle.std.specs.Prelude.{◌≡◌, ℕ, ℤ, None, Some, List, length, ⊤}
use Rattle.rpki_base.specs.PublicKey.{KeyFields}
use Rattle.rpki_ca.specs.Command.{IsReceive, IsNoCommand}
use Rattle.rpki_ca.specs.Hexadecimal.{hexadecimal}
use Rattle.rpki_ca.specs.declared.command.Command.{Command}
use Rattle.rpki_ca.specs.declared.command.Command.TheVariants.{Receive}
use Rattle.rpki_ca.specs.declared.receiving.Kind.{Kind}
use Rattle.rpki_ca.specs.declared.refusals.Refusal.{Refusal}
use Rattle.rpki_ca.specs.declared.refusals.Refusal.TheVariants.{Usage, Hex, OutOfMemory}
use Rattle.rpki_archive.specs.Verdict.{Entry, command_words}

-- the words are those of the command `receive`, with one key
pub record AsksReceipt (line : List ℕ) (kind : Kind) (when : ℤ) (keys : List KeyFields) : Type 0
  where
    pub entry : Entry line
    pub receive : IsReceive (command_words entry) kind when keys
    pub one : length keys ≡ 1

-- the line asks for this command of these octets: its words are those of `receive`, and the fourth
-- spells the octets
pub record Asks (line : List ℕ) (command : Command) (octets : List ℕ) : Type 0 where
  pub kind : Kind
  pub when : ℤ
  pub keys : List KeyFields
  pub is : command ≡ Receive kind when keys
  pub receipt : AsksReceipt line kind when keys
  pub spelled : hexadecimal receipt.entry.envelope ≡ Some octets

-- the words are those of the command `receive`, with one key, and the fourth spells no octets
pub record AsksInVain (line : List ℕ) : Type 0 where
  pub kind : Kind
  pub when : ℤ
  pub keys : List KeyFields
  pub receipt : AsksReceipt line kind when keys
  pub none : hexadecimal receipt.entry.envelope ≡ None

-- why a line asks for nothing
abbrev pub RefusesEntry : List ℕ → Refusal → Type 0
RefusesEntry line Usage = (e : Entry line) → IsNoCommand (command_words e)
RefusesEntry line Hex = AsksInVain line
RefusesEntry line OutOfMemory = ⊤
RefusesEntry line other = ⊥
