-- What ties an explanation to a verdict.
use Rattle.std.specs.Prelude.{◌≡◌, ℕ, ℤ, Bool, Some, Result, Ok, Err, List, [], ◌∷◌}
use Rattle.rpki_base.specs.Checks.{first_failure}
use Rattle.rpki_base.specs.PublicKey.{KeyFields}
use Rattle.rpki_sigmsg.specs.Beginning.{HoldsContent}
use Rattle.rpki_ca.specs.Acceptance.{ReadsAs}
use Rattle.rpki_ca.specs.Command.{IsReceive}
use Rattle.rpki_ca.specs.Hexadecimal.{hexadecimal}
use Rattle.rpki_ca.specs.declared.receiving.Kind.{Kind}
use Rattle.rpki_ca.specs.declared.receiving.Received.{Received}
use Rattle.rpki_ca.specs.declared.refusals.Refusal.{Refusal}
use Rattle.rpki_ca.specs.declared.refusals.Refusal.TheVariants.{Validation}
use Rattle.rpki_archive.specs.Verdict.{Entry, command_words}

-- the line asks to receive a signed message whose content reads
pub record BringsMessage (line : List ℕ) : Type 0 where
  pub entry : Entry line
  pub kind : Kind
  pub when : ℤ
  pub key : KeyFields
  pub receive : IsReceive (command_words entry) kind when (key ∷ [])
  pub octets : List ℕ
  pub spelled : hexadecimal entry.envelope ≡ Some octets
  pub message : Received
  pub reads : HoldsContent (λ content. ReadsAs kind content message) octets

-- all checks hold and there is a text; or the first that doesn't is the one that the refusal names
abbrev pub TellsSame : List Bool → Result (List ℕ) Refusal → Type 0
TellsSame checks (Ok text) = first_failure 1 checks ≡ Ok tt
TellsSame checks (Err (Validation n)) = first_failure 1 checks ≡ Err n
TellsSame checks (Err other) = ⊥
