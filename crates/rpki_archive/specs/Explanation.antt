-- The explanation of a message in an archive: all fourteen checks.
use Rattle.std.specs.Prelude.{◌≡◌, ℕ, ℤ, Bool, Option, None, Some, List, [], ◌∷◌, codes, map, ⊤}
use Rattle.rpki_base.specs.PublicKey.{KeyFields}
use Rattle.rpki_base.specs.Scheme.{Relation}
use Rattle.rpki_sigmsg.specs.Beginning.{BeginsSigned}
use Rattle.rpki_sigmsg.specs.Checks.{AreChecks}
use Rattle.rpki_sigmsg.specs.Message.{MessageFields}
use Rattle.rpki_ca.specs.Acceptance.{HoldsNoSigned}
use Rattle.rpki_ca.specs.Command.{IsReceive, IsNoCommand}
use Rattle.rpki_ca.specs.Hexadecimal.{hexadecimal}
use Rattle.rpki_ca.specs.Lines.{digit_of}
use Rattle.rpki_ca.specs.declared.receiving.Kind.{Kind}
use Rattle.rpki_archive.specs.Verdict.{Entry, command_words}

-- the octets begin with a signed message, and these are the digits of its fourteen checks
pub record AreDigits (scheme : Relation) (octets : List ℕ) (key : KeyFields) (when : ℤ)
    (text : List ℕ) : Type 0 where
  pub signed : MessageFields
  pub begins : BeginsSigned octets signed
  pub checks : List Bool
  pub are : AreChecks scheme signed key when checks
  pub written : text ≡ map digit_of checks

-- what is said of the octets of a message
pub record IsSaidOf (scheme : Relation) (octets : List ℕ) (key : KeyFields) (when : ℤ)
    (text : List ℕ) : Type 0 where
  pub none : HoldsNoSigned octets → text ≡ codes "CmsDecode"
  pub some : (signed : MessageFields) → BeginsSigned octets signed
      → AreDigits scheme octets key when text

-- what is said of the octets that a word spells, or that it spells none
abbrev pub IsSaidOfSpelled : Relation → Option (List ℕ) → KeyFields → ℤ → List ℕ → Type 0
IsSaidOfSpelled scheme None key when text = text ≡ codes "Hex"
IsSaidOfSpelled scheme (Some octets) key when text = IsSaidOf scheme octets key when text

-- what is said of a line with four words
pub record ExplainsEntry (scheme : Relation) (line : List ℕ) (entry : Entry line) (text : List ℕ)
    : Type 0 where
  pub usage : IsNoCommand (command_words entry) → text ≡ codes "Usage"
  pub checks : (kind : Kind) (when : ℤ) (key : KeyFields)
      → IsReceive (command_words entry) kind when (key ∷ [])
      → IsSaidOfSpelled scheme (hexadecimal entry.envelope) key when text

-- the explanation of a line
pub record IsExplanation (scheme : Relation) (line text : List ℕ) : Type 0 where
  pub entry : (e : Entry line) → ExplainsEntry scheme line e text
  pub other : (Entry line → ⊥) → text ≡ codes "Usage"

-- the texts are the explanations of all lines
abbrev pub AreExplanations : Relation → List (List ℕ) → List (List ℕ) → Type 0
AreExplanations scheme [] [] = ⊤
AreExplanations scheme [] (text ∷ texts) = ⊥
AreExplanations scheme (line ∷ lines) [] = ⊥
AreExplanations scheme (line ∷ lines) (text ∷ texts) =
    IsExplanation scheme line text × AreExplanations scheme lines texts
