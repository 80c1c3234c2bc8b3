-- The verdict on a message in an archive: what the command `receive` answers.
use Rattle.std.specs.Prelude.{◌≡◌, ◌+◌, ℕ, Result, Ok, Err, List, [], ◌∷◌, ◌++◌, codes, length, ⊤}
use Rattle.std.specs.Fmt.{decimal}
use Rattle.hex.specs.Hex.{encode_lower}
use Rattle.sha2.specs.Sha256.{sha256}
use Rattle.rpki_base.specs.Scheme.{Relation}
use Rattle.rpki_ca.specs.Answer.{IsAnswer, exit_status}
use Rattle.rpki_ca.specs.Lines.{words_of}
use Rattle.rpki_ca.specs.Refusal.{name_of}
use Rattle.rpki_ca.specs.declared.refusals.Refusal.{Refusal}
use Rattle.rpki_ca.specs.declared.refusals.Refusal.TheVariants.{Usage}

-- The words of a line of the archive: those of the command `receive` with one key, and the signed
-- message in hexadecimal.
pub record Entry (line : List ℕ) : Type 0 where
  pub kind : List ℕ
  pub moment : List ℕ
  pub key : List ℕ
  pub envelope : List ℕ
  pub words : words_of line ≡ kind ∷ moment ∷ key ∷ envelope ∷ []

-- the command of a line
abbrev pub command_words : {line : List ℕ} → Entry line → List (List ℕ)
command_words entry = codes "receive" ∷ entry.kind ∷ entry.moment ∷ entry.key ∷ []

-- the answer to a line, which is Usage where it has not four words with one space between
pub record IsLineAnswer (scheme : Relation) (line : List ℕ) (answer : Result (List ℕ) Refusal)
    : Type 0 where
  pub entry : (e : Entry line) → IsAnswer scheme (command_words e) e.envelope answer
  pub other : (Entry line → ⊥) → answer ≡ Err Usage

-- the status, and the SHA-256 of what would be written, or the name of the refusal
abbrev pub answer_name : Result (List ℕ) Refusal → List ℕ
answer_name (Ok text) = encode_lower (sha256 text)
answer_name (Err refusal) = name_of refusal

-- a verdict: the exit status in decimal, a space, and the name of the answer
abbrev pub verdict_text : Result (List ℕ) Refusal → List ℕ
verdict_text answer = decimal (exit_status answer) ++ (codes " " ++ answer_name answer)

-- the answers to all lines
abbrev pub AreLineAnswers : Relation → List (List ℕ) → List (Result (List ℕ) Refusal) → Type 0
AreLineAnswers scheme [] [] = ⊤
AreLineAnswers scheme [] (answer ∷ answers) = ⊥
AreLineAnswers scheme (line ∷ lines) [] = ⊥
AreLineAnswers scheme (line ∷ lines) (answer ∷ answers) =
    IsLineAnswer scheme line answer × AreLineAnswers scheme lines answers

-- how many of them are accepted
abbrev pub accepted_of : List (Result (List ℕ) Refusal) → ℕ
accepted_of [] = 0
accepted_of (Ok text ∷ answers) = 1 + accepted_of answers
accepted_of (Err refusal ∷ answers) = accepted_of answers

-- what is written behind the verdicts: how many lines there are, and how many are accepted
abbrev pub total_of : ℕ → ℕ → List ℕ
total_of lines accepted =
    codes "total " ++ (decimal lines ++ (codes " accepted " ++ (decimal accepted ++ 10 ∷ [])))

-- what is written behind the verdicts on lines with these answers
abbrev pub total_text : List (Result (List ℕ) Refusal) → List ℕ
total_text answers = total_of (length answers) (accepted_of answers)
