-- What the archive checker's program does with words and input.
use Rattle.std.specs.Prelude.{◌≡◌, ℕ, Result, List, [], ◌∷◌, codes, length, map, take}
use Rattle.rpki_base.specs.Scheme.{Relation}
use Rattle.rpki_ca.specs.Lines.{EndsLines, StopsForMemory}
use Rattle.rpki_ca.specs.Seen.{Seen}
use Rattle.rpki_ca.specs.declared.refusals.Refusal.{Refusal}
use Rattle.rpki_archive.specs.declared.checking.Task.{Task}
use Rattle.rpki_archive.specs.declared.checking.Task.TheVariants.{Batch, Explain}
use Rattle.rpki_archive.specs.Explanation.{AreExplanations}
use Rattle.rpki_archive.specs.Verdict.{AreLineAnswers, total_text, verdict_text}

-- the word for a task, which says what is to be written
abbrev pub task_word : Task → List ℕ
task_word Batch = codes "batch"
task_word Explain = codes "explain"

-- the only word is the one for this task
abbrev pub IsArchiveTask : List (List ℕ) → Task → Type 0
IsArchiveTask words task = words ≡ task_word task ∷ []

-- the words ask for no task
abbrev pub IsNoArchiveTask : List (List ℕ) → Type 0
IsNoArchiveTask words = (task : Task) → IsArchiveTask words task → ⊥

-- ---- with `batch`

-- the texts are the verdicts on all lines, and the closing text is their total
pub record AreAllVerdicts (scheme : Relation) (lines texts : List (List ℕ)) (closing : List ℕ)
    : Type 0 where
  pub answers : List (Result (List ℕ) Refusal)
  pub are : AreLineAnswers scheme lines answers
  pub written : texts ≡ map verdict_text answers
  pub total : closing ≡ total_text answers

-- the texts are the verdicts on the first lines
pub record AreFirstVerdicts (scheme : Relation) (lines texts : List (List ℕ)) : Type 0 where
  pub answers : List (Result (List ℕ) Refusal)
  pub are : AreLineAnswers scheme (take (length texts) lines) answers
  pub written : texts ≡ map verdict_text answers

-- ---- with `explain`

-- the texts are the explanations of all lines, and nothing is behind them
pub record AreAllExplanations (scheme : Relation) (lines texts : List (List ℕ)) (closing : List ℕ)
    : Type 0 where
  pub are : AreExplanations scheme lines texts
  pub nothing : closing ≡ []

-- the texts are the explanations of the first lines
abbrev pub AreFirstExplanations : Relation → List (List ℕ) → List (List ℕ) → Type 0
AreFirstExplanations scheme lines texts =
    AreExplanations scheme (take (length texts) lines) texts

-- ---- how it ends

-- how it ends, by the task, with verdicts or with explanations: of all lines, or of the first ones,
-- where memory ran out or the sink failed
abbrev pub EndsArchiveTask : Relation → Task → List (List ℕ) → ℕ → Seen → Type 0
EndsArchiveTask scheme Batch lines status sink =
    EndsLines (AreAllVerdicts scheme lines) (AreFirstVerdicts scheme lines)
    (StopsForMemory (AreFirstVerdicts scheme lines)) status sink
EndsArchiveTask scheme Explain lines status sink =
    EndsLines (AreAllExplanations scheme lines) (AreFirstExplanations scheme lines)
    (StopsForMemory (AreFirstExplanations scheme lines)) status sink
