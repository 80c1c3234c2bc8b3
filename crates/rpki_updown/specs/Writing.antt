-- Means for the writer.
use Rattle.std.specs.Prelude.{ℕ, List, [], ◌++◌, Option, None, Some}
use Rattle.rpki_sets.specs.declared.run.Run.{Run}

-- a part of a limit that is stated, behind a separator
abbrev pub shown_part : List ℕ → List ℕ → (List Run → List ℕ) → Option (List Run) → List ℕ
shown_part separator name text None = []
shown_part separator name text (Some stated) = separator ++ (name ++ text stated)
