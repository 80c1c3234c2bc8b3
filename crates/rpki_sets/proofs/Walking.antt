-- The walk over two lists of maximal runs, as `includes` goes: what is left to look at decides the question.
use Rattle.std.proofs.Common.{◌≡◌, ◌↔◌, ◌<◌, ◌≤◌, true, false, IsTrue, List, [], ◌∷◌, refl}
use Rattle.std.proofs.lemmas.Bool.{false≢true}
use Rattle.rpki_sets.specs.declared.run.Run.{Run}
use Rattle.rpki_sets.specs.Runs.{Includes, IsMaximal}
use Rattle.rpki_sets.proofs.RunLemmas.{without_first, without_asked, not_included, nothing_included}

-- what is left decides whether all has part
pub record IsLeft (all part held asked : List Run) : Type 0 where
  pub held_maximal : IsMaximal held
  pub asked_maximal : IsMaximal asked
  pub same : Includes all part ↔ Includes held asked

-- `held` and `asked` have these first runs, and these behind them
pub record IsSeen (held asked : List Run) (s : Run) (others : List Run) (r : Run) (rest : List Run) : Type 0 where
  pub held_is : held ≡ s ∷ others
  pub asked_is : asked ≡ r ∷ rest

module _ (all part : List Run) where
  opened : (held asked : List Run) (s : Run) (others : List Run) (r : Run) (rest : List Run) → IsSeen held asked s others r rest → IsLeft all part held asked → IsLeft all part (s ∷ others) (r ∷ rest)
  opened held asked s others r rest seen left = rw (← seen.held_is, ← seen.asked_is) left

  past_first : (s : Run) (others : List Run) (r : Run) (rest : List Run) → s.last < r.first → IsLeft all part (s ∷ others) (r ∷ rest) → IsLeft all part others (r ∷ rest)
  past_first s others r rest before left =
      let step = without_first s r others rest before left.asked_maximal in record {
        held_maximal = left.held_maximal.2;
        asked_maximal = left.asked_maximal;
        same = (λ h. step.0 (left.same.0 h), λ h. left.same.1 (step.1 h));
      }

  past_asked : (s : Run) (others : List Run) (r : Run) (rest : List Run) → (s.first ≤ r.first) × (r.last ≤ s.last) → IsLeft all part (s ∷ others) (r ∷ rest) → IsLeft all part (s ∷ others) rest
  past_asked s others r rest inside left =
      let step = without_asked s r others rest inside in record {
        held_maximal = left.held_maximal;
        asked_maximal = left.asked_maximal.2;
        same = (λ h. step.0 (left.same.0 h), λ h. left.same.1 (step.1 h));
      }

  -- the first run held is passed
  pub IsLeft-others : (held asked : List Run) (s : Run) (others : List Run) (r : Run) (rest : List Run) → IsSeen held asked s others r rest → IsLeft all part held asked → s.last < r.first → IsLeft all part others asked
  IsLeft-others held asked s others r rest seen left before =
      rw seen.asked_is (past_first s others r rest before (opened held asked s others r rest seen left))

  -- the first run asked for is found
  pub IsLeft-rest : (held asked : List Run) (s : Run) (others : List Run) (r : Run) (rest : List Run) → IsSeen held asked s others r rest → IsLeft all part held asked → (s.first ≤ r.first) × (r.last ≤ s.last) → IsLeft all part held rest
  IsLeft-rest held asked s others r rest seen left inside =
      rw seen.held_is (past_asked s others r rest inside (opened held asked s others r rest seen left))

  -- the first run asked for is nowhere
  pub is_missing : (held asked : List Run) (s : Run) (others : List Run) (r : Run) (rest : List Run) → IsSeen held asked s others r rest → IsLeft all part held asked → r.first ≤ s.last → ¬ ((s.first ≤ r.first) × (r.last ≤ s.last)) → IsTrue false ↔ Includes all part
  is_missing held asked s others r rest seen left reach outside =
      let now = opened held asked s others r rest seen left in (
        λ h. absurd (false≢true h),
        λ h. absurd (not_included s r others rest now.held_maximal now.asked_maximal.0 reach outside (now.same.0 h)),
      )

  -- nothing is left to find it in
  pub is_exhausted : (held asked : List Run) (r : Run) (rest : List Run) → held ≡ [] → asked ≡ r ∷ rest → IsLeft all part held asked → IsTrue false ↔ Includes all part
  is_exhausted held asked r rest none asked_is left =
      let now : IsLeft all part [] (r ∷ rest) = rw (← none, ← asked_is) left in (
        λ h. absurd (false≢true h),
        λ h. absurd (nothing_included r rest now.asked_maximal.0 (now.same.0 h)),
      )

  -- all that was asked for was found
  pub is_found : (held asked : List Run) → asked ≡ [] → IsLeft all part held asked → IsTrue true ↔ Includes all part
  is_found held asked none left =
      let now : IsLeft all part held [] = rw (← none) left in
      (λ h. now.same.1 (λ n g. absurd g), λ h. refl)
