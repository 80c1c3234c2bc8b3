-- The messages of lines.
use Rattle.std.proofs.Common.{◌≡◌, ◌∙◌, ◌++◌, ◌∷◌, [], ℕ, List, None, Option, Some, ap, map, sym}

module _ {X : Type 0} where
  none_among : (done : List X) (rest : List (Option X)) (sent : List X) → map Some done ++ None ∷ rest ≡ map Some sent → ⊥
  none_among [] rest [] e = cc
  none_among [] rest (m ∷ sent) e = cc
  none_among (d ∷ done) rest [] e = cc
  none_among (d ∷ done) rest (m ∷ sent) e = let t : map Some done ++ None ∷ rest ≡ map Some sent = cc in none_among done rest sent t

  -- where one line is that of none, so are all
  pub not_sent : (sent_in : List ℕ → Option X) (done : List X) (before rest all : List (List ℕ)) (line : List ℕ) → map Some done ++ map sent_in before ≡ map sent_in all → before ≡ line ∷ rest → sent_in line ≡ None
      → (sent : List X) → map sent_in all ≡ map Some sent → ⊥
  not_sent sent_in done before rest all line h first none sent are =
      none_among done (map sent_in rest) sent
      (ap (λ (o : Option X). map Some done ++ o ∷ map sent_in rest) (sym none) ∙ ap (λ (l : List (List ℕ)). map Some done ++ map sent_in l) (sym first) ∙ h ∙ are)
