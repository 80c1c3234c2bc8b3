-- Answers to lines one behind the other, each by the state that the lines before it left.
use Rattle.std.specs.Prelude.{◌≡◌, ℕ, List, [], ◌∷◌, length, take}

-- Each text is the answer to its line: `step` says it of a state, a line, the text, and the state
-- behind it, with which the next line is answered.
abbrev pub AreSteps : {S L : Type 0} → (S → L → List ℕ → S → Type 0) → S → List L
    → List (List ℕ) → S → Type 0
AreSteps step state [] [] last = last ≡ state
AreSteps step state [] (text ∷ texts) last = ⊥
AreSteps step state (line ∷ lines) [] last = ⊥
AreSteps {S = S} step state (line ∷ lines) (text ∷ texts) last =
    (next : S) × step state line text next × AreSteps step next lines texts last

-- the texts are the answers to all lines, and the closing text is that of the state behind them
pub record AreAllSteps {S L : Type 0} (step : S → L → List ℕ → S → Type 0) (closing_of : S → List ℕ)
    (state : S) (lines : List L) (texts : List (List ℕ)) (closing : List ℕ) : Type 0 where
  pub last : S
  pub answered : AreSteps step state lines texts last
  pub written : closing ≡ closing_of last

-- the texts are the answers to the first lines
pub record AreFirstSteps {S L : Type 0} (step : S → L → List ℕ → S → Type 0) (state : S)
    (lines : List L) (texts : List (List ℕ)) : Type 0 where
  pub last : S
  pub answered : AreSteps step state (take (length texts) lines) texts last
