-- Answers to lines, one behind the other.
use Rattle.std.proofs.Common.{◌≡◌, ◌+◌, ◌<◌, ◌≤◌, ℕ, suc, List, [], ◌∷◌, ◌++◌, length, get_or, take, add-one, Result, Ok, Err, IsErrAnd, refl, sym, ap, subst, ◌∙◌}
use Rattle.std.proofs.lemmas.List.{length-take-le, take_all}
use Rattle.std.proofs.Math.Seq.{take-suc}
use Rattle.rpki_ca.specs.Lines.{Answered}
use Rattle.rpki_ca.specs.Seen.{Seen}
use Rattle.rpki_ca.specs.Steps.{AreSteps, AreAllSteps, AreFirstSteps}
use Rattle.rpki_ca.specs.declared.lines.Stop.{Stop}
use Rattle.rpki_ca.specs.declared.refusals.Refusal.{Refusal}

steps_more : {S L : Type 0} (step : S → L → List ℕ → S → Type 0) (state : S) (lines : List L) (texts : List (List ℕ)) (last next : S) (line : L) (text : List ℕ)
    → AreSteps step state lines texts last → step last line text next → AreSteps step state (lines ++ line ∷ []) (texts ++ text ∷ []) next
steps_more {S = S} step state [] [] last next line text are is = (next, subst (λ (s : S). step s line text next) are is, refl)
steps_more step state [] (t ∷ texts) last next line text are is = absurd are
steps_more step state (l ∷ lines) [] last next line text are is = absurd are
steps_more step state (l ∷ lines) (t ∷ texts) last next line text are is = (are.0, are.1, steps_more step are.0 lines texts last next line text are.2 is)

same_length : {S L : Type 0} (step : S → L → List ℕ → S → Type 0) (state : S) (lines : List L) (texts : List (List ℕ)) (last : S) → AreSteps step state lines texts last → length texts ≡ length lines
same_length step state [] [] last are = refl
same_length step state [] (t ∷ texts) last are = absurd are
same_length step state (l ∷ lines) [] last are = absurd are
same_length step state (l ∷ lines) (t ∷ texts) last are = ap (λ (n : ℕ). suc n) (same_length step are.0 lines texts last are.2)

pub stopped_so : (all : List (List ℕ) → List ℕ → Type 0) (first : List (List ℕ) → Type 0) (stops : List (List ℕ) → Refusal → Type 0) (r : Result (Unit {0}) Stop) (stop : Stop) (sink : Seen) → IsErrAnd r (λ e. e ≡ stop) → Answered all first stops (Err stop) sink → Answered all first stops r sink
stopped_so all first stops (Ok u) stop sink is h = absurd is
stopped_so all first stops (Err e) stop sink is h = subst (λ (s : Stop). Answered all first stops (Err s) sink) (sym is) h

-- ---- the answers so far

pub take_more : {X : Type 0} (xs : List X) (i : ℕ) (x : X) → i < length xs → x ≡ get_or xs i x → take (i + 1) xs ≡ take i xs ++ x ∷ []
take_more {X = X} xs i x lt at = rw add-one (take-suc xs i x lt ∙ ap (λ (y : X). take i xs ++ y ∷ []) (sym at))

module _ {S L : Type 0} (step : S → L → List ℕ → S → Type 0) (state : S) (lines : List L) where
  pub counted : (i : ℕ) (texts : List (List ℕ)) (last : S) → i ≤ length lines → AreSteps step state (take i lines) texts last → length texts ≡ i
  counted i texts last le are = same_length step state (take i lines) texts last are ∙ length-take-le i lines le

  pub first_steps : (i : ℕ) (texts : List (List ℕ)) (last : S) → i ≤ length lines → AreSteps step state (take i lines) texts last → AreSteps step state (take (length texts) lines) texts last
  first_steps i texts last le are = subst (λ (n : ℕ). AreSteps step state (take n lines) texts last) (sym (counted i texts last le are)) are

  pub first_so : (i : ℕ) (texts : List (List ℕ)) (last : S) → i ≤ length lines → AreSteps step state (take i lines) texts last → AreFirstSteps step state lines texts
  first_so i texts last le are = record { last = last; answered = first_steps i texts last le are }

  pub one_more_so : (i : ℕ) (texts : List (List ℕ)) (last next : S) (line : L) (text : List ℕ) → i < length lines → line ≡ get_or lines i line → AreSteps step state (take i lines) texts last → step last line text next
      → AreSteps step state (take (i + 1) lines) (texts ++ text ∷ []) next
  one_more_so i texts last next line text lt at are is =
      subst (λ (l : List L). AreSteps step state l (texts ++ text ∷ []) next) (sym (take_more lines i line lt at)) (steps_more step state (take i lines) texts last next line text are is)

  pub all_steps : (i : ℕ) (texts : List (List ℕ)) (last : S) → length lines ≤ i → AreSteps step state (take i lines) texts last → AreSteps step state lines texts last
  all_steps i texts last le are = subst (λ (l : List L). AreSteps step state l texts last) (take_all i lines le) are

  pub all_so : (closing_of : S → List ℕ) (i : ℕ) (texts : List (List ℕ)) (last : S) (closing : List ℕ) → length lines ≤ i → AreSteps step state (take i lines) texts last → closing ≡ closing_of last → AreAllSteps step closing_of state lines texts closing
  all_so closing_of i texts last closing le are written = record { last = last; answered = all_steps i texts last le are; written = written }
