-- Errors that are printed one after the other.
use Rattle.std.proofs.Common.{◌≡◌, ℕ, List, [], ◌∷◌, ◌++◌, sym, ap, ◌∙◌, append_assoc}
use Rattle.std.proofs.lemmas.List.{append-nil}
use Rattle.rpki_publication.specs.ErrorReply.{shown_one, shown_errors}
use Rattle.rpki_publication.specs.ReportError.{ReportErrorFields}

pub shown_step : (list more : List ReportErrorFields) (x : ReportErrorFields) (front all : List ℕ) → list ≡ x ∷ more → front ++ shown_errors list ≡ all → (front ++ shown_one x) ++ shown_errors more ≡ all
shown_step list more x front all is so_far = append_assoc front (shown_one x) (shown_errors more) ∙ ap (λ (l : List ReportErrorFields). front ++ shown_errors l) (sym is) ∙ so_far

pub shown_done : (list : List ReportErrorFields) (front all : List ℕ) → list ≡ [] → front ++ shown_errors list ≡ all → front ≡ all
shown_done list front all is so_far = sym (append-nil front) ∙ ap (λ (l : List ReportErrorFields). front ++ shown_errors l) (sym is) ∙ so_far
