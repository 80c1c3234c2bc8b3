-- What is printed of a reply that reports errors.
use Rattle.std.specs.Prelude.{ℕ, List, [], ◌∷◌, ◌++◌, Option, None, Some, codes}
use Rattle.rpki_publication.specs.ReportError.{ReportErrorFields}
use Rattle.rpki_publication.specs.ReportErrorCode.{code_text}

-- what stands behind an error's code: `, text: ` and its text where it has one, and a space
abbrev pub shown_rest : Option (List ℕ) → List ℕ
shown_rest None = codes " "
shown_rest (Some text) = codes ", text: " ++ (text ++ codes " ")

-- what an error prints: its code, and its text where it has one of its own
abbrev pub shown_one : ReportErrorFields → List ℕ
shown_one r = codes "error code: " ++ (code_text r.error_code ++ shown_rest r.error_text)

-- what errors print, one behind the other
abbrev pub shown_errors : List ReportErrorFields → List ℕ
shown_errors [] = []
shown_errors (r ∷ more) = shown_one r ++ shown_errors more

-- what a reply that reports errors prints
abbrev pub shown_reply : List ReportErrorFields → List ℕ
shown_reply errors = codes "error reply including: " ++ shown_errors errors
