-- Answers that a request was not performed (RFC 6492, 3.6).
use Rattle.std.specs.Prelude.{ℕ, List, [], ◌∷◌, ◌++◌, ◌==◌, Option, None, Some, find, codes}
use Rattle.std.specs.Fmt.{decimal}
use Rattle.std.specs.Option.{option_map}

-- the status, and a description if there is one
pub record NotPerformedFields : Type 0 where
  pub status : ℕ
  pub description : Option (List ℕ)

-- each status of the standard, and what it means
abbrev pub reasons : List (ℕ × List ℕ)
reasons =
    (1101, codes "already processing request")
    ∷ (1102, codes "version number error")
    ∷ (1103, codes "unrecognized request type")
    ∷ (1104, codes "request scheduled for processing")
    ∷ (1201, codes "request - no such resource class")
    ∷ (1202, codes "request - no resources allocated in resource class")
    ∷ (1203, codes "request - badly formed certificate request")
    ∷ (1204, codes "request - already used key in request")
    ∷ (1301, codes "revoke - no such resource class")
    ∷ (1302, codes "revoke - no such key")
    ∷ (2001, codes "Internal Server Error - Request not performed")
    ∷ []

-- what a status means
abbrev pub reason : ℕ → Option (List ℕ)
reason status = option_map (λ row. row.1) (find (λ row. row.0 == status) reasons)

-- what is printed: the status, and behind it the description where there is one
abbrev pub shown : ℕ → Option (List ℕ) → List ℕ
shown status None = decimal status
shown status (Some text) = decimal status ++ (codes " - " ++ text)

-- what is printed of an answer that a request was not performed
abbrev pub not_performed_text : NotPerformedFields → List ℕ
not_performed_text r = shown r.status r.description
