-- Where the parts of a view stand in the octets of its message.
use Rattle.std.specs.Prelude.{◌≡◌, ℕ, Option, None, Some, List, [], ◌∷◌, ◌++◌, ⊤}
use Rattle.rpki_sigmsg.specs.Message.{ViewFields}

-- The parts stand in the octets in this order: each between what stands before it and what stands
-- behind it, where the later ones are.
abbrev pub StandInTurn : List (List ℕ) → List ℕ → Type 0
StandInTurn [] octets = ⊤
StandInTurn (part ∷ parts) octets =
    (before : List ℕ) × (behind : List ℕ) × (octets ≡ before ++ (part ++ behind))
    × StandInTurn parts behind

-- the CRLs
abbrev pub crls_of : List ℕ → Option (List ℕ) → List (List ℕ)
crls_of first None = first ∷ []
crls_of first (Some second) = first ∷ second ∷ []

-- in the order in which they are read
abbrev pub parts_of : ViewFields → List (List ℕ)
parts_of view = view.content_value ∷ view.certificate
    ∷ (crls_of view.crl view.second_crl ++ (view.attributes ∷ view.signature_value ∷ []))
