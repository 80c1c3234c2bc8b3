-- An object identifier's text: its arcs, joined by dots (X.690, 8.19).
use Rattle.std.specs.Prelude.{ℕ, ◌+◌, ◌-◌, ◌*◌, ◌%◌, nat_lt, if◌then◌else◌, List, [], ◌∷◌, ◌++◌, length, fold, codes}
use Rattle.std.specs.List.{flat_map}
use Rattle.std.specs.Fmt.{decimal}

-- the octet goes to the front of the first part; where there is no part, there still is none
abbrev pub in_front : ℕ → List (List ℕ) → List (List ℕ)
in_front a [] = []
in_front a (part ∷ parts) = (a ∷ part) ∷ parts

-- the octets of each subidentifier: up to the first with bit 8 clear
abbrev pub subidentifier_parts : List ℕ → List (List ℕ)
subidentifier_parts [] = []
subidentifier_parts (a ∷ more) =
    if nat_lt a 128 then (a ∷ []) ∷ subidentifier_parts more
    else in_front a (subidentifier_parts more)

-- the number that their low seven bits spell, the most significant first
abbrev pub base_128 : List ℕ → ℕ
base_128 octets = fold (λ n a. n * 128 + a % 128) 0 octets

-- an arc in decimal; one of more than nine octets prints as ?
abbrev pub arc_text : List ℕ → List ℕ
arc_text octets = if nat_lt 9 (length octets) then codes "?" else decimal (base_128 octets)

-- the first subidentifier stands for two arcs
abbrev pub two_arcs : ℕ → List ℕ
two_arcs n =
    if nat_lt n 40 then codes "0." ++ decimal n
    else if nat_lt n 80 then codes "1." ++ decimal (n - 40)
    else codes "2." ++ decimal (n - 80)

-- the two arcs of the first subidentifier, joined by a dot; ? where it has more than nine octets
abbrev pub first_text : List ℕ → List ℕ
first_text octets = if nat_lt 9 (length octets) then codes "?" else two_arcs (base_128 octets)

-- the arcs of the later subidentifiers, each behind a dot
abbrev pub later_text : List (List ℕ) → List ℕ
later_text parts = flat_map (λ part. codes "." ++ arc_text part) parts

-- the text of the subidentifiers, each given as its octets; of none it is empty
abbrev pub parts_text : List (List ℕ) → List ℕ
parts_text [] = []
parts_text (part ∷ parts) = first_text part ++ later_text parts

-- the text of an object identifier, given as its contents octets
unfoldable pub oid_text : List ℕ → List ℕ
oid_text octets = parts_text (subidentifier_parts octets)
