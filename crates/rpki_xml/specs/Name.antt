-- Names, whole and local, and the prefix that stands before a colon.
use Rattle.std.specs.Prelude.{ℕ, List, [], ◌∷◌, Bool, true, false, ◌&&◌, ◌||◌, not, Option, Some, None, is_some, nat_eq, nat_le, unwrap_or, if◌then◌else◌}
use Rattle.rpki_xml.specs.Element.{is_nil}

-- a letter of ASCII, `A` to `Z` or `a` to `z`
abbrev pub is_letter : ℕ → Bool
is_letter c = (nat_le 65 c && nat_le c 90) || (nat_le 97 c && nat_le c 122)

-- a letter, a digit, `:`, `-`, `_` or `.`
abbrev pub is_name_octet : ℕ → Bool
is_name_octet c =
    is_letter c || (nat_le 48 c && nat_le c 58) || nat_eq c 45 || nat_eq c 95 || nat_eq c 46

-- what stands behind the first octet has at most one `:`, which is not the last octet; none where
-- one came before
abbrev pub ends_name : Bool → List ℕ → Bool
ends_name colon [] = true
ends_name colon (c ∷ name) =
    if nat_eq c 58
    then not colon && not (is_nil name) && ends_name true name
    else ends_name colon name

-- name octets are a name: they begin with a letter or `_`, and have at most one `:`, which is
-- neither first nor last
abbrev pub is_name : List ℕ → Bool
is_name [] = false
is_name (c ∷ name) = (is_letter c || nat_eq c 95) && ends_name false name

-- the part behind the first colon, where there is one
abbrev pub behind_colon : List ℕ → Option (List ℕ)
behind_colon [] = None
behind_colon (c ∷ name) = if nat_eq c 58 then Some name else behind_colon name

-- the part before the first colon, or the whole
abbrev pub before_colon : List ℕ → List ℕ
before_colon [] = []
before_colon (c ∷ name) = if nat_eq c 58 then [] else c ∷ before_colon name

-- the part before the first colon, where there is one
abbrev pub prefix_of : List ℕ → Option (List ℕ)
prefix_of name = if is_some (behind_colon name) then Some (before_colon name) else None

-- the part of a name behind its colon, or the whole
abbrev pub local_name : List ℕ → List ℕ
local_name name = unwrap_or (behind_colon name) name
