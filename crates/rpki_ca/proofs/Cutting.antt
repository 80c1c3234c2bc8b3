-- Octets cut at a separator, and lines.
use Rattle.std.proofs.Common.{◌≡◌, ℕ, ◌+◌, ◌-◌, ◌<◌, ◌≤◌, Bool, true, false, nat_eq, nat_lt, if◌then◌else◌, List, [], ◌∷◌, ◌++◌, length, take, drop, Option, Some, None, MatchOption, All, refl, sym, ap, ◌∙◌, arith, append_assoc}
use Rattle.std.specs.List.{slice_split, position, position_or_len}
use Rattle.std.proofs.lemmas.Bool.Decides.{nat_tests, Decides-ltb}
use Rattle.std.proofs.lemmas.Option.{none-some, same_Some}
use Rattle.std.proofs.lemmas.Grind.{common_steps}
use Rattle.std.proofs.lemmas.List.{take_all}
use Rattle.std.proofs.lemmas.List.Elements.{All-tail}
use Rattle.std.proofs.lemmas.List.Sums.{fails_before_first}
use Rattle.std.proofs.lemmas.List.Splits.{slice_split_first, slice_split_none, slice_split_at, length-slice_split}
use Rattle.rpki_ca.specs.Lines.{pieces_of, without_empty_end, lines_of, answer_lines}

told : (n len : ℕ) (b : Bool) → b ≡ nat_lt n len → (r : Option ℕ) → r ≡ (if b then Some n else None) → MatchOption r (len ≤ n) (λ i. (i ≡ n) × (n < len))
told n len true t (Some i) e = (same_Some i n e, (Decides-ltb n len).0 (sym t))
told n len true t None e = absurd (none-some n e)
told n len false t (Some i) e = absurd (none-some i (sym e))
told n len false t None e = let h = sym t in grind (arith, nat_tests)

place_told : (p : ℕ → Bool) (xs : List ℕ) (r : Option ℕ) → r ≡ position p xs
    → MatchOption r (length xs ≤ position_or_len p xs) (λ i. (i ≡ position_or_len p xs) × (position_or_len p xs < length xs))
place_told p xs r e = told (position_or_len p xs) (length xs) (nat_lt (position_or_len p xs) (length xs)) refl r e

split_first : (p : ℕ → Bool) (xs : List ℕ) (i : ℕ) → i ≡ position_or_len p xs → i < length xs
    → slice_split p xs ≡ take i xs ∷ slice_split p (take (length xs - (i + 1)) (drop (i + 1) xs))
split_first p xs i e lt =
    let rest : take (length xs - (i + 1)) (drop (i + 1) xs) ≡ drop (i + 1) xs = take_all (length xs - (i + 1)) (drop (i + 1) xs) (grind (arith, common_steps)) in
    rw (rest, e) (slice_split_first p xs 0 (rw e at lt))

split_nowhere : (p : ℕ → Bool) (xs : List ℕ) → length xs ≤ position_or_len p xs → slice_split p xs ≡ xs ∷ []
split_nowhere p xs le = slice_split_none p xs (λ k d lt. fails_before_first p xs k d (omega (arith, le, lt)))

module _ (separator : ℕ) where
  abbrev is_separator : ℕ → Bool
  is_separator octet = nat_eq octet separator

  -- octets cut where the first separator stands, as slices have them
  pub cut_at : (octets : List ℕ) (place : ℕ) → Some place ≡ position is_separator octets
      → pieces_of separator octets ≡ take place octets ∷ pieces_of separator (take (length octets - (place + 1)) (drop (place + 1) octets))
  cut_at octets place e = let t = place_told is_separator octets (Some place) e in split_first is_separator octets place t.0 (rw t.0 t.1)

  -- octets without a separator are one piece
  pub cut_nowhere : (octets : List ℕ) → None ≡ position is_separator octets → pieces_of separator octets ≡ octets ∷ []
  cut_nowhere octets e = split_nowhere is_separator octets (place_told is_separator octets None e)

-- ---- lines

-- a piece with others behind it stays
piece_stays : (piece : List ℕ) (pieces : List (List ℕ)) → 0 < length pieces → without_empty_end (piece ∷ pieces) ≡ piece ∷ without_empty_end pieces
piece_stays [] [] some = absurd (omega arith)
piece_stays [] (next ∷ pieces) some = refl
piece_stays (x ∷ xs) pieces some = refl

-- a line with a line feed behind it is the first
pub line_first : (rest line behind : List ℕ) → pieces_of 10 rest ≡ line ∷ pieces_of 10 behind → lines_of rest ≡ line ∷ lines_of behind
line_first rest line behind e = ap without_empty_end e ∙ piece_stays line (pieces_of 10 behind) (omega (arith, length-slice_split (λ octet. nat_eq octet 10) behind))

-- ---- lines that were written

-- no octet of it is a line feed
abbrev pub IsOneLine : List ℕ → Type 0
IsOneLine line = All (λ octet. nat_eq octet 10 ≡ false) line

-- lines that are written are read as these lines
pub written_read : (lines : List (List ℕ)) → All IsOneLine lines → lines_of (answer_lines lines) ≡ lines
written_read [] all = refl
written_read (line ∷ lines) all =
    let behind : List ℕ = answer_lines lines in
    let some : 0 < length (line ∷ lines) = omega arith in
    let cut : pieces_of 10 (line ++ (10 ∷ behind)) ≡ line ∷ pieces_of 10 behind = slice_split_at (λ octet. nat_eq octet 10) line 10 behind (all 0 [] some) refl in
    let joined : answer_lines (line ∷ lines) ≡ line ++ (10 ∷ behind) = append_assoc line (10 ∷ []) behind in
    line_first (answer_lines (line ∷ lines)) line behind (ap (pieces_of 10) joined ∙ cut)
    ∙ ap (λ (l : List (List ℕ)). line ∷ l) (written_read lines (All-tail IsOneLine line lines all))
