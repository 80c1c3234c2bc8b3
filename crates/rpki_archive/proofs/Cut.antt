-- What pieces of octets are made of.
use Rattle.std.proofs.Common.{◌≡◌, ◌-◌, ◌^◌, ◌≤◌, ℕ, suc, Bool, true, false, nat_eq, if◌then◌else◌, List, [], ◌∷◌, ◌++◌, All, length, slice_index, refl, sym, subst, arith}
use Rattle.std.specs.List.{AllByRecursion, onto_first, slice_split}
use Rattle.std.proofs.lemmas.List.Elements.{All-cons, All-nil, All-head, All-tail}
use Rattle.rpki_ca.specs.Lines.{lines_of, pieces_of, without_empty_end}
use Rattle.rpki_ca.specs.Hexadecimal.{digits_of}
use Rattle.rpki_archive.specs.Lines.{IsLine}

abbrev pub IsApart : List ℕ → Type 0
IsApart octets = All (λ octet. nat_eq octet 10 ≡ false) octets

-- an octet in front of the first piece
onto_all : (P : ℕ → Type 0) (x : ℕ) (pieces : List (List ℕ)) → P x → AllByRecursion (λ piece. All P piece) pieces → AllByRecursion (λ piece. All P piece) (onto_first x pieces)
onto_all P x [] here each = (All-cons P x [] here (All-nil P), tt)
onto_all P x (piece ∷ pieces) here each = (All-cons P x piece here each.0, each.1)

-- what holds of each octet holds of those of each piece
pub pieces_all : (P : ℕ → Type 0) (p : ℕ → Bool) (xs : List ℕ) → All P xs → AllByRecursion (λ piece. All P piece) (slice_split p xs)
pieces_all P p [] all = (All-nil P, tt)
pieces_all P p (x ∷ xs) all =
    let more = pieces_all P p xs (All-tail P x xs all) in
    elim (p x) as (λ t. AllByRecursion (λ piece. All P piece) (if t then [] ∷ slice_split p xs else onto_first x (slice_split p xs))) [
      | true ↦ (All-nil P, more)
      | false ↦ onto_all P x (slice_split p xs) (All-head P x xs all) more
    ]

-- no piece holds the separator
pieces_apart : (xs : List ℕ) → AllByRecursion IsApart (pieces_of 10 xs)
pieces_apart [] = (All-nil (λ octet. nat_eq octet 10 ≡ false), tt)
pieces_apart (x ∷ xs) =
    let more = pieces_apart xs in
    elim (nat_eq x 10) as (λ t. nat_eq x 10 ≡ t → AllByRecursion IsApart (if t then [] ∷ pieces_of 10 xs else onto_first x (pieces_of 10 xs))) [
      | true ↦ λ feed. (All-nil (λ octet. nat_eq octet 10 ≡ false), more)
      | false ↦ λ other. onto_all (λ octet. nat_eq octet 10 ≡ false) x (pieces_of 10 xs) other more
    ] refl

-- no piece is longer than the whole
longer : (n m : ℕ) → n ≤ m → (pieces : List (List ℕ)) → AllByRecursion (λ piece. length piece ≤ n) pieces → AllByRecursion (λ piece. length piece ≤ m) pieces
longer n m le [] each = tt
longer n m le (piece ∷ pieces) each = (let short = each.0 in omega (arith, short), longer n m le pieces each.1)

onto_short : (n x : ℕ) (pieces : List (List ℕ)) → AllByRecursion (λ piece. length piece ≤ n) pieces → AllByRecursion (λ piece. length piece ≤ suc n) (onto_first x pieces)
onto_short n x [] each = (omega arith, tt)
onto_short n x (piece ∷ pieces) each = (let short = each.0 in omega (arith, short), longer n (suc n) (omega arith) pieces each.1)

pub pieces_short : (p : ℕ → Bool) (xs : List ℕ) → AllByRecursion (λ piece. length piece ≤ length xs) (slice_split p xs)
pieces_short p [] = (omega arith, tt)
pieces_short p (x ∷ xs) =
    let more = pieces_short p xs in
    elim (p x) as (λ t. AllByRecursion (λ piece. length piece ≤ suc (length xs)) (if t then [] ∷ slice_split p xs else onto_first x (slice_split p xs))) [
      | true ↦ (omega arith, longer (length xs) (suc (length xs)) (omega arith) (slice_split p xs) more)
      | false ↦ onto_short (length xs) x (slice_split p xs) more
    ]

ends_all : (P : List ℕ → Type 0) (pieces : List (List ℕ)) → AllByRecursion P pieces → AllByRecursion P (without_empty_end pieces)
ends_all P [] each = tt
ends_all P ([] ∷ []) each = tt
ends_all P ([] ∷ next ∷ pieces) each = (each.0, ends_all P (next ∷ pieces) each.1)
ends_all P ((x ∷ piece) ∷ pieces) each = (each.0, ends_all P pieces each.1)

both : (n : ℕ) (lines : List (List ℕ)) → n ≤ 2 ^ 26 → AllByRecursion IsApart lines → AllByRecursion (λ line. length line ≤ n) lines → AllByRecursion IsLine lines
both n [] le a b = tt
both n (line ∷ lines) le a b = (record { one = a.0; short = let short = b.0 in omega (arith, short) }, both n lines le a.1 b.1)

pub lines_are : (input : List ℕ) → length input ≤ 2 ^ 26 → AllByRecursion IsLine (lines_of input)
lines_are input le = both (length input) (lines_of input) le (ends_all IsApart (pieces_of 10 input) (pieces_apart input)) (ends_all (λ line. length line ≤ length input) (pieces_of 10 input) (pieces_short (λ octet. nat_eq octet 10) input))

pub at_one : {X : Type 0} (P : X → Type 0) (before : List X) (x : X) (behind all : List X) → before ++ x ∷ behind ≡ all → AllByRecursion P all → P x
at_one P [] x behind all e each = (subst (AllByRecursion P) (sym e) each).0
at_one P (b ∷ before) x behind all e each = at_one P before x behind (before ++ x ∷ behind) refl (subst (AllByRecursion P) (sym e) each).1

-- ---- not more lines than octets

one_more_line : (x : ℕ) (pieces : List (List ℕ)) → length (without_empty_end (onto_first x pieces)) ≤ suc (length (without_empty_end pieces))
one_more_line x [] = omega arith
one_more_line x ([] ∷ []) = omega arith
one_more_line x ([] ∷ next ∷ pieces) = omega arith
one_more_line x ((a ∷ piece) ∷ pieces) = omega arith

empty_first : (pieces : List (List ℕ)) → length (without_empty_end ([] ∷ pieces)) ≤ suc (length (without_empty_end pieces))
empty_first [] = omega arith
empty_first (next ∷ pieces) = omega arith

pub lines_few : (input : List ℕ) → length (lines_of input) ≤ length input
lines_few [] = omega arith
lines_few (x ∷ xs) =
    let few = lines_few xs in
    elim (nat_eq x 10) as (λ t. length (without_empty_end (if t then [] ∷ pieces_of 10 xs else onto_first x (pieces_of 10 xs))) ≤ suc (length xs)) [
      | true ↦ let more = empty_first (pieces_of 10 xs) in omega (arith, few, more)
      | false ↦ let more = one_more_line x (pieces_of 10 xs) in omega (arith, few, more)
    ]

-- ---- a word without a line feed

last_other : (word : List ℕ) → IsApart word → nat_eq (slice_index word (length word - 1)) 10 ≡ false
last_other [] apart = refl
last_other (x ∷ xs) apart = apart (length (x ∷ xs) - 1) 0 (omega arith)

pub no_feed : (word : List ℕ) → IsApart word → digits_of word ≡ word
no_feed word apart = rw (last_other word apart) refl
