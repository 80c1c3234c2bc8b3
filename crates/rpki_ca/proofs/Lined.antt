-- An input that is cut into lines.
use Rattle.std.proofs.Common.{◌≡◌, ◌≢◌, ◌⊎◌, ℕ, List, [], ◌∷◌, ◌++◌, refl, sym, ap, subst, ◌∙◌, inl, inr, append_assoc}
use Rattle.std.specs.List.{AllByRecursion, join_with_byte, onto_first}
use Rattle.std.proofs.lemmas.Bool.Decides.{eqb_tells}
use Rattle.std.proofs.lemmas.List.{append-nil}
use Rattle.std.proofs.lemmas.List.Splits.{join_with_byte-slice_split}
use Rattle.rpki_ca.specs.Lines.{AreLines, answer_lines, lines_of, pieces_of, without_empty_end}

-- ---- no line holds a line feed

abbrev IsWhole : List ℕ → Type 0
IsWhole line = AllByRecursion (λ (octet : ℕ). octet ≢ 10) line

longer_whole : (x : ℕ) (pieces : List (List ℕ)) → x ≢ 10 → AllByRecursion IsWhole pieces → AllByRecursion IsWhole (onto_first x pieces)
longer_whole x [] other whole = ((other, tt), tt)
longer_whole x (piece ∷ pieces) other whole = ((other, whole.0), whole.1)

cut_whole : (octets : List ℕ) → AllByRecursion IsWhole (pieces_of 10 octets)
cut_whole [] = (tt, tt)
cut_whole (x ∷ xs) =
    elim (eqb_tells x 10) [
      | inl same ↦ rw same.0 (tt, cut_whole xs)
      | inr other ↦ rw other.0 (longer_whole x (pieces_of 10 xs) other.1 (cut_whole xs))
    ]

kept_whole : (pieces : List (List ℕ)) → AllByRecursion IsWhole pieces → AllByRecursion IsWhole (without_empty_end pieces)
kept_whole [] whole = tt
kept_whole ([] ∷ []) whole = tt
kept_whole ([] ∷ q ∷ more) whole = (whole.0, kept_whole (q ∷ more) whole.1)
kept_whole ((x ∷ xs) ∷ pieces) whole = (whole.0, kept_whole pieces whole.1)

-- ---- the lines are the input

longer : (p r j : List ℕ) → r ≡ j → (p ++ 10 ∷ []) ++ r ≡ p ++ (10 ∷ j)
longer p r j e = append_assoc p (10 ∷ []) r ∙ ap (λ (o : List ℕ). p ++ (10 ∷ o)) e

longer_by_one : (p r j : List ℕ) → r ≡ j ++ 10 ∷ [] → (p ++ 10 ∷ []) ++ r ≡ (p ++ (10 ∷ j)) ++ 10 ∷ []
longer_by_one p r j e = append_assoc p (10 ∷ []) r ∙ ap (λ (o : List ℕ). p ++ (10 ∷ o)) e ∙ sym (append_assoc p (10 ∷ j) (10 ∷ []))

abbrev IsInput : List (List ℕ) → List ℕ → Type 0
IsInput lines input = (answer_lines lines ≡ input) ⊎ (answer_lines lines ≡ input ++ 10 ∷ [])

one_more : (p : List ℕ) (lines : List (List ℕ)) (j : List ℕ) → IsInput lines j → IsInput (p ∷ lines) (p ++ (10 ∷ j))
one_more p lines j (inl e) = inl (longer p (answer_lines lines) j e)
one_more p lines j (inr e) = inr (longer_by_one p (answer_lines lines) j e)

put_together : (pieces : List (List ℕ)) → IsInput (without_empty_end pieces) (join_with_byte 10 pieces)
put_together [] = inl refl
put_together ([] ∷ []) = inl refl
put_together ((x ∷ xs) ∷ []) = inr (append-nil ((x ∷ xs) ++ 10 ∷ []))
put_together ([] ∷ q ∷ more) = one_more [] (without_empty_end (q ∷ more)) (join_with_byte 10 (q ∷ more)) (put_together (q ∷ more))
put_together ((x ∷ xs) ∷ q ∷ more) = one_more (x ∷ xs) (without_empty_end (q ∷ more)) (join_with_byte 10 (q ∷ more)) (put_together (q ∷ more))

pub are_lines : (input : List ℕ) → AreLines input (lines_of input)
are_lines input = record {
  are = subst (λ (o : List ℕ). IsInput (lines_of input) o) (join_with_byte-slice_split 10 input) (put_together (pieces_of 10 input));
  whole = kept_whole (pieces_of 10 input) (cut_whole input);
}
