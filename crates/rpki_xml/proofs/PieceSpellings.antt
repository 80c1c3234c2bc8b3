-- What is read as a piece, and as a document, is what is spelled there.
use Rattle.std.proofs.Common.{◌≡◌, ℕ, Bool, true, false, cond, eqb, List, [], ◌∷◌, ◌++◌, Some, refl, sym, ap, subst, ◌∙◌, inl, inr}
use Rattle.std.proofs.lemmas.Bool.{eqb-true}
use Rattle.std.specs.Prelude.{codes, ◌⊎◌}
use Rattle.rpki_common.proofs.Truths.{none_some}
use Rattle.rpki_xml.specs.AttributeSpelling.{concatenated}
use Rattle.rpki_xml.specs.Content.{Piece, run, passed_over, leaf, start, end, behind}
use Rattle.rpki_xml.specs.Element.{Element}
use Rattle.rpki_xml.specs.Lexing.{end_at, passed_at, run_at, markup_at, piece_at, Repeats, IsDocument}
use Rattle.rpki_xml.specs.PieceSpelling.{IsComment, IsInstruction, IsPieceSpelling, MayFollow, BeginsWithPiece, ArePieceSpellings, IsDocumentSpelling}
use Rattle.rpki_xml.proofs.Fronts.{front_either, front_is}
use Rattle.rpki_xml.proofs.Markup.{leaf_read, start_read, tag_is, end_read, end_is, comment_read, instruction_read, passed_is, run_read, run_is}

-- ---- what is spelled is read

passed_read : (octets rest : List ℕ) → (IsComment octets ⊎ IsInstruction octets) → piece_at (octets ++ rest) ≡ Some (passed_over, rest)
passed_read octets rest (inl h) = comment_read octets rest h
passed_read octets rest (inr h) = instruction_read octets rest h

piece_read : (octets : List ℕ) (p : Piece) (rest : List ℕ) → IsPieceSpelling octets p → MayFollow p rest → piece_at (octets ++ rest) ≡ Some (p, rest)
piece_read octets (run text) rest h follows = run_read octets text rest h follows
piece_read octets passed_over rest h follows = passed_read octets rest h
piece_read octets (leaf tag) rest h follows = leaf_read octets tag rest h
piece_read octets (start tag) rest h follows = start_read octets tag rest h
piece_read octets (end name) rest h follows = end_read octets name rest h

-- ---- what is read was spelled

passed_piece : (b : List ℕ) (p : Piece) (rest : List ℕ) (octets : List ℕ) → passed_over ≡ p → b ≡ octets ++ rest → (IsComment octets ⊎ IsInstruction octets) → BeginsWithPiece b p rest
passed_piece b p rest octets same is h =
    let made : BeginsWithPiece b passed_over rest = record { octets = octets; is = is; spelled = h; follows = tt } in
    subst (λ (x : Piece). BeginsWithPiece b x rest) same made

comment_is : (b : List ℕ) (p : Piece) (rest : List ℕ) → passed_at (codes "-->") b ≡ Some (p, rest) → BeginsWithPiece (codes "<!--" ++ b) p rest
comment_is b p rest e = let q = passed_is (codes "<!--") (codes "-->") b p rest e in passed_piece (codes "<!--" ++ b) p rest q.1.0 q.0 q.1.1 (inl q.1.2)

instruction_is : (b : List ℕ) (p : Piece) (rest : List ℕ) → passed_at (codes "?>") b ≡ Some (p, rest) → BeginsWithPiece (codes "<?" ++ b) p rest
instruction_is b p rest e = let q = passed_is (codes "<?") (codes "?>") b p rest e in passed_piece (codes "<?" ++ b) p rest q.1.0 q.0 q.1.1 (inr q.1.2)

moved : (front b left : List ℕ) (p : Piece) (rest : List ℕ) → behind front b ≡ Some left → BeginsWithPiece (60 ∷ (front ++ left)) p rest → BeginsWithPiece (60 ∷ b) p rest
moved front b left p rest e h = subst (λ (l : List ℕ). BeginsWithPiece (60 ∷ l) p rest) (sym (front_is front b left e)) h

markup_is : (b : List ℕ) (p : Piece) (rest : List ℕ) → markup_at b ≡ Some (p, rest) → BeginsWithPiece (60 ∷ b) p rest
unfolding markup_at
markup_is b p rest e =
    front_either (behind (codes "/") b) end_at _ (p, rest) (λ left f g. moved (codes "/") b left p rest f (end_is left p rest g))
    (front_either (behind (codes "!--") b) (passed_at (codes "-->")) _ (p, rest) (λ left f g. moved (codes "!--") b left p rest f (comment_is left p rest g))
    (front_either (behind (codes "?") b) (passed_at (codes "?>")) _ (p, rest) (λ left f g. moved (codes "?") b left p rest f (instruction_is left p rest g)) (λ g. tag_is b p rest g)))
    e

piece_is : (b : List ℕ) (p : Piece) (rest : List ℕ) → piece_at b ≡ Some (p, rest) → BeginsWithPiece b p rest
unfolding piece_at
piece_is [] p rest e = absurd (none_some (p, rest) e)
piece_is (c ∷ b) p rest e = go (eqb c 60) refl e
  where
    go : (x : Bool) → eqb c 60 ≡ x → cond x (markup_at b) (run_at (c ∷ b)) ≡ Some (p, rest) → BeginsWithPiece (c ∷ b) p rest
    go true f k = subst (λ (z : ℕ). BeginsWithPiece (z ∷ b) p rest) (sym (eqb-true c 60 f)) (markup_is b p rest k)
    go false f k = run_is (c ∷ b) p rest f k

-- what is read as a piece is what is spelled there
pub piece_both : (b : List ℕ) (p : Piece) (rest : List ℕ) → (piece_at b ≡ Some (p, rest) → BeginsWithPiece b p rest) × (BeginsWithPiece b p rest → piece_at b ≡ Some (p, rest))
piece_both b p rest = (piece_is b p rest, λ h. ap piece_at h.is ∙ piece_read h.octets p rest h.spelled h.follows)

-- ---- documents

pieces_are : (b : List ℕ) (list : List Piece) → Repeats piece_at b list [] → (spellings : List (List ℕ)) × (b ≡ concatenated spellings) × ArePieceSpellings spellings list
pieces_are b [] h = ([], h, tt)
pieces_are b (p ∷ list) h =
    let x = piece_is b p h.0 h.1 in
    let more = pieces_are h.0 list h.2 in
    (x.octets ∷ more.0, x.is ∙ ap (λ (l : List ℕ). x.octets ++ l) more.1, (x.spelled, (subst (MayFollow p) more.1 x.follows, more.2)))

pieces_read : (spellings : List (List ℕ)) (list : List Piece) → ArePieceSpellings spellings list → Repeats piece_at (concatenated spellings) list []
pieces_read [] [] h = refl
pieces_read [] (p ∷ list) h = absurd h
pieces_read (s ∷ spellings) [] h = absurd h
pieces_read (s ∷ spellings) (p ∷ list) h = (concatenated spellings, piece_read s p (concatenated spellings) h.0 h.1.0, pieces_read spellings list h.1.1)

document_is : (b : List ℕ) (x : Element) → IsDocument b x → IsDocumentSpelling b x
document_is b x h =
    let p = pieces_are b h.list h.pieces in
    record { octets = h.octets; spellings = p.0; list = h.list; is = p.1; spelled = p.2; element = h.element }

document_read : (b : List ℕ) (x : Element) → IsDocumentSpelling b x → IsDocument b x
document_read b x h = record {
  octets = h.octets;
  list = h.list;
  pieces = subst (λ (l : List ℕ). Repeats piece_at l h.list []) (sym h.is) (pieces_read h.spellings h.list h.spelled);
  element = h.element;
}

-- a document is what is spelled as one
pub document_both : (b : List ℕ) (x : Element) → (IsDocument b x → IsDocumentSpelling b x) × (IsDocumentSpelling b x → IsDocument b x)
document_both b x = (document_is b x, document_read b x)
