-- Reading octets piece by piece.
use Rattle.std.proofs.Common.{◌≡◌, ℕ, List, [], ◌∷◌, ◌++◌, true, Option, Some, None, refl, sym, ap, subst, ◌∙◌}
use Rattle.std.proofs.lemmas.List.{append-nil}
use Rattle.std.specs.List.{list_all}
use Rattle.rpki_xml.specs.Element.{Element, alone}
use Rattle.rpki_xml.specs.Content.{Piece, IsElement, is_white}
use Rattle.rpki_xml.specs.Stack.{Open, whole, step, steps}
use Rattle.rpki_common.specs.Chaining.{◌>>=◌}
use Rattle.rpki_common.proofs.Collected.{bind_under, bind_assoc}
use Rattle.rpki_common.proofs.Truths.{none_some}
use Rattle.rpki_xml.specs.Lexing.{piece_at, Repeats, is_octet, IsDocument}
use Rattle.rpki_xml.proofs.Stacks.{element_reads, reads_element, one_element}

pub no_piece : piece_at [] ≡ None
unfolding piece_at
no_piece = refl

-- what was read from the front is the front of every whole reading
pub continues : {X : Type 0} (at : List ℕ → Option (X × List ℕ)) (b : List ℕ) (front : List X) (rest : List ℕ) (all : List X) → at [] ≡ None → Repeats at b front rest → Repeats at b all [] → (more : List X) × (all ≡ front ++ more) × Repeats at rest more []
continues at b [] rest all none h whole = (all, refl, subst (λ (x : List ℕ). Repeats at x all []) h whole)
continues at b (x ∷ front) rest [] none h whole = absurd (none_some (x, h.0) (sym none ∙ ap at (sym whole) ∙ h.1))
continues {X} at b (x ∷ front) rest (y ∷ all) none h whole =
    let e : Some (x, h.0) ≡ Some (y, whole.0) = sym h.1 ∙ whole.1 in
    let p : (x, h.0) ≡ (y, whole.0) = cc in
    let head : x ≡ y = ap (λ (q : X × List ℕ). q.0) p in
    let next : h.0 ≡ whole.0 = ap (λ (q : X × List ℕ). q.1) p in
    let more = continues at h.0 front rest all none h.2 (subst (λ (n : List ℕ). Repeats at n all []) (sym next) whole.2) in
    (more.0, ap (λ (z : X). z ∷ all) (sym head) ∙ ap (λ (l : List X). x ∷ l) more.1, more.2)

-- ---- reading a document

-- the octets up to rest were read, and these elements are open
pub record Reached (b rest : List ℕ) (opens : List Open) : Type 0 where
  pub list : List Piece
  pub pieces : Repeats piece_at b list rest
  pub opens_are : steps list (whole ∷ []) ≡ Some opens

pub at_start : (b : List ℕ) → Reached b b (whole ∷ [])
at_start b = record { list = []; pieces = refl; opens_are = refl }

Repeats-push : {X : Type 0} (at : List ℕ → Option (X × List ℕ)) (b : List ℕ) (list : List X) (rest : List ℕ) (x : X) (next : List ℕ) → Repeats at b list rest → at rest ≡ Some (x, next) → Repeats at b (list ++ x ∷ []) next
Repeats-push at b [] rest x next h e = (next, ap at h ∙ e, refl)
Repeats-push at b (y ∷ list) rest x next h e = (h.0, h.1, Repeats-push at h.0 list rest x next h.2 e)

steps-append : (list more : List Piece) (opens : List Open) → steps (list ++ more) opens ≡ (steps list opens >>= λ after. steps more after)
unfolding ◌>>=◌
steps-append [] more opens = refl
steps-append (p ∷ list) more opens =
    bind_under (step p opens) (λ after. steps (list ++ more) after) (λ after. steps list after >>= λ x. steps more x) (λ after. steps-append list more after)
    ∙ sym (bind_assoc (step p opens) (λ after. steps list after) (λ after. steps more after))

steps-one : (p : Piece) (opens after : List Open) → step p opens ≡ Some after → steps (p ∷ []) opens ≡ Some after
unfolding ◌>>=◌
steps-one p opens after e = rw e refl

pub one_more : (b rest next : List ℕ) (p : Piece) (opens after : List Open) → Reached b rest opens → piece_at rest ≡ Some (p, next) → step p opens ≡ Some after → Reached b next after
unfolding ◌>>=◌
one_more b rest next p opens after h e s = record {
  list = h.list ++ p ∷ [];
  pieces = Repeats-push piece_at b h.list rest p next h.pieces e;
  opens_are = steps-append h.list (p ∷ []) (whole ∷ []) ∙ rw h.opens_are (steps-one p opens after s);
}

-- what a document is from there on
goes_on : (b rest : List ℕ) (opens : List Open) (x : Element) → Reached b rest opens → IsDocument b x
    → (more : List Piece) × (Repeats piece_at rest more []) × ((d : Open) × (steps more opens ≡ Some (d ∷ [])) × (d.done ≡ alone x) × (list_all is_white d.head.text ≡ true))
unfolding ◌>>=◌
goes_on b rest opens x h doc =
    let c = continues piece_at b h.list rest doc.list no_piece h.pieces doc.pieces in
    let r = element_reads doc.list x doc.element in
    let whole-steps : (steps h.list (whole ∷ []) >>= λ after. steps c.0 after) ≡ Some (r.0 ∷ []) = sym (steps-append h.list c.0 (whole ∷ [])) ∙ sym (ap (λ (l : List Piece). steps l (whole ∷ [])) c.1) ∙ r.1 in
    (c.0, c.2, (r.0, rw h.opens_are at whole-steps, r.2, r.3))

pub no_piece_there : (b rest : List ℕ) (opens : List Open) (x : Element) → Reached b rest opens → piece_at rest ≡ None → (rest ≡ [] → ⊥) → IsDocument b x → ⊥
no_piece_there b rest opens x h none more doc = go (goes_on b rest opens x h doc).0 (goes_on b rest opens x h doc).1
  where
    go : (list : List Piece) → Repeats piece_at rest list [] → ⊥
    go [] e = more e
    go (p ∷ list) e = none_some (p, e.0) (sym none ∙ e.1)

pub no_step_there : (b rest next : List ℕ) (p : Piece) (opens : List Open) (x : Element) → Reached b rest opens → piece_at rest ≡ Some (p, next) → step p opens ≡ None → IsDocument b x → ⊥
unfolding ◌>>=◌
no_step_there b rest next p opens x h e none doc =
    let g = goes_on b rest opens x h doc in go g.0 g.1 g.2.1
  where
    go : (list : List Piece) → Repeats piece_at rest list [] → steps list opens ≡ Some ((goes_on b rest opens x h doc).2.0 ∷ []) → ⊥
    go [] at r = none_some (p, next) (sym no_piece ∙ ap piece_at (sym at) ∙ e)
    go (q ∷ list) at r =
        let f : Some (p, next) ≡ Some (q, at.0) = sym e ∙ at.1 in
        let pair : (p, next) ≡ (q, at.0) = cc in
        let same : p ≡ q = ap (λ (y : Piece × List ℕ). y.0) pair in
        let nothing : step q opens ≡ None = ap (λ (y : Piece). step y opens) (sym same) ∙ none in
        let r' = rw nothing at r in none_some ((goes_on b rest opens x h doc).2.0 ∷ []) r'

pub at_end : (b : List ℕ) (opens : List Open) (x : Element) → Reached b [] opens → IsDocument b x → (d : Open) × (opens ≡ d ∷ []) × (d.done ≡ alone x) × (list_all is_white d.head.text ≡ true)
at_end b opens x h doc =
    let g = goes_on b [] opens x h doc in go g.0 g.1 g.2
  where
    go : (list : List Piece) → Repeats piece_at [] list [] → ((d : Open) × (steps list opens ≡ Some (d ∷ [])) × (d.done ≡ alone x) × (list_all is_white d.head.text ≡ true)) → (d : Open) × (opens ≡ d ∷ []) × (d.done ≡ alone x) × (list_all is_white d.head.text ≡ true)
    go [] at r = let e : Some opens ≡ Some (r.0 ∷ []) = r.1 in (r.0, cc, r.2, r.3)
    go (q ∷ list) at r = absurd (none_some (q, at.0) (sym no_piece ∙ at.1))

pub is_document : (b : List ℕ) (opens : List Open) (d : Open) (x : Element) → list_all is_octet b ≡ true → Reached b [] opens → opens ≡ d ∷ [] → d.done ≡ alone x → list_all is_white d.head.text ≡ true → IsDocument b x
is_document b opens d x octets h is only white = record {
  octets = octets;
  list = h.list;
  pieces = h.pieces;
  element = reads_element h.list x d (h.opens_are ∙ ap (λ (l : List Open). Some l) is) only white;
}

-- octets have at most one element
pub one_document : (b : List ℕ) (x y : Element) → IsDocument b x → IsDocument b y → x ≡ y
one_document b x y p q =
    let c = continues piece_at b p.list [] q.list no_piece p.pieces q.pieces in
    one_element q.list x y (subst (λ (l : List Piece). IsElement l x) (same c.0 c.1 c.2) p.element) q.element
  where
    same : (more : List Piece) → q.list ≡ p.list ++ more → Repeats piece_at [] more [] → p.list ≡ q.list
    same [] e h = sym (append-nil p.list) ∙ sym e
    same (z ∷ more) e h = absurd (none_some (z, h.0) (sym no_piece ∙ h.1))
