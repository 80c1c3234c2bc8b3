-- The one element of a document that was read.
use Rattle.std.proofs.Common.{◌≡◌, ◌≢◌, ℕ, suc, List, [], ◌∷◌, length, drop, Bool, true, false, cond, eqb, Result, Ok, Err, Option, Some, None, refl, sym, ap, subst, ◌∙◌, arith}
use Rattle.std.proofs.lemmas.List.{length-reverse, nil_from_length}
use Rattle.std.proofs.lemmas.Bool.{eqb-true}
use Rattle.std.specs.List.{list_all}
use Rattle.std.specs.Prelude.{is_some, MatchResult}
use Rattle.rpki_xml.specs.declared.element.Node.{Node}
use Rattle.rpki_xml.specs.declared.error.XmlError.{XmlError}
use Rattle.rpki_xml.specs.declared.error.XmlError.TheVariants as errors
use Rattle.rpki_xml.specs.Element.{Head, Elements, none, first, Element, alone}
use Rattle.rpki_xml.specs.Content.{Piece, is_white}
use Rattle.rpki_xml.specs.Nodes.{Slot, flat, tree_of, tree_of-flat, IsFlat}
use Rattle.rpki_xml.specs.Views.{head_of, slots}
use Rattle.rpki_xml.specs.Stack.{whole, step, Open, open_slot, slots_of, places_of, held, AreOpensHeld}
use Rattle.rpki_xml.specs.Tables.{the_child}
use Rattle.rpki_xml.specs.DocumentNodes.{root_of, IsWholeDocument, root_of_opens}
use Rattle.rpki_xml.specs.Lexing.{piece_at, is_octet, IsDocument}
use Rattle.rpki_xml.specs.Answers.{IsDocumentRefused}
use Rattle.rpki_xml.specs.Stack.{bare_head}
use Rattle.rpki_xml.specs.Answers.{Fails, Gives}
use Rattle.rpki_xml.proofs.Documents.{Reached, at_start, at_end, is_document, no_piece_there, no_step_there}
use Rattle.rpki_common.proofs.Truths.{none_some}
use Rattle.rpki_xml.proofs.Held.{held_is, slot_with}

abbrev no_element : Option Element
no_element = None

length-places_of : (opens : List Open) → length (places_of opens) ≡ length opens
length-places_of [] = refl
length-places_of (o ∷ outer) = ap suc (length-places_of outer)

pub not_one_open : (source : List ℕ) (nodes : List Node) (places : List ℕ) → AreOpensHeld source nodes places → length places ≢ 1 → root_of_opens (held source nodes places) ≡ None
unfolding root_of_opens
not_one_open source nodes places h many =
    let count : length (held source nodes places) ≡ length places = sym (length-places_of (held source nodes places)) ∙ ap length (sym h.places_are) ∙ length-reverse places in
    go (held source nodes places) count
  where
    go : (opens : List Open) → length opens ≡ length places → root_of_opens opens ≡ None
    go [] e = refl
    go (d ∷ []) e = absurd (many (sym e))
    go (d ∷ o ∷ outer) e = refl

pub record OneOpen (source : List ℕ) (nodes : List Node) (places : List ℕ) : Type 0 where
  pub d : Open
  pub held_are : held source nodes places ≡ d ∷ []
  pub slots_are : slots source nodes ≡ open_slot d ∷ flat d.done

pub one_open : (source : List ℕ) (nodes : List Node) (places : List ℕ) → AreOpensHeld source nodes places → length places ≡ 1 → OneOpen source nodes places
one_open source nodes places h one =
    let count : length (held source nodes places) ≡ 1 = sym (length-places_of (held source nodes places)) ∙ ap length (sym h.places_are) ∙ length-reverse places ∙ one in
    go (held source nodes places) refl count
  where
    go : (opens : List Open) → held source nodes places ≡ opens → length opens ≡ 1 → OneOpen source nodes places
    go [] is e = absurd (omega (arith, e))
    go (d ∷ []) is e = record { d = d; held_are = is; slots_are = h.nodes_are ∙ ap slots_of is }
    go (d ∷ o ∷ outer) is e = absurd (omega (arith, e))

heads : (x y : Slot) (xs ys : List Slot) → x ∷ xs ≡ y ∷ ys → (x ≡ y) × (xs ≡ ys)
heads x y xs ys e = (cc, cc)

-- the document's own node, and the elements below it
pub record Parts (source : List ℕ) (nodes : List Node) (places : List ℕ) (n : Node) (rest : List Node) : Type 0 where
  pub d : Open
  pub held_are : held source nodes places ≡ d ∷ []
  pub text_is : (head_of source n).text ≡ d.head.text
  pub tree_is : tree_of (slots source rest) ≡ d.done
  pub flat_is : IsFlat (slots source rest)

pub parts : (source : List ℕ) (nodes : List Node) (places : List ℕ) (n : Node) (rest : List Node) → AreOpensHeld source nodes places → length places ≡ 1 → nodes ≡ n ∷ rest → Parts source nodes places n rest
parts source nodes places n rest h one e =
    let o = one_open source nodes places h one in
    let s = heads (record { head = head_of source n; below = n.below }) (open_slot o.d) (slots source rest) (flat o.d.done) (sym (ap (slots source) e) ∙ o.slots_are) in
    let t : tree_of (slots source rest) ≡ o.d.done = ap tree_of s.1 ∙ tree_of-flat o.d.done in
    record {
      d = o.d;
      held_are = o.held_are;
      text_is = ap (λ (x : Slot). x.head.text) s.0;
      tree_is = t;
      flat_is = ap flat t ∙ sym s.1;
    }

pub not_white : (source : List ℕ) (nodes : List Node) (places : List ℕ) (n : Node) (rest : List Node) (p : Parts source nodes places n rest) → list_all is_white (head_of source n).text ≡ false → root_of_opens (held source nodes places) ≡ None
unfolding root_of_opens
not_white source nodes places n rest p black =
    let b : list_all is_white p.d.head.text ≡ false = ap (list_all is_white) (sym p.text_is) ∙ black in
    rw (p.held_are, b) refl

only_none : (es : Elements) → is_some (the_child es) ≡ false → the_child es ≡ None
only_none none e = refl
only_none (first h cs none) e = absurd cc
only_none (first h cs (first h' cs' rest)) e = refl

no_matter : (b : Bool) → cond b no_element no_element ≡ None
no_matter true = refl
no_matter false = refl

pub not_one : (source : List ℕ) (nodes : List Node) (places : List ℕ) (n : Node) (rest : List Node) (p : Parts source nodes places n rest) → is_some (the_child (tree_of (slots source rest))) ≡ false → root_of_opens (held source nodes places) ≡ None
unfolding root_of_opens
not_one source nodes places n rest p many =
    let m : the_child p.d.done ≡ None = only_none p.d.done (ap (λ (es : Elements). is_some (the_child es)) (sym p.tree_is) ∙ many) in
    rw (p.held_are, m) (no_matter (list_all is_white p.d.head.text))

only_some : (es : Elements) → is_some (the_child es) ≡ true → (x : Element) × (es ≡ alone x) × (the_child es ≡ Some x)
only_some none e = absurd cc
only_some (first h cs none) e = (record { head = h; children = cs }, refl, refl)
only_some (first h cs (first h' cs' rest)) e = absurd cc

pub root_is : (source : List ℕ) (nodes : List Node) (places : List ℕ) (n : Node) (rest : List Node) (p : Parts source nodes places n rest) → nodes ≡ n ∷ rest → list_all is_white (head_of source n).text ≡ true → is_some (the_child (tree_of (slots source rest))) ≡ true → (root_of_opens (held source nodes places) ≡ Some (root_of source nodes)) × IsWholeDocument source nodes
unfolding root_of_opens root_of
root_is source nodes places n rest p e white one =
    let b : list_all is_white p.d.head.text ≡ true = ap (list_all is_white) (sym p.text_is) ∙ white in
    let x = only_some p.d.done (ap (λ (es : Elements). is_some (the_child es)) (sym p.tree_is) ∙ one) in
    let tree : tree_of (slots source (drop 1 nodes)) ≡ alone x.0 = ap (λ (l : List Node). tree_of (slots source (drop 1 l))) e ∙ p.tree_is ∙ x.1 in
    let root : root_of source nodes ≡ x.0 = rw tree refl in
    (rw (p.held_are, b) (x.2 ∙ ap (λ (y : Element). Some y) (sym root)), ap (λ (l : List Node). slots source (drop 1 l)) e ∙ sym p.flat_is ∙ ap flat (p.tree_is ∙ x.1) ∙ ap (λ (y : Element). flat (alone y)) (sym root))

-- ---- what the answer says of the octets

root_some : (opens : List Open) (x : Element) → root_of_opens opens ≡ Some x → (d : Open) × (opens ≡ d ∷ []) × (d.done ≡ alone x) × (list_all is_white d.head.text ≡ true)
unfolding root_of_opens
root_some [] x e = absurd cc
root_some (d ∷ []) x e =
    let g = guard (list_all is_white d.head.text) (the_child d.done) x e in
    (d, refl, only_is d.done x g.1, g.0)
  where
    guard : (b : Bool) (o : Option Element) (x : Element) → cond b o None ≡ Some x → (b ≡ true) × (o ≡ Some x)
    guard true o x e = (refl, e)
    guard false o x e = absurd cc

    only_is : (es : Elements) (x : Element) → the_child es ≡ Some x → es ≡ alone x
    only_is none x e = absurd cc
    only_is (first h cs none) x e = let s : record { head = h; children = cs } ≡ x = cc in ap alone s
    only_is (first h cs (first h' cs' rest)) x e = absurd cc
root_some (d ∷ o ∷ outer) x e = absurd cc

pub read_ok : (b : List ℕ) (opens : List Open) (x : Element) → list_all is_octet b ≡ true → Reached b [] opens → root_of_opens opens ≡ Some x → IsDocument b x
read_ok b opens x octets h e = let r = root_some opens x e in is_document b opens r.0 x octets h r.1 r.2 r.3

root_at : (d : Open) (x : Element) → d.done ≡ alone x → list_all is_white d.head.text ≡ true → root_of_opens (d ∷ []) ≡ Some x
unfolding root_of_opens
root_at d x only white = rw (white, only) refl

pub read_fails : (e : XmlError) (b : List ℕ) (opens : List Open) → Reached b [] opens → Fails e (root_of_opens opens) → IsDocumentRefused e b
read_fails errors.OutOfMemory b opens h fails = tt
read_fails errors.Malformed b opens h fails = λ x doc.
    let d = at_end b opens x h doc in
    none_some x (sym fails ∙ ap root_of_opens d.1 ∙ root_at d.0 x d.2 d.3)

-- ---- the root of a document

pub whole_parts : (source : List ℕ) (nodes : List Node) (n : Node) (rest : List Node) → nodes ≡ n ∷ rest → IsWholeDocument source nodes → IsFlat (slots source rest) × (tree_of (slots source rest) ≡ alone (root_of source nodes))
whole_parts source nodes n rest e h =
    let s : slots source rest ≡ flat (alone (root_of source nodes)) = sym (ap (λ (l : List Node). slots source (drop 1 l)) e) ∙ h in
    let t : tree_of (slots source rest) ≡ alone (root_of source nodes) = ap tree_of s ∙ tree_of-flat (alone (root_of source nodes)) in
    (ap flat t ∙ sym s, t)

pub whole_some : (source : List ℕ) (nodes : List Node) → IsWholeDocument source nodes → length nodes ≡ 0 → ⊥
whole_some source [] h e = absurd cc
whole_some source (n ∷ nodes) h e = absurd (omega (arith, e))

pub none_alone : (x : Element) → none ≡ alone x → ⊥
none_alone x e = cc

abbrev element_with : Head → Elements → Element
element_with head children = record { head = head; children = children }

pub first_alone : (e x : Element) (rest : Elements) → first e.head e.children rest ≡ alone x → e ≡ x
first_alone e x rest h =
    let h1 : e.head ≡ x.head = cc in
    let h2 : e.children ≡ x.children = cc in
    ap (λ (h : Head). element_with h e.children) h1 ∙ ap (element_with x.head) h2

pub no_nodes_open : (source : List ℕ) (nodes : List Node) (places : List ℕ) → AreOpensHeld source nodes places → length places ≡ 1 → length nodes ≡ 0 → ⊥
no_nodes_open source [] places h one e = let o = one_open source [] places h one in absurd (nothing_slot (open_slot o.d) (flat o.d.done) o.slots_are)
  where
    nothing_slot : (s : Slot) (l : List Slot) → [] ≡ s ∷ l → ⊥
    nothing_slot s l e = cc
no_nodes_open source (n ∷ nodes) places h one e = absurd (omega (arith, e))

-- ---- the loop over the pieces

-- the head of the document's own node
pub own_head : (source : List ℕ) (n : Node) → Some (bare_head []) ≡ Some (head_of source n) → head_of source n ≡ bare_head []
own_head source n e = cc

pub whole_held : (source : List ℕ) (n : Node) → head_of source n ≡ bare_head [] → n.below ≡ 0 → (held source (n ∷ []) (0 ∷ []) ≡ whole ∷ []) × AreOpensHeld source (n ∷ []) (0 ∷ [])
whole_held source n e zero =
    held_is source (n ∷ []) (0 ∷ []) (whole ∷ []) (record {
      nodes_are = ap (λ (h : Head). slot_with h n.below ∷ []) e ∙ ap (λ (k : ℕ). slot_with (bare_head []) k ∷ []) zero;
      places_are = refl;
    })

pub starts : (source : List ℕ) (b : List ℕ) (n : Node) → head_of source n ≡ bare_head [] → n.below ≡ 0 → Reached b b (held source (n ∷ []) (0 ∷ []))
starts source b n e zero = subst (λ (l : List Open). Reached b b l) (sym (whole_held source n e zero).0) (at_start b)

not_nil : (b : List ℕ) → false ≡ eqb (length b) 0 → b ≡ [] → ⊥
not_nil [] e f = cc
not_nil (c ∷ b) e f = cc

pub piece_refused : (e : XmlError) (b rest : List ℕ) (opens : List Open) → Reached b rest opens → Fails e (piece_at rest) → false ≡ eqb (length rest) 0 → IsDocumentRefused e b
piece_refused errors.OutOfMemory b rest opens h fails more = tt
piece_refused errors.Malformed b rest opens h fails more = λ x doc. no_piece_there b rest opens x h fails (not_nil rest more) doc

pub step_refused : (e : XmlError) (b rest next : List ℕ) (p : Piece) (opens : List Open) → Reached b rest opens → piece_at rest ≡ Some (p, next) → Fails e (step p opens) → IsDocumentRefused e b
step_refused errors.OutOfMemory b rest next p opens h found fails = tt
step_refused errors.Malformed b rest next p opens h found fails = λ x doc. no_step_there b rest next p opens x h found fails doc

pub answered : {X : Type 0} (view : X → Element) (r : Result X XmlError) (b rest : List ℕ) (opens : List Open) → list_all is_octet b ≡ true → Reached b rest opens → true ≡ eqb (length rest) 0 → Gives (root_of_opens opens) view r → MatchResult r (λ x. IsDocument b (view x)) (λ e. IsDocumentRefused e b)
answered view (Ok x) b rest opens octets h over given = read_ok b opens (view x) octets (subst (λ (l : List ℕ). Reached b l opens) (nil_from_length rest (eqb-true (length rest) 0 (sym over))) h) given
answered view (Err e) b rest opens octets h over given = read_fails e b opens (subst (λ (l : List ℕ). Reached b l opens) (nil_from_length rest (eqb-true (length rest) 0 (sym over))) h) given
