-- Reading piece by piece reads exactly the contents.
use Rattle.std.proofs.Common.{◌≡◌, ℕ, List, [], ◌∷◌, ◌++◌, Bool, ◌&&◌, true, false, cond, Option, Some, None, refl, sym, ap, subst, ◌∙◌, append_assoc}
use Rattle.std.proofs.lemmas.List.{append-nil}
use Rattle.std.proofs.lemmas.Slice.Eq.{bytes_eq-Decides}
use Rattle.std.specs.List.{list_all}
use Rattle.std.specs.Str.{bytes_eq}
use Rattle.rpki_xml.specs.Element.{Head, Elements, none, first, Element, alone, joined_elements}
use Rattle.rpki_common.specs.Chaining.{◌>>=◌}
use Rattle.rpki_common.proofs.Truths.{both, equal_octets}
use Rattle.rpki_xml.specs.Content.{Tag, Piece, run, passed_over, leaf, start, end, Content, nothing, and_run, and_passed_over, and_leaf, and_element, pieces, characters, elements_in, head_of_tag, fits, is_distinct, IsLawful, IsElement, is_white}
use Rattle.rpki_xml.specs.Stack.{Open, whole, open_started, and_more, open_ended, head_with_text, add_run, add_element, begin_element, end_element, step, steps}

joined_assoc : (a b c : Elements) → joined_elements (joined_elements a b) c ≡ joined_elements a (joined_elements b c)
joined_assoc none b c = refl
joined_assoc (first h cs rest) b c = ap (first h cs) (joined_assoc rest b c)

pub joined-none : (a : Elements) → joined_elements a none ≡ a
joined-none none = refl
joined-none (first h cs rest) = ap (first h cs) (joined-none rest)

abbrev made : Head → List ℕ → Elements → Open
made h text done = record { head = head_with_text text h; done = done }

-- more, and then more again
more_more : (t u : List ℕ) (a b : Elements) (o : Open) → and_more u b (and_more t a o) ≡ and_more (t ++ u) (joined_elements a b) o
more_more t u a b o = ap (λ (x : List ℕ). made o.head x (joined_elements (joined_elements o.done a) b)) (append_assoc o.head.text t u) ∙ ap (made o.head (o.head.text ++ (t ++ u))) (joined_assoc o.done a b)

no_more : (o : Open) → and_more [] none o ≡ o
no_more o = ap (λ (x : List ℕ). made o.head x (joined_elements o.done none)) (append-nil o.head.text) ∙ ap (made o.head o.head.text) (joined-none o.done)

-- an open element after a content
abbrev pub after : Content → Open → Open
after c o = and_more (characters c) (elements_in c) o

-- ---- every lawful content is read

pub reads : (c : Content) (rest : List Piece) (o : Open) (outer : List Open) → IsLawful c → steps (pieces c ++ rest) (o ∷ outer) ≡ steps rest (after c o ∷ outer)
unfolding add_run add_element begin_element end_element ◌>>=◌
reads nothing rest o outer law = ap (λ (x : Open). steps rest (x ∷ outer)) (sym (no_more o))
reads (and_run t c) rest o outer law = reads c rest (and_more t none o) outer law ∙ ap (λ (x : Open). steps rest (x ∷ outer)) (more_more t (characters c) none (elements_in c) o)
reads (and_passed_over c) rest o outer law = reads c rest o outer law
reads (and_leaf tag c) rest o outer law =
    let one = alone (record { head = head_of_tag tag []; children = none }) in
    rw law.0 (reads c rest (and_more [] one o) outer law.1 ∙ ap (λ (x : Open). steps rest (x ∷ outer)) (more_more [] (characters c) one (elements_in c) o))
reads (and_element tag inside c) rest o outer law =
    let new = after inside (open_started (head_of_tag tag [])) in
    let one = alone (open_ended new) in
    let regroup : (pieces inside ++ end tag.name ∷ pieces c) ++ rest ≡ pieces inside ++ (end tag.name ∷ (pieces c ++ rest)) = append_assoc (pieces inside) (end tag.name ∷ pieces c) rest in
    rw law.0 (ap (λ (l : List Piece). steps l (open_started (head_of_tag tag []) ∷ o ∷ outer)) regroup
    ∙ reads inside (end tag.name ∷ (pieces c ++ rest)) (open_started (head_of_tag tag [])) (o ∷ outer) law.1.0
    ∙ rw (equal_octets tag.name, law.1.1.0) (reads c rest (and_more [] one o) outer law.1.1.1 ∙ ap (λ (x : Open). steps rest (x ∷ outer)) (more_more [] (characters c) one (elements_in c) o)))

-- ---- what is read is a lawful content

-- the pieces that are left end the open elements one after the other, with lawful contents
abbrev pub Ends : List Piece → Open → List Open → List Open → Type 0
Ends list o [] final = (c : Content) × (pieces c ≡ list) × IsLawful c × (final ≡ after c o ∷ [])
Ends list o (p ∷ outer) final =
    (c : Content) × (rest : List Piece) × (pieces c ++ end o.head.name ∷ rest ≡ list) × IsLawful c × (fits (after c o).done (after c o).head.text ≡ true) × Ends rest (and_more [] (alone (open_ended (after c o))) p) outer final

-- a content with more in front
record Extends (f : Content → Content) (front : List Piece) (text : List ℕ) (children : Elements) : Type 0 where
  in_front : (c : Content) → pieces (f c) ≡ front ++ pieces c
  lawful : (c : Content) → IsLawful c → IsLawful (f c)
  means : (c : Content) (o : Open) → after (f c) o ≡ after c (and_more text children o)

absorb : (f : Content → Content) (front : List Piece) (text : List ℕ) (children : Elements) → Extends f front text children → (list : List Piece) (o : Open) (outer final : List Open) → Ends list (and_more text children o) outer final → Ends (front ++ list) o outer final
absorb f front text children e list o [] final h =
    (f h.0, e.in_front h.0 ∙ ap (λ (l : List Piece). front ++ l) h.1, e.lawful h.0 h.2, h.3 ∙ ap (λ (x : Open). x ∷ []) (sym (e.means h.0 o)))
absorb f front text children e list o (p ∷ outer) final h =
    let same = e.means h.0 o in (
      f h.0,
      h.1,
      ap (λ (l : List Piece). l ++ end o.head.name ∷ h.1) (e.in_front h.0) ∙ append_assoc front (pieces h.0) (end o.head.name ∷ h.1) ∙ ap (λ (l : List Piece). front ++ l) h.2,
      e.lawful h.0 h.3,
      ap (λ (x : Open). fits x.done x.head.text) same ∙ h.4,
      subst (λ (x : Open). Ends h.1 (and_more [] (alone (open_ended x)) p) outer final) (sym same) h.5,
    )

chosen : {A : Type 0} (b : Bool) (x y : Option A) (z : A) → (cond b x None >>= λ (a : A). Some a) ≡ Some z → b ≡ true
unfolding add_run add_element begin_element end_element ◌>>=◌
chosen true x y z e = refl
chosen false x y z e = absurd cc

step_some : (piece : Piece) (o : Open) (outer : List Open) (more : List Piece) (d : List Open) → steps (piece ∷ more) (o ∷ outer) ≡ Some d → (s : List Open) × (step piece (o ∷ outer) ≡ Some s) × (steps more s ≡ Some d)
unfolding add_run add_element begin_element end_element ◌>>=◌
step_some piece o outer more d e = go (step piece (o ∷ outer)) refl e
  where
    go : (x : Option (List Open)) → step piece (o ∷ outer) ≡ x → (x >>= λ s. steps more s) ≡ Some d → (s : List Open) × (step piece (o ∷ outer) ≡ Some s) × (steps more s ≡ Some d)
    go (Some s) is h = (s, is, h)
    go None is h = absurd cc

guarded : (b : Bool) (x s : List Open) → cond b (Some x) None ≡ Some s → (b ≡ true) × (x ≡ s)
guarded true x s e = (refl, cc)
guarded false x s e = absurd cc

with_run : (t : List ℕ) → Extends (and_run t) (run t ∷ []) t none
with_run t = record {
  in_front = λ c. refl;
  lawful = λ c h. h;
  means = λ c o. sym (more_more t (characters c) none (elements_in c) o);
}

with_passed_over : Extends and_passed_over (passed_over ∷ []) [] none
with_passed_over = record {
  in_front = λ c. refl;
  lawful = λ c h. h;
  means = λ c o. sym (more_more [] (characters c) none (elements_in c) o);
}

with_leaf : (tag : Tag) → is_distinct tag.attributes ≡ true → Extends (and_leaf tag) (leaf tag ∷ []) [] (alone (record { head = head_of_tag tag []; children = none }))
with_leaf tag distinct = record {
  in_front = λ c. refl;
  lawful = λ c h. (distinct, h);
  means = λ c o. sym (more_more [] (characters c) (alone (record { head = head_of_tag tag []; children = none })) (elements_in c) o);
}

with_inner : (tag : Tag) (inside : Content) → is_distinct tag.attributes ≡ true → IsLawful inside → fits (elements_in inside) (characters inside) ≡ true
    → Extends (and_element tag inside) (start tag ∷ (pieces inside ++ end tag.name ∷ [])) [] (alone (open_ended (after inside (open_started (head_of_tag tag [])))))
with_inner tag inside distinct law fit = record {
  in_front = λ c. ap (λ (l : List Piece). start tag ∷ l) (sym (append_assoc (pieces inside) (end tag.name ∷ []) (pieces c)));
  lawful = λ c h. (distinct, (law, (fit, h)));
  means = λ c o. sym (more_more [] (characters c) (alone (open_ended (after inside (open_started (head_of_tag tag []))))) (elements_in c) o);
}

pub ended : (list : List Piece) (o : Open) (outer : List Open) (d : Open) → steps list (o ∷ outer) ≡ Some (d ∷ []) → Ends list o outer (d ∷ [])
unfolding add_run add_element begin_element end_element ◌>>=◌
ended [] o [] d e = let same : o ∷ [] ≡ d ∷ [] = cc in (nothing, refl, tt, sym same ∙ ap (λ (x : Open). x ∷ []) (sym (no_more o)))
ended [] o (p ∷ outer) d e = absurd cc
ended (run t ∷ list) o outer d e =
    absorb (and_run t) (run t ∷ []) t none (with_run t) list o outer (d ∷ []) (ended list (and_more t none o) outer d e)
ended (passed_over ∷ list) o outer d e = absorb and_passed_over (passed_over ∷ []) [] none with_passed_over list o outer (d ∷ []) (subst (λ (x : Open). Ends list x outer (d ∷ [])) (sym (no_more o)) (ended list o outer d e))
ended (leaf tag ∷ list) o outer d e =
    let one = alone (record { head = head_of_tag tag []; children = none }) in
    let s = step_some (leaf tag) o outer list (d ∷ []) e in
    let g = guarded (is_distinct tag.attributes) (and_more [] one o ∷ outer) s.0 s.1 in
    absorb (and_leaf tag) (leaf tag ∷ []) [] one (with_leaf tag g.0) list o outer (d ∷ []) (ended list (and_more [] one o) outer d (ap (steps list) g.1 ∙ s.2))
ended (start tag ∷ list) o outer d e =
    let s = step_some (start tag) o outer list (d ∷ []) e in
    let g = guarded (is_distinct tag.attributes) (open_started (head_of_tag tag []) ∷ o ∷ outer) s.0 s.1 in
    let h = ended list (open_started (head_of_tag tag [])) (o ∷ outer) d (ap (steps list) g.1 ∙ s.2) in
    let whole = absorb (and_element tag h.0) (start tag ∷ (pieces h.0 ++ end tag.name ∷ [])) [] (alone (open_ended (after h.0 (open_started (head_of_tag tag []))))) (with_inner tag h.0 g.0 h.3 h.4) h.1 o outer (d ∷ []) h.5 in
    subst (λ (l : List Piece). Ends (start tag ∷ l) o outer (d ∷ [])) (append_assoc (pieces h.0) (end tag.name ∷ []) h.1 ∙ h.2) whole
ended (end name ∷ list) o [] d e = absurd cc
ended (end name ∷ list) o (p ∷ outer) d e =
    let s = step_some (end name) o (p ∷ outer) list (d ∷ []) e in
    let g = guarded (bytes_eq o.head.name name && fits o.done o.head.text) (and_more [] (alone (open_ended o)) p ∷ outer) s.0 s.1 in
    let b = both (bytes_eq o.head.name name) (fits o.done o.head.text) g.0 in
    let name-is : o.head.name ≡ name = (bytes_eq-Decides o.head.name name).0 b.0 in (
      nothing,
      list,
      ap (λ (n : List ℕ). end n ∷ list) name-is,
      tt,
      ap (λ (x : Open). fits x.done x.head.text) (no_more o) ∙ b.1,
      subst (λ (x : Open). Ends list (and_more [] (alone (open_ended x)) p) outer (d ∷ [])) (sym (no_more o)) (ended list (and_more [] (alone (open_ended o)) p) outer d (ap (steps list) g.1 ∙ s.2)),
    )

-- ---- documents

abbrev some : List Open → Option (List Open)
some opens = Some opens

abbrev element_with : Head → Elements → Element
element_with head children = record { head = head; children = children }

pub element_reads : (list : List Piece) (x : Element) → IsElement list x → (d : Open) × (steps list (whole ∷ []) ≡ Some (d ∷ [])) × (d.done ≡ alone x) × (list_all is_white d.head.text ≡ true)
element_reads list x h = (
  after h.content whole,
  ap (λ (l : List Piece). steps l (whole ∷ [])) (sym h.spelled ∙ sym (append-nil (pieces h.content))) ∙ reads h.content [] whole [] h.lawful,
  h.only,
  h.white,
)

pub reads_element : (list : List Piece) (x : Element) (d : Open) → steps list (whole ∷ []) ≡ Some (d ∷ []) → d.done ≡ alone x → list_all is_white d.head.text ≡ true → IsElement list x
reads_element list x d e only white =
    let h = ended list whole [] d e in
    let same : d ≡ after h.0 whole = cc_head d (after h.0 whole) h.3 in
    record {
      content = h.0;
      spelled = h.1;
      lawful = h.2;
      only = ap (λ (o : Open). o.done) (sym same) ∙ only;
      white = ap (λ (o : Open). list_all is_white o.head.text) (sym same) ∙ white;
    }
  where
    cc_head : (a b : Open) → a ∷ [] ≡ b ∷ [] → a ≡ b
    cc_head a b h = cc

-- at most one element for one list of pieces
pub one_element : (list : List Piece) (x y : Element) → IsElement list x → IsElement list y → x ≡ y
one_element list x y p q =
    let a = element_reads list x p in
    let b = element_reads list y q in
    let same : a.0 ≡ b.0 = one_open a.0 b.0 (sym a.1 ∙ b.1) in
    same_alone x y (sym a.2 ∙ ap (λ (o : Open). o.done) same ∙ b.2)
  where
    one_open : (a b : Open) → some (a ∷ []) ≡ some (b ∷ []) → a ≡ b
    one_open a b h = cc

    same_alone : (x y : Element) → alone x ≡ alone y → x ≡ y
    same_alone x y h =
        let h1 : x.head ≡ y.head = cc in
        let h2 : x.children ≡ y.children = cc in
        ap (λ (h : Head). element_with h x.children) h1 ∙ ap (element_with y.head) h2
