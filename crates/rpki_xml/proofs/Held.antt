-- The open elements in the flat list that the code holds.
use Rattle.std.proofs.Common.{◌≡◌, ℕ, suc, ◌<◌, List, [], ◌∷◌, ◌++◌, length, take, set, get_or, reverse, Bool, ◌&&◌, not, true, false, cond, eqb, ◌-◌, Option, Some, None, refl, sym, ap, ◌∙◌, append_assoc, arith}
use Rattle.std.proofs.lemmas.List.{take_at, drop_at, set_at, get_or_at, map-set, map-append, length-append, append-nil, reverse-append, reverse-reverse, get_or-map}
use Rattle.std.proofs.lemmas.Bool.{ne_eqb}
use Rattle.rpki_xml.specs.declared.element.Node.{Node}
use Rattle.rpki_xml.specs.declared.error.XmlError.{XmlError}
use Rattle.rpki_xml.specs.declared.error.XmlError.TheVariants as errors
use Rattle.rpki_xml.specs.Answers.{Fails}
use Rattle.rpki_xml.specs.Element.{Head, Elements, none, first, alone, joined_elements}
use Rattle.rpki_xml.specs.Nodes.{Slot, flat, tree_of-flat}
use Rattle.rpki_xml.specs.Kept.{name_from}
use Rattle.rpki_xml.specs.Views.{Parts, parts_in, text_in, head_of, slots}
use Rattle.rpki_xml.specs.declared.element.Rest.{Rest}
use Rattle.rpki_common.specs.Chaining.{◌>>=◌}
use Rattle.rpki_common.proofs.Truths.{same_some}
use Rattle.rpki_xml.specs.Stack.{Open, open_started, and_more, open_ended, head_with_text, open_slot, slots_of, places_of, open_at, opens_of, held, AreOpensHeld, open_text, settled_parts, with_part, with_more_text, add_run, add_element, begin_element, end_element}
use Rattle.rpki_xml.specs.Content.{text_of_content, fits}
use Rattle.std.specs.Str.{bytes_eq}
use Rattle.rpki_xml.proofs.Stacks.{joined-none}

opens_of-slots : (opens : List Open) → opens_of (slots_of opens) (places_of opens) ≡ opens
opens_of-slots [] = refl
opens_of-slots (o ∷ outer) =
    let front = slots_of outer in
    let rest = open_slot o ∷ flat o.done in
    ap (λ (l : List Slot). open_at l ++ opens_of (take (length front) (front ++ rest)) (places_of outer)) (drop_at front rest (length front) refl)
    ∙ ap (λ (l : List Slot). open_at rest ++ opens_of l (places_of outer)) (take_at front rest (length front) refl)
    ∙ ap (λ (l : List Open). open_at rest ++ l) (opens_of-slots outer)
    ∙ ap (λ (t : Elements). record { head = o.head; done = t } ∷ outer) (tree_of-flat o.done)

-- open elements that the code holds are those that it holds
pub record Holds (source : List ℕ) (nodes : List Node) (places : List ℕ) (opens : List Open) : Type 0 where
  pub nodes_are : slots source nodes ≡ slots_of opens
  pub places_are : reverse places ≡ places_of opens

pub held_is : (source : List ℕ) (nodes : List Node) (places : List ℕ) (opens : List Open) → Holds source nodes places opens → (held source nodes places ≡ opens) × AreOpensHeld source nodes places
unfolding held
held_is source nodes places opens h =
    let same : held source nodes places ≡ opens = ap (λ (l : List Slot). opens_of l (reverse places)) h.nodes_are ∙ ap (opens_of (slots_of opens)) h.places_are ∙ opens_of-slots opens in
    (same, record { nodes_are = h.nodes_are ∙ ap slots_of (sym same); places_are = h.places_are ∙ ap places_of (sym same) })

flat-joined : (a b : Elements) → flat (joined_elements a b) ≡ flat a ++ flat b
flat-joined none b = refl
flat-joined (first h cs rest) b =
    ap (λ (l : List Slot). record { head = h; below = length (flat cs) } ∷ (flat cs ++ l)) (flat-joined rest b) ∙ ap (λ (l : List Slot). record { head = h; below = length (flat cs) } ∷ l) (sym (append_assoc (flat cs) (flat rest) (flat b)))

abbrev pub slot_with : Head → ℕ → Slot
slot_with head below = record { head = head; below = below }

abbrev slot : List ℕ → Node → Slot
slot source n = record { head = head_of source n; below = n.below }

slots-set : (source : List ℕ) (nodes : List Node) (i : ℕ) (n : Node) → slots source (set nodes i n) ≡ set (slots source nodes) i (slot source n)
slots-set source nodes i n = map-set (slot source) nodes i n

pub slots-push : (source : List ℕ) (nodes : List Node) (n : Node) → slots source (nodes ++ n ∷ []) ≡ slots source nodes ++ slot source n ∷ []
slots-push source nodes n = map-append (slot source) nodes (n ∷ [])

pub length-slots : (source : List ℕ) (nodes : List Node) → length (slots source nodes) ≡ length nodes
length-slots source [] = refl
length-slots source (n ∷ nodes) = ap suc (length-slots source nodes)

-- the innermost open element, at the place that was pushed last
pub record Innermost (source : List ℕ) (nodes : List Node) (places front : List ℕ) (i : ℕ) : Type 0 where
  pub o : Open
  pub outer : List Open
  pub held_are : held source nodes places ≡ o ∷ outer
  pub slots_are : slots source nodes ≡ slots_of (o ∷ outer)
  pub place_is : i ≡ length (slots_of outer)
  pub others_are : reverse front ≡ places_of outer
  pub in_range : i < length nodes

innermost_at : (source : List ℕ) (opens : List Open) (nodes : List Node) (places front : List ℕ) (i : ℕ) → places ≡ front ++ i ∷ [] → held source nodes places ≡ opens → slots source nodes ≡ slots_of opens → reverse places ≡ places_of opens → Innermost source nodes places front i
innermost_at source [] nodes places front i at held-are ns ps = let e : i ∷ reverse front ≡ [] = sym (reverse-append front (i ∷ [])) ∙ sym (ap reverse at) ∙ ps in absurd cc
innermost_at source (o ∷ outer) nodes places front i at held-are ns ps =
    let e : i ∷ reverse front ≡ length (slots_of outer) ∷ places_of outer = sym (reverse-append front (i ∷ [])) ∙ sym (ap reverse at) ∙ ps in
    let place : i ≡ length (slots_of outer) = cc in
    record {
      o = o;
      outer = outer;
      held_are = held-are;
      slots_are = ns;
      place_is = place;
      others_are = cc;
      in_range = omega (arith, sym (length-slots source nodes), ap length ns, length-append (slots_of outer) (open_slot o ∷ flat o.done), place);
    }

pub innermost : (source : List ℕ) (nodes : List Node) (places front : List ℕ) (i : ℕ) → places ≡ front ++ i ∷ [] → AreOpensHeld source nodes places → Innermost source nodes places front i
innermost source nodes places front i at h = innermost_at source (held source nodes places) nodes places front i at refl h.nodes_are h.places_are

-- the node there is that of the open element
node_is : (source : List ℕ) (nodes : List Node) (places front : List ℕ) (i : ℕ) (m : Innermost source nodes places front i) (n : Node) → n ≡ get_or nodes i n → slot source n ≡ open_slot m.o
node_is source nodes places front i m n is =
    ap (slot source) is ∙ sym (get_or-map (slot source) nodes i n (slot source n) m.in_range) ∙ ap (λ (l : List Slot). get_or l i (slot source n)) m.slots_are ∙ get_or_at (slots_of m.outer) (open_slot m.o) (flat m.o.done) (slot source n) i (sym m.place_is)

-- the place that was pushed last stays
places_stay : (source : List ℕ) (nodes : List Node) (places front : List ℕ) (i : ℕ) (m : Innermost source nodes places front i) → places ≡ front ++ i ∷ [] → reverse places ≡ length (slots_of m.outer) ∷ places_of m.outer
places_stay source nodes places front i m at = ap reverse at ∙ reverse-append front (i ∷ []) ∙ ap (λ (k : ℕ). k ∷ reverse front) m.place_is ∙ ap (λ (l : List ℕ). length (slots_of m.outer) ∷ l) m.others_are

-- the list with another node in that place
set_there : (source : List ℕ) (nodes : List Node) (places front : List ℕ) (i : ℕ) (m : Innermost source nodes places front i) (n : Node) → slots source (set nodes i n) ≡ slots_of m.outer ++ slot source n ∷ flat m.o.done
set_there source nodes places front i m n = slots-set source nodes i n ∙ ap (λ (l : List Slot). set l i (slot source n)) m.slots_are ∙ set_at (slots_of m.outer) (open_slot m.o) (flat m.o.done) (slot source n) i (sym m.place_is)

-- ---- a run

-- a node whose text, namespace and attributes were taken, and put back with another text
abbrev head_with : List ℕ → Parts → Head
head_with name p = record {
  name = name;
  namespace = p.namespace;
  attributes = p.attributes;
  text = p.text;
}

pub with_run : (source : List ℕ) (n : Node) (so_far new : Rest) (run : List ℕ) → so_far ≡ n.rest → Some (with_more_text run (parts_in source so_far)) ≡ Some (parts_in source new) → head_of source (record n { rest = new }) ≡ head_with_text ((head_of source n).text ++ run) (head_of source n)
with_run source n so_far new run is more =
    ap (head_with (name_from source n.name)) (sym (same_some (with_more_text run (parts_in source so_far)) (parts_in source new) more) ∙ ap (λ (r : Rest). with_more_text run (parts_in source r)) is)

-- the text that is settled at the end of an element is put into its parts
settled_as : (x : Option (List ℕ)) (p q : Parts) → (x >>= λ text. Some (with_part text p)) ≡ Some q → (x ≡ Some q.text) × (with_part q.text p ≡ q)
unfolding ◌>>=◌
settled_as (Some text) p q e = let same = same_some (with_part text p) q e in (ap (λ (r : Parts). Some r.text) same, ap (λ (r : Parts). with_part r.text p) (sym same) ∙ same)
settled_as None p q e = absurd cc

pub at_end : (source : List ℕ) (n : Node) (so_far new : Rest) (below : ℕ) → so_far ≡ n.rest → settled_parts below (parts_in source so_far) ≡ Some (parts_in source new)
    → (open_text below (head_of source n).text ≡ Some (text_in source new)) × (head_of source (record n { rest = new; below = below }) ≡ head_with_text (text_in source new) (head_of source n))
unfolding settled_parts
at_end source n so_far new below is done =
    let s = settled_as (open_text below (text_in source n.rest)) (parts_in source n.rest) (parts_in source new) (ap (λ (r : Rest). open_text below (text_in source r) >>= λ text. Some (with_part text (parts_in source r))) (sym is) ∙ done) in
    (s.0, ap (head_with (name_from source n.name)) (sym s.1))

none_settled : (x : Option (List ℕ)) (p : Parts) → (x >>= λ text. Some (with_part text p)) ≡ None → x ≡ None
unfolding ◌>>=◌
none_settled (Some text) p e = absurd cc
none_settled None p e = refl

pub fails_at_end : (e : XmlError) (source : List ℕ) (n : Node) (so_far : Rest) (below : ℕ) → so_far ≡ n.rest → Fails e (settled_parts below (parts_in source so_far)) → Fails e (open_text below (head_of source n).text)
unfolding settled_parts
fails_at_end errors.OutOfMemory source n so_far below is fails = tt
fails_at_end errors.Malformed source n so_far below is fails = none_settled (open_text below (text_in source n.rest)) (parts_in source n.rest) (ap (λ (r : Rest). open_text below (text_in source r) >>= λ text. Some (with_part text (parts_in source r))) (sym is) ∙ fails)

pub run_added : (source : List ℕ) (nodes : List Node) (places front : List ℕ) (i : ℕ) (text : List ℕ) (n n' : Node) → places ≡ front ++ i ∷ [] → AreOpensHeld source nodes places → n ≡ get_or nodes i n
    → head_of source n' ≡ head_with_text ((head_of source n).text ++ text) (head_of source n) → n'.below ≡ n.below
    → (add_run text (held source nodes places) ≡ Some (held source (set nodes i n') places)) × AreOpensHeld source (set nodes i n') places
unfolding add_run
run_added source nodes places front i text n n' at h is head-is below-is =
    let m = innermost source nodes places front i at h in
    let there = node_is source nodes places front i m n is in
    let new = and_more text none m.o in
    let slot-is : slot source n' ≡ open_slot new = ap (λ (x : Head). slot_with x n'.below) head-is ∙ ap (λ (k : ℕ). slot_with (head_with_text ((head_of source n).text ++ text) (head_of source n)) k) below-is ∙ ap (λ (s : Slot). slot_with (head_with_text (s.head.text ++ text) s.head) s.below) there in
    let holds : Holds source (set nodes i n') places (new ∷ m.outer) = record {
      nodes_are = set_there source nodes places front i m n' ∙ ap (λ (s : Slot). slots_of m.outer ++ s ∷ flat m.o.done) slot-is ∙ ap (λ (e : Elements). slots_of m.outer ++ open_slot new ∷ flat e) (sym (joined-none m.o.done));
      places_are = places_stay source nodes places front i m at;
    } in
    let new-is = held_is source (set nodes i n') places (new ∷ m.outer) holds in
    (ap (add_run text) m.held_are ∙ ap (λ (l : List Open). Some l) (sym new-is.0), new-is.1)

pub nothing_held : (source : List ℕ) (nodes : List Node) (places : List ℕ) → length places ≡ 0 → held source nodes places ≡ []
unfolding held
nothing_held source nodes [] e = refl
nothing_held source nodes (i ∷ places) e = absurd (omega arith)

-- ---- an element without children, and the start of one

pub element_added : (source : List ℕ) (nodes : List Node) (places front : List ℕ) (i : ℕ) (n : Node) → places ≡ front ++ i ∷ [] → AreOpensHeld source nodes places → n.below ≡ 0
    → (add_element (head_of source n) (held source nodes places) ≡ Some (held source (nodes ++ n ∷ []) places)) × AreOpensHeld source (nodes ++ n ∷ []) places
unfolding add_element
element_added source nodes places front i n at h zero-is =
    let m = innermost source nodes places front i at h in
    let one = alone (record { head = head_of source n; children = none }) in
    let new = and_more [] one m.o in
    let more : flat m.o.done ++ slot source n ∷ [] ≡ flat new.done = ap (λ (k : ℕ). flat m.o.done ++ slot_with (head_of source n) k ∷ []) zero-is ∙ sym (flat-joined m.o.done one) in
    let holds : Holds source (nodes ++ n ∷ []) places (new ∷ m.outer) = record {
      nodes_are = slots-push source nodes n ∙ ap (λ (l : List Slot). l ++ slot source n ∷ []) m.slots_are ∙ append_assoc (slots_of m.outer) (open_slot m.o ∷ flat m.o.done) (slot source n ∷ []) ∙ ap (λ (l : List Slot). slots_of m.outer ++ open_slot m.o ∷ l) more
          ∙ ap (λ (t : List ℕ). slots_of m.outer ++ slot_with (head_with_text t m.o.head) 0 ∷ flat new.done) (sym (append-nil m.o.head.text));
      places_are = places_stay source nodes places front i m at;
    } in
    let new-is = held_is source (nodes ++ n ∷ []) places (new ∷ m.outer) holds in
    (ap (add_element (head_of source n)) m.held_are ∙ ap (λ (l : List Open). Some l) (sym new-is.0), new-is.1)

pub element_begun : (source : List ℕ) (nodes : List Node) (places front : List ℕ) (i j : ℕ) (n : Node) → places ≡ front ++ i ∷ [] → AreOpensHeld source nodes places → n.below ≡ 0 → j ≡ length nodes
    → (begin_element (head_of source n) (held source nodes places) ≡ Some (held source (nodes ++ n ∷ []) (places ++ j ∷ []))) × AreOpensHeld source (nodes ++ n ∷ []) (places ++ j ∷ [])
unfolding begin_element
element_begun source nodes places front i j n at h zero-is j-is =
    let m = innermost source nodes places front i at h in
    let new = open_started (head_of source n) in
    let count : length (slots_of (m.o ∷ m.outer)) ≡ j = ap length (sym m.slots_are) ∙ length-slots source nodes ∙ sym j-is in
    let holds : Holds source (nodes ++ n ∷ []) (places ++ j ∷ []) (new ∷ m.o ∷ m.outer) = record {
      nodes_are = slots-push source nodes n ∙ ap (λ (l : List Slot). l ++ slot source n ∷ []) m.slots_are ∙ ap (λ (k : ℕ). slots_of (m.o ∷ m.outer) ++ slot_with (head_of source n) k ∷ []) zero-is;
      places_are = reverse-append places (j ∷ []) ∙ ap (λ (k : ℕ). k ∷ reverse places) (sym count) ∙ ap (λ (l : List ℕ). length (slots_of (m.o ∷ m.outer)) ∷ l) (places_stay source nodes places front i m at);
    } in
    let new-is = held_is source (nodes ++ n ∷ []) (places ++ j ∷ []) (new ∷ m.o ∷ m.outer) holds in
    (ap (begin_element (head_of source n)) m.held_are ∙ ap (λ (l : List Open). Some l) (sym new-is.0), new-is.1)

-- a list that isn't empty has a last item
last_of : (places : List ℕ) → 0 < length places → (front : List ℕ) × (i : ℕ) × (places ≡ front ++ i ∷ [])
last_of places more = go (reverse places) refl
  where
    go : (r : List ℕ) → reverse places ≡ r → (front : List ℕ) × (i : ℕ) × (places ≡ front ++ i ∷ [])
    go [] e = let nil : places ≡ [] = sym (reverse-reverse places) ∙ ap reverse e in absurd (omega (arith, ap length nil))
    go (i ∷ r) e = (reverse r, i, sym (reverse-reverse places) ∙ ap reverse e ∙ reverse-append (i ∷ []) r)

pub element_added_in : (source : List ℕ) (nodes : List Node) (places : List ℕ) (n : Node) → 0 < length places → AreOpensHeld source nodes places → n.below ≡ 0
    → (add_element (head_of source n) (held source nodes places) ≡ Some (held source (nodes ++ n ∷ []) places)) × AreOpensHeld source (nodes ++ n ∷ []) places
element_added_in source nodes places n more h zero-is = let s = last_of places more in element_added source nodes places s.0 s.1 n s.2 h zero-is

pub element_begun_in : (source : List ℕ) (nodes : List Node) (places : List ℕ) (j : ℕ) (n : Node) → 0 < length places → AreOpensHeld source nodes places → n.below ≡ 0 → j ≡ length nodes
    → (begin_element (head_of source n) (held source nodes places) ≡ Some (held source (nodes ++ n ∷ []) (places ++ j ∷ []))) × AreOpensHeld source (nodes ++ n ∷ []) (places ++ j ∷ [])
element_begun_in source nodes places j n more h zero-is j-is = let s = last_of places more in element_begun source nodes places s.0 s.1 j n s.2 h zero-is j-is

-- ---- the end of an element

settled_is : (es : Elements) (text : List ℕ) → open_text (length (flat es)) text ≡ cond (fits es text) (Some (text_of_content es text)) None
settled_is none text = refl
settled_is (first h cs rest) text =
    let more : eqb (suc (length (flat cs ++ flat rest))) 0 ≡ false = ne_eqb (suc (length (flat cs ++ flat rest))) 0 (omega arith) in
    rw more refl

settled_ok : (b : Bool) (x y : List ℕ) → cond b (Some x) None ≡ Some y → (b ≡ true) × (x ≡ y)
settled_ok true x y e = (refl, cc)
settled_ok false x y e = absurd cc

settled_none : (b : Bool) (x : List ℕ) → cond b (Some x) None ≡ None → b ≡ false
settled_none true x e = absurd cc
settled_none false x e = refl

-- the elements round the innermost one
no_outer : (outer : List Open) (front : List ℕ) → reverse front ≡ places_of outer → length front ≡ 0 → outer ≡ []
no_outer [] front e zero = refl
no_outer (p ∷ outer) [] e zero = absurd cc
no_outer (p ∷ outer) (i ∷ front) e zero = absurd (omega arith)

an_outer : (outer : List Open) (front : List ℕ) → reverse front ≡ places_of outer → 0 < length front → (p : Open) × (rest : List Open) × (outer ≡ p ∷ rest)
an_outer (p ∷ outer) front e more = (p, outer, refl)
an_outer [] front e more = let nil : front ≡ [] = sym (reverse-reverse front) ∙ ap reverse e in absurd (omega (arith, ap length nil))

pub nothing_to_end : (source : List ℕ) (nodes : List Node) (places front : List ℕ) (i : ℕ) (name : List ℕ) → places ≡ front ++ i ∷ [] → AreOpensHeld source nodes places → length front ≡ 0 → end_element name (held source nodes places) ≡ None
unfolding end_element
nothing_to_end source nodes places front i name at h zero =
    let m = innermost source nodes places front i at h in
    rw (m.held_are, no_outer m.outer front m.others_are zero) refl

-- what the end of an element asks, by the node
asked : (source : List ℕ) (nodes : List Node) (places front : List ℕ) (i below : ℕ) (n : Node) (name : List ℕ) (m : Innermost source nodes places front i) → n ≡ get_or nodes i n → below ≡ length nodes - i - 1
    → (open_text below (head_of source n).text ≡ cond (fits m.o.done m.o.head.text) (Some (text_of_content m.o.done m.o.head.text)) None) × ((head_of source n).name ≡ m.o.head.name)
asked source nodes places front i below n name m is below-is =
    let there = ap (λ (s : Slot). s.head) (node_is source nodes places front i m n is) in
    let count : below ≡ length (flat m.o.done) = omega (arith, below-is, sym (length-slots source nodes), ap length m.slots_are, length-append (slots_of m.outer) (open_slot m.o ∷ flat m.o.done), m.place_is) in
    (ap (λ (k : ℕ). open_text k (head_of source n).text) count ∙ ap (λ (h : Head). open_text (length (flat m.o.done)) h.text) there ∙ settled_is m.o.done m.o.head.text, ap (λ (h : Head). h.name) there)

pub other_name : (source : List ℕ) (nodes : List Node) (places front : List ℕ) (i : ℕ) (n : Node) (name : List ℕ) → places ≡ front ++ i ∷ [] → AreOpensHeld source nodes places → 0 < length front → n ≡ get_or nodes i n → bytes_eq (head_of source n).name name ≡ false → end_element name (held source nodes places) ≡ None
unfolding end_element
other_name source nodes places front i n name at h more is ne =
    let m = innermost source nodes places front i at h in
    let a = an_outer m.outer front m.others_are more in
    let there = ap (λ (s : Slot). s.head.name) (node_is source nodes places front i m n is) in
    let test : bytes_eq m.o.head.name name ≡ false = ap (λ (x : List ℕ). bytes_eq x name) (sym there) ∙ ne in
    rw (m.held_are, a.2, test) refl

pub unsettled : (source : List ℕ) (nodes : List Node) (places front : List ℕ) (i below : ℕ) (n : Node) (name : List ℕ) → places ≡ front ++ i ∷ [] → AreOpensHeld source nodes places → 0 < length front → n ≡ get_or nodes i n → below ≡ length nodes - i - 1
    → open_text below (head_of source n).text ≡ None → end_element name (held source nodes places) ≡ None
unfolding end_element
unsettled source nodes places front i below n name at h more is below-is none-is =
    let m = innermost source nodes places front i at h in
    let a = an_outer m.outer front m.others_are more in
    let q = asked source nodes places front i below n name m is below-is in
    let test = settled_none (fits m.o.done m.o.head.text) (text_of_content m.o.done m.o.head.text) (sym q.0 ∙ none-is) in
    rw (m.held_are, a.2, test) (no_matter (bytes_eq m.o.head.name name) (and_more [] (alone (open_ended m.o)) a.0 ∷ a.1))
  where
    no_matter : (b : Bool) (x : List Open) → cond (b && false) (Some x) None ≡ None
    no_matter true x = refl
    no_matter false x = refl

pub element_ended : (source : List ℕ) (nodes : List Node) (places front : List ℕ) (i below : ℕ) (n n' : Node) (name text : List ℕ) → places ≡ front ++ i ∷ [] → AreOpensHeld source nodes places → 0 < length front → n ≡ get_or nodes i n → below ≡ length nodes - i - 1
    → bytes_eq (head_of source n).name name ≡ true → open_text below (head_of source n).text ≡ Some text → head_of source n' ≡ head_with_text text (head_of source n) → n'.below ≡ below
    → (end_element name (held source nodes places) ≡ Some (held source (set nodes i n') front)) × AreOpensHeld source (set nodes i n') front
unfolding end_element
element_ended source nodes places front i below n n' name text at h more is below-is name-is text-is head-is below'-is =
    let m = innermost source nodes places front i at h in
    let a = an_outer m.outer front m.others_are more in
    let p = a.0 in
    let there = ap (λ (s : Slot). s.head) (node_is source nodes places front i m n is) in
    let q = asked source nodes places front i below n name m is below-is in
    let g = settled_ok (fits m.o.done m.o.head.text) (text_of_content m.o.done m.o.head.text) text (sym q.0 ∙ text-is) in
    let count : n'.below ≡ length (flat m.o.done) = omega (arith, below'-is, below-is, sym (length-slots source nodes), ap length m.slots_are, length-append (slots_of m.outer) (open_slot m.o ∷ flat m.o.done), m.place_is) in
    let head'-is : head_of source n' ≡ (open_ended m.o).head = head-is ∙ ap (head_with_text text) there ∙ ap (λ (t : List ℕ). head_with_text t m.o.head) (sym g.1) in
    let slot-is : slot source n' ≡ slot_with (open_ended m.o).head (length (flat m.o.done)) = ap (λ (x : Head). slot_with x n'.below) head'-is ∙ ap (slot_with (open_ended m.o).head) count in
    let new = and_more [] (alone (open_ended m.o)) p in
    let front-is : slots_of m.outer ≡ slots_of a.1 ++ open_slot p ∷ flat p.done = ap slots_of a.2 in
    let back : flat p.done ++ slot source n' ∷ flat m.o.done ≡ flat new.done =
    ap (λ (s : Slot). flat p.done ++ s ∷ flat m.o.done) slot-is ∙ ap (λ (l : List Slot). flat p.done ++ slot_with (open_ended m.o).head (length (flat m.o.done)) ∷ l) (sym (append-nil (flat m.o.done))) ∙ sym (flat-joined p.done (alone (open_ended m.o))) in
    let holds : Holds source (set nodes i n') front (new ∷ a.1) = record {
      nodes_are = set_there source nodes places front i m n' ∙ ap (λ (l : List Slot). l ++ slot source n' ∷ flat m.o.done) front-is ∙ append_assoc (slots_of a.1) (open_slot p ∷ flat p.done) (slot source n' ∷ flat m.o.done)
          ∙ ap (λ (l : List Slot). slots_of a.1 ++ open_slot p ∷ l) back ∙ ap (λ (t : List ℕ). slots_of a.1 ++ slot_with (head_with_text t p.head) 0 ∷ flat new.done) (sym (append-nil p.head.text));
      places_are = m.others_are ∙ ap places_of a.2;
    } in
    let new-is = held_is source (set nodes i n') front (new ∷ a.1) holds in
    let name'-is : bytes_eq m.o.head.name name ≡ true = ap (λ (x : List ℕ). bytes_eq x name) (sym q.1) ∙ name-is in
    (rw (m.held_are, a.2, name'-is, g.0) (ap (λ (l : List Open). Some l) (sym new-is.0)), new-is.1)

pub unsettled_fails : (source : List ℕ) (e : XmlError) (nodes : List Node) (places front : List ℕ) (i below : ℕ) (n : Node) (name : List ℕ) → places ≡ front ++ i ∷ [] → AreOpensHeld source nodes places → 0 < length front → n ≡ get_or nodes i n → below ≡ length nodes - i - 1
    → Fails e (open_text below (head_of source n).text) → Fails e (end_element name (held source nodes places))
unsettled_fails source errors.OutOfMemory nodes places front i below n name at h more is below-is fails = tt
unsettled_fails source errors.Malformed nodes places front i below n name at h more is below-is fails = unsettled source nodes places front i below n name at h more is below-is fails

pub is_false : (b : Bool) → true ≡ not b → b ≡ false
is_false true e = absurd cc
is_false false e = refl

pub is_true : (b : Bool) → false ≡ not b → b ≡ true
is_true true e = refl
is_true false e = absurd cc
