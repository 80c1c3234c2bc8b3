-- The calls for an element write its spelling.
use Rattle.std.proofs.Common.{◌≡◌, ℕ, ◌<◌, ◌+◌, length, get_or, take, map, List, [], ◌∷◌, ◌++◌, ◌&&◌, true, false, Option, Some, None, refl, sym, ap, ◌∙◌, append_assoc}
use Rattle.std.proofs.lemmas.List.{append-nil, map_more}
use Rattle.std.specs.Prelude.{codes}
use Rattle.rpki_xml.specs.Element.{Attribute, Head, Elements, none, first, Element, alone, joined_elements, elements_of, is_nil, is_none}
use Rattle.rpki_xml.specs.Spelling.{spelled_text, spelled_attribute, spelled_attributes, spelled_namespace, spelled_start, spelled_inside, spelled_end, spelled_all, spelled}
use Rattle.rpki_xml.specs.Draft.{Draft, empty_draft, settled, with_inside, opened, with_attribute, with_attributes, with_namespace, with_text, closed, with_elements, with_element, with_start, written}

joined-none : (es : Elements) → joined_elements es none ≡ es
joined-none none = refl
joined-none (first h cs rest) = ap (first h cs) (joined-none rest)

-- a draft in the start of an element, whose octets end in `more`
abbrev started : List ℕ → List ℕ → List (List ℕ) → Draft
started octets more names = record { octets = octets ++ more; open_names = names; in_start = true }

attributes : (list : List Attribute) (octets more : List ℕ) (names : List (List ℕ)) → with_attributes list (started octets more names) ≡ started octets (more ++ spelled_attributes list) names
unfolding with_attribute
attributes [] octets more names = ap (λ (m : List ℕ). started octets m names) (sym (append-nil more))
attributes (a ∷ list) octets more names =
    ap (λ (o : List ℕ). with_attributes list (record { octets = o; open_names = names; in_start = true })) (append_assoc octets more (spelled_attribute a.name a.value))
    ∙ attributes list octets (more ++ spelled_attribute a.name a.value) names
    ∙ ap (λ (m : List ℕ). started octets m names) (append_assoc more (spelled_attribute a.name a.value) (spelled_attributes list))

-- attributes that follow each other
pub attributes_follow : (front back : List Attribute) (d : Draft) → with_attributes back (with_attributes front d) ≡ with_attributes (front ++ back) d
attributes_follow [] back d = refl
attributes_follow (a ∷ front) back d = attributes_follow front back (with_attribute a.name a.value d)

namespace : (uri : Option (List ℕ)) (octets more : List ℕ) (names : List (List ℕ)) → with_namespace uri (started octets more names) ≡ started octets (more ++ spelled_namespace uri) names
unfolding with_attribute
namespace None octets more names = ap (λ (m : List ℕ). started octets m names) (sym (append-nil more))
namespace (Some u) octets more names = ap (λ (o : List ℕ). record { octets = o; open_names = names; in_start = true }) (append_assoc octets more (spelled_attribute (codes "xmlns") u))

abbrev settled_draft : List (List ℕ) → List ℕ → Draft
settled_draft names octets = record { octets = octets; open_names = names; in_start = false }

no_inside : (o m e : List ℕ) → (o ++ m) ++ e ≡ o ++ ((m ++ e) ++ [])
no_inside o m e = simp (append_assoc, append-nil)

one_inside : (o m i e : List ℕ) → (((o ++ m) ++ 62 ∷ []) ++ i) ++ e ≡ o ++ ((m ++ 62 ∷ (i ++ e)) ++ [])
one_inside o m i e = simp (append_assoc, append-nil)

two_inside : (o m i j e : List ℕ) → ((((o ++ m) ++ 62 ∷ []) ++ i) ++ j) ++ e ≡ o ++ ((m ++ 62 ∷ ((i ++ j) ++ e)) ++ [])
two_inside o m i j e = simp (append_assoc, append-nil)

-- what stands inside, and the end
inside : (octets more : List ℕ) (name : List ℕ) (names : List (List ℕ)) (text : List ℕ) (children : Elements)
    → closed (with_elements children (with_text text (started octets more (name ∷ names)))) ≡ record { octets = octets ++ ((more ++ spelled_inside (is_nil text && is_none children) name (spelled_text text ++ spelled_all children)) ++ []); open_names = names; in_start = false }
unfolding closed with_inside with_elements spelled_text
inside octets more name names [] none = ap (settled_draft names) (no_inside octets more (47 ∷ 62 ∷ []))
inside octets more name names [] (first h cs rest) = ap (settled_draft names) (one_inside octets more (spelled_all (first h cs rest)) (spelled_end name))
inside octets more name names (c ∷ text) none = ap (settled_draft names) (one_inside octets more (spelled_text (c ∷ text)) (spelled_end name) ∙ ap (λ (i : List ℕ). octets ++ ((more ++ 62 ∷ (i ++ spelled_end name)) ++ [])) (sym (append-nil (spelled_text (c ∷ text)))))
inside octets more name names (c ∷ text) (first h cs rest) = ap (settled_draft names) (two_inside octets more (spelled_text (c ∷ text)) (spelled_all (first h cs rest)) (spelled_end name))

-- the calls for an element write its spelling
pub written_is : (e : Element) (d : Draft) → written e d ≡ with_element e d
unfolding opened with_inside with_elements
written_is e d =
    let start = 60 ∷ e.head.name in
    let octets = settled d.in_start d.octets in
    let names = e.head.name ∷ d.open_names in
    ap (λ (x : Draft). closed (with_elements e.children (with_text e.head.text (with_attributes e.head.attributes x)))) (namespace e.head.namespace octets start names)
    ∙ ap (λ (x : Draft). closed (with_elements e.children (with_text e.head.text x))) (attributes e.head.attributes octets (start ++ spelled_namespace e.head.namespace) names)
    ∙ inside octets ((start ++ spelled_namespace e.head.namespace) ++ spelled_attributes e.head.attributes) e.head.name d.open_names e.head.text e.children
    ∙ ap (λ (s : List ℕ). settled_draft d.open_names (octets ++ ((s ++ spelled_inside (is_nil e.head.text && is_none e.children) e.head.name (spelled_text e.head.text ++ spelled_all e.children)) ++ []))) (append_assoc start (spelled_namespace e.head.namespace) (spelled_attributes e.head.attributes))

-- what elements that follow each other are spelled as
pub spelled_all-joined : (front back : Elements) → spelled_all (joined_elements front back) ≡ spelled_all front ++ spelled_all back
spelled_all-joined none back = refl
spelled_all-joined (first h cs rest) back =
    let one = spelled_start h ++ spelled_inside (is_nil h.text && is_none cs) h.name (spelled_text h.text ++ spelled_all cs) in
    ap (λ (s : List ℕ). one ++ s) (spelled_all-joined rest back) ∙ sym (append_assoc one (spelled_all rest) (spelled_all back))

two_insides : (i j : List ℕ) (d : Draft) → with_inside j (with_inside i d) ≡ with_inside (i ++ j) d
unfolding with_inside
two_insides i j d = ap (settled_draft d.open_names) (append_assoc (settled d.in_start d.octets) i j)

-- elements after elements are the elements that follow each other
pub with_elements-joined : (front back : Elements) (d : Draft) → with_elements back (with_elements front d) ≡ with_elements (joined_elements front back) d
unfolding with_elements
with_elements-joined none back d = refl
with_elements-joined (first h cs rest) none d = ap (λ (es : Elements). with_elements (first h cs es) d) (sym (joined-none rest))
with_elements-joined (first h cs rest) (first h' cs' rest') d =
    two_insides (spelled_all (first h cs rest)) (spelled_all (first h' cs' rest')) d ∙ ap (λ (s : List ℕ). with_inside s d) (sym (spelled_all-joined (first h cs rest) (first h' cs' rest')))

-- one more of the elements that a list gives
pub elements_of-push : {X : Type 0} (f : X → Element) (xs : List X) (x : X) → elements_of f (xs ++ x ∷ []) ≡ joined_elements (elements_of f xs) (alone (f x))
elements_of-push f [] x = refl
elements_of-push f (y ∷ xs) x = ap (first (f y).head (f y).children) (elements_of-push f xs x)

-- a step of a loop that writes one element for each item
pub element_more : {X : Type 0} (f : X → Element) (xs : List X) (x : X) (d : Draft) → with_element (f x) (with_elements (elements_of f xs) d) ≡ with_elements (elements_of f (xs ++ x ∷ [])) d
element_more f xs x d = with_elements-joined (elements_of f xs) (alone (f x)) d ∙ ap (λ (es : Elements). with_elements es d) (sym (elements_of-push f xs x))

pub no_elements : (d : Draft) → with_elements none d ≡ d
unfolding with_elements
no_elements d = refl

-- ---- the calls, by what is inside

pub leaf_written : (h : Head) (d : Draft) → is_nil h.text ≡ true → closed (with_start h d) ≡ with_element (record { head = h; children = none }) d
leaf_written h d empty =
    ap (λ (x : Draft). closed x) (sym (no_elements (with_start h d))) ∙ ap (λ (x : Draft). closed (with_elements none x)) (no_text h.text (with_start h d) empty) ∙ written_is (record { head = h; children = none }) d
  where
    no_text : (text : List ℕ) (x : Draft) → is_nil text ≡ true → x ≡ with_text text x
    no_text [] x e = refl
    no_text (c ∷ text) x e = absurd cc

pub text_written : (h : Head) (d : Draft) → closed (with_text h.text (with_start h d)) ≡ with_element (record { head = h; children = none }) d
text_written h d = ap (λ (x : Draft). closed x) (sym (no_elements (with_text h.text (with_start h d)))) ∙ written_is (record { head = h; children = none }) d

pub children_written : (h : Head) (children : Elements) (d : Draft) → is_nil h.text ≡ true → closed (with_elements children (with_start h d)) ≡ with_element (record { head = h; children = children }) d
children_written h children d empty = ap (λ (x : Draft). closed (with_elements children x)) (no_text h.text (with_start h d) empty) ∙ written_is (record { head = h; children = children }) d
  where
    no_text : (text : List ℕ) (x : Draft) → is_nil text ≡ true → x ≡ with_text text x
    no_text [] x e = refl
    no_text (c ∷ text) x e = absurd cc

-- what is done is the spelling
pub done_is : (e : Element) (d : Draft) → d ≡ with_element e empty_draft → d.octets ≡ spelled e
unfolding with_elements with_inside
done_is e d is = ap (λ (x : Draft). x.octets) is

-- the step of a loop that writes an element for each item of a slice
pub loop_more : {N X : Type 0} (f : X → Element) (g : N → X) (items : List N) (i : ℕ) (item : N) (before after d : Draft) → i < length items → item ≡ get_or items i item → before ≡ with_elements (elements_of f (map g (take i items))) d
    → after ≡ with_element (f (g item)) before → after ≡ with_elements (elements_of f (map g (take (i + 1) items))) d
loop_more {N} {X} f g items i item before after d lt is so_far step =
    let more : map g (take (i + 1) items) ≡ map g (take i items) ++ g item ∷ [] = map_more g items i item lt ∙ ap (λ (x : N). map g (take i items) ++ g x ∷ []) (sym is) in
    step ∙ ap (with_element (f (g item))) so_far ∙ element_more f (map g (take i items)) (g item) d ∙ ap (λ (xs : List X). with_elements (elements_of f xs) d) (sym more)
