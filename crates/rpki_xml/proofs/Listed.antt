-- Elements and the list of them.
use Rattle.std.proofs.Common.{◌≡◌, List, [], ◌∷◌, Some, None, refl, ap, ◌∙◌}
use Rattle.rpki_xml.specs.Element.{Elements, none, first, Element, listed}
use Rattle.rpki_xml.specs.Tables.{the_child, at_most_one_child, no_child}

heads : (x y : Element) (xs ys : List Element) → x ∷ xs ≡ y ∷ ys → x ≡ y
heads x y xs ys e = cc

tails : (x y : Element) (xs ys : List Element) → x ∷ xs ≡ y ∷ ys → xs ≡ ys
tails x y xs ys e = cc

nothing : (x : Element) (xs : List Element) → [] ≡ x ∷ xs → ⊥
nothing x xs e = cc

something : (x : Element) (xs : List Element) → x ∷ xs ≡ [] → ⊥
something x xs e = cc

-- a list is that of one row of elements
same_list : (a b : Elements) → listed a ≡ listed b → a ≡ b
same_list none none e = refl
same_list none (first h cs b) e = absurd (nothing (record { head = h; children = cs }) (listed b) e)
same_list (first h cs a) none e = absurd (something (record { head = h; children = cs }) (listed a) e)
same_list (first h cs a) (first k ds b) e =
    let x : Element = record { head = h; children = cs } in
    let y : Element = record { head = k; children = ds } in
    let p = heads x y (listed a) (listed b) e in
    ap (λ (z : Element). first z.head z.children a) p ∙ ap (λ (r : Elements). first k ds r) (same_list a b (tails x y (listed a) (listed b) e))

-- what `next` says, as elements
pub next_is : (es : Elements) (e : Element) (rest : Elements) → listed es ≡ e ∷ listed rest → es ≡ first e.head e.children rest
next_is es e rest h = same_list es (first e.head e.children rest) h

pub next_none : (es : Elements) → listed es ≡ [] → es ≡ none
next_none es h = same_list es none h

-- ---- one element, at most one

pub one_alone : (es : Elements) (e : Element) (rest : Elements) → listed es ≡ e ∷ listed rest → no_child rest ≡ Some tt → the_child es ≡ Some e
one_alone es e none h n = ap the_child (next_is es e none h)
one_alone es e (first k ds r) h n = absurd cc

pub one_beside : (es : Elements) (e : Element) (rest : Elements) → listed es ≡ e ∷ listed rest → no_child rest ≡ None → the_child es ≡ None
one_beside es e none h n = absurd cc
one_beside es e (first k ds r) h n = ap the_child (next_is es e (first k ds r) h)

pub no_one : (es : Elements) → listed es ≡ [] → the_child es ≡ None
no_one es h = ap the_child (next_none es h)

pub most_alone : (es : Elements) (e : Element) (rest : Elements) → listed es ≡ e ∷ listed rest → no_child rest ≡ Some tt → at_most_one_child es ≡ Some (Some e)
most_alone es e none h n = ap at_most_one_child (next_is es e none h)
most_alone es e (first k ds r) h n = absurd cc

pub most_beside : (es : Elements) (e : Element) (rest : Elements) → listed es ≡ e ∷ listed rest → no_child rest ≡ None → at_most_one_child es ≡ None
most_beside es e none h n = absurd cc
most_beside es e (first k ds r) h n = ap at_most_one_child (next_is es e (first k ds r) h)

pub most_none : (es : Elements) → listed es ≡ [] → at_most_one_child es ≡ Some None
most_none es h = ap at_most_one_child (next_none es h)
