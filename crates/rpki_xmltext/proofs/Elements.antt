-- What elements are spelled as, in the parts that they are written in; elements that are printed one after the other.
use Rattle.std.proofs.Common.{◌≡◌, ℕ, Bool, true, false, List, [], ◌∷◌, ◌++◌, length, refl, sym, ap, ◌∙◌, append_assoc}
use Rattle.std.specs.Prelude.{◌==◌, ◌&&◌}
use Rattle.std.proofs.lemmas.Bool.{eqb-true}
use Rattle.std.proofs.lemmas.List.{append-nil, nil_from_length}
use Rattle.rpki_xml.specs.Element.{Attribute, Element, elements_of, is_nil, is_none}
use Rattle.rpki_xml.specs.Spelling.{spelled, spelled_all, spelled_attributes, spelled_start, spelled_inside, spelled_text}
use Rattle.rpki_xmltext.specs.Inside.{text_inside}
use Rattle.rpki_xmltext.specs.Parts.{leaf}

-- ---- one element

pub leaf_parts : (n attributes inside : List ℕ) → (60 ∷ (n ++ ([] ++ attributes)) ++ inside) ++ [] ≡ 60 ∷ (n ++ (attributes ++ inside))
leaf_parts n attributes inside = append-nil (60 ∷ (n ++ attributes) ++ inside) ∙ ap (λ (l : List ℕ). 60 ∷ l) (append_assoc n attributes inside)

pub leaf_spelled : (n : List ℕ) (attributes : List Attribute) (text : List ℕ) → spelled (leaf n attributes text) ≡ 60 ∷ (n ++ (spelled_attributes attributes ++ text_inside n text))
leaf_spelled n attributes text = leaf_parts n (spelled_attributes attributes) (text_inside n text)

pub two : (a b inside : List ℕ) → a ++ (b ++ inside) ≡ (a ++ (b ++ [])) ++ inside
two a b inside = sym (append_assoc a (b ++ []) inside ∙ ap (λ (l : List ℕ). a ++ l) (append_assoc b [] inside))

pub three : (a b c inside : List ℕ) → a ++ (b ++ (c ++ inside)) ≡ (a ++ (b ++ (c ++ []))) ++ inside
three a b c inside = sym (append_assoc a (b ++ (c ++ [])) inside ∙ ap (λ (l : List ℕ). a ++ l) (sym (two b c inside)))

-- ---- one after the other

-- what one element is spelled as where more follow
abbrev pub whole_text : Element → List ℕ
whole_text e = spelled_start e.head ++ spelled_inside (is_nil e.head.text && is_none e.children) e.head.name (spelled_text e.head.text ++ spelled_all e.children)

-- one more is printed
pub loop_step : {X : Type 0} (f : X → Element) (list more : List X) (x : X) (front all : List ℕ) → list ≡ x ∷ more
    → front ++ spelled_all (elements_of f list) ≡ all → (front ++ spelled (f x)) ++ spelled_all (elements_of f more) ≡ all
loop_step {X} f list more x front all is so_far =
    let rest = spelled_all (elements_of f more) in
    append_assoc front (spelled (f x)) rest
    ∙ ap (λ (l : List ℕ). front ++ (l ++ rest)) (append-nil (whole_text (f x)))
    ∙ ap (λ (l : List X). front ++ spelled_all (elements_of f l)) (sym is)
    ∙ so_far

pub loop_done : {X : Type 0} (f : X → Element) (list : List X) (front all : List ℕ) → list ≡ [] → front ++ spelled_all (elements_of f list) ≡ all → front ≡ all
loop_done {X} f list front all is so_far = sym (append-nil front) ∙ ap (λ (l : List X). front ++ spelled_all (elements_of f l)) (sym is) ∙ so_far

-- ---- whether there is none

pub not_zero : {X : Type 0} (x : X) (list : List X) (b : Bool) → (length (x ∷ list) == 0) ≡ b → b ≡ false
not_zero x list false e = refl
not_zero x list true e = let none = nil_from_length (x ∷ list) (eqb-true (length (x ∷ list)) 0 e) in absurd cc

pub none_is : {X : Type 0} (f : X → Element) (list : List X) → (length list == 0) ≡ is_none (elements_of f list)
none_is f [] = refl
none_is f (x ∷ list) = not_zero x list (length (x ∷ list) == 0) refl
