-- Elements as a flat list, each with the number of elements below it.
use Rattle.std.specs.Prelude.{◌≡◌, ℕ, zero, suc, ◌≤◌, List, [], ◌∷◌, ◌++◌, length, take, drop, Option}
use Rattle.std.specs.Coded.{Coded, code_by, coded×, coded_ℕ, coded_list, coded_option}
use Rattle.std.proofs.Common.{refl, ap, ◌∙◌, arith}
use Rattle.std.proofs.lemmas.List.{take_at, drop_at, length-append}
use Rattle.rpki_xml.specs.Element.{Attribute, Head, Elements, none, first, Element}

-- an element's head, and how many elements are below it
pub record Slot : Type 0 where
  pub head : Head
  pub below : ℕ

-- the elements in the order of their starts
abbrev pub flat : Elements → List Slot
flat none = []
flat (first head children rest) =
    record { head = head; below = length (flat children) } ∷ (flat children ++ flat rest)

-- the elements that the slots stand for, of which at most n are looked at
abbrev pub tree_at : ℕ → List Slot → Elements
tree_at zero slots = none
tree_at (suc n) [] = none
tree_at (suc n) (s ∷ slots) =
    first s.head (tree_at n (take s.below slots)) (tree_at n (drop s.below slots))

-- the elements that a flat list stands for
unfoldable pub tree_of : List Slot → Elements
tree_of slots = tree_at (length slots) slots

-- the slots are the flat list of some elements
abbrev pub IsFlat : List Slot → Type 0
IsFlat slots = flat (tree_of slots) ≡ slots

tree_at-flat : (es : Elements) (n : ℕ) → length (flat es) ≤ n → tree_at n (flat es) ≡ es
tree_at-flat none zero le = refl
tree_at-flat none (suc n) le = refl
tree_at-flat (first h cs rest) zero le = absurd (omega arith)
tree_at-flat (first h cs rest) (suc n) le =
    let sum = length-append (flat cs) (flat rest) in
    let behind = drop (length (flat cs)) (flat cs ++ flat rest) in
    ap (λ (s : List Slot). first h (tree_at n s) (tree_at n behind))
    (take_at (flat cs) (flat rest) (length (flat cs)) refl)
    ∙ ap (λ (s : List Slot). first h (tree_at n (flat cs)) (tree_at n s))
    (drop_at (flat cs) (flat rest) (length (flat cs)) refl)
    ∙ ap (λ (c : Elements). first h c (tree_at n (flat rest))) (tree_at-flat cs n (omega arith))
    ∙ ap (first h cs) (tree_at-flat rest n (omega arith))

pub tree_of-flat : (es : Elements) → tree_of (flat es) ≡ es
unfolding tree_of
tree_of-flat es = tree_at-flat es (length (flat es)) (omega arith)

-- how a value is stored where a proof keeps it
abbrev attribute_code : Coded Attribute
attribute_code =
    code_by (List ℕ × List ℕ) (coded× (coded_list coded_ℕ) (coded_list coded_ℕ))
    (λ a. (a.name, a.value)) (λ p. record { name = p.0; value = p.1 }) (λ _. refl)

-- how attributes are stored where a proof keeps them
abbrev pub attributes_code : Coded (List Attribute)
attributes_code = coded_list attribute_code

-- name, namespace, attributes and text of a head
abbrev pub HeadParts : Type 0
HeadParts = (List ℕ × Option (List ℕ)) × (List Attribute × List ℕ)

-- how a head is stored where a proof keeps it
abbrev head_code : Coded Head
head_code =
    code_by HeadParts
    (coded× (coded× (coded_list coded_ℕ) (coded_option (coded_list coded_ℕ)))
    (coded× (coded_list attribute_code) (coded_list coded_ℕ)))
    (λ h. ((h.name, h.namespace), (h.attributes, h.text)))
    (λ p. record { name = p.0.0; namespace = p.0.1; attributes = p.1.0; text = p.1.1 })
    (λ _. refl)

-- how a slot is stored where a proof keeps it
abbrev slot_code : Coded Slot
slot_code =
    code_by (Head × ℕ) (coded× head_code coded_ℕ) (λ s. (s.head, s.below))
    (λ p. record { head = p.0; below = p.1 }) (λ _. refl)

-- how elements are stored where a proof keeps them: as their flat list
abbrev pub elements_code : Coded Elements
elements_code = code_by (List Slot) (coded_list slot_code) flat tree_of tree_of-flat

-- how an element is stored where a proof keeps it
abbrev pub element_code : Coded Element
element_code =
    code_by (Head × Elements) (coded× head_code elements_code) (λ e. (e.head, e.children))
    (λ p. record { head = p.0; children = p.1 }) (λ _. refl)
