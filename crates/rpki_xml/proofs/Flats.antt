-- The first element of a flat list, the elements below it and those after it.
use Rattle.std.proofs.Common.{◌≡◌, ℕ, suc, ◌≤◌, List, [], ◌∷◌, ◌++◌, length, take, drop, refl, sym, ap, subst, ◌∙◌, arith}
use Rattle.std.proofs.lemmas.List.{take_at, drop_at, length-append, take-map, drop-map}
use Rattle.rpki_xml.specs.declared.element.Node.{Node}
use Rattle.rpki_xml.specs.Element.{Head, Elements, none, first}
use Rattle.rpki_xml.specs.Nodes.{Slot, flat, tree_of, tree_of-flat, IsFlat}
use Rattle.rpki_xml.specs.Views.{head_of, slots}

pub record Splits (source : List ℕ) (nodes : List Node) (n : Node) (rest : List Node) : Type 0 where
  pub fits : n.below ≤ length rest
  pub below : IsFlat (slots source (take n.below rest))
  pub after : IsFlat (slots source (drop n.below rest))
  pub tree : tree_of (slots source nodes) ≡ first (head_of source n) (tree_of (slots source (take n.below rest))) (tree_of (slots source (drop n.below rest)))

-- a flat list is that of its tree
flat_is_flat : (es : Elements) (list : List Slot) → list ≡ flat es → (tree_of list ≡ es) × IsFlat list
flat_is_flat es list e =
    let t : tree_of list ≡ es = ap tree_of e ∙ tree_of-flat es in
    (t, ap flat t ∙ sym e)

length-slots : (source : List ℕ) (nodes : List Node) → length (slots source nodes) ≡ length nodes
length-slots source [] = refl
length-slots source (n ∷ nodes) = ap suc (length-slots source nodes)

heads : (x y : Slot) (xs ys : List Slot) → x ∷ xs ≡ y ∷ ys → (x ≡ y) × (xs ≡ ys)
heads x y xs ys e = (cc, cc)

splits_at : (source : List ℕ) (es : Elements) (n : Node) (rest : List Node) → flat es ≡ slots source (n ∷ rest) → Splits source (n ∷ rest) n rest
splits_at source none n rest e = absurd cc
splits_at source (first h cs rs) n rest e =
    let parts = heads (record { head = h; below = length (flat cs) }) (record { head = head_of source n; below = n.below }) (flat cs ++ flat rs) (slots source rest) e in
    let head-is : h ≡ head_of source n = ap (λ (s : Slot). s.head) parts.0 in
    let below-is : length (flat cs) ≡ n.below = ap (λ (s : Slot). s.below) parts.0 in
    let rest-is : flat cs ++ flat rs ≡ slots source rest = parts.1 in
    let cut : slots source (take n.below rest) ≡ flat cs = sym (take-map (λ n. record { head = head_of source n; below = n.below }) n.below rest) ∙ ap (take n.below) (sym rest-is) ∙ take_at (flat cs) (flat rs) n.below below-is in
    let left : slots source (drop n.below rest) ≡ flat rs = sym (drop-map (λ n. record { head = head_of source n; below = n.below }) n.below rest) ∙ ap (drop n.below) (sym rest-is) ∙ drop_at (flat cs) (flat rs) n.below below-is in
    let a = flat_is_flat cs (slots source (take n.below rest)) cut in
    let b = flat_is_flat rs (slots source (drop n.below rest)) left in
    let whole = flat_is_flat (first h cs rs) (slots source (n ∷ rest)) (sym e) in
    record {
      fits = omega (arith, length-append (flat cs) (flat rs), ap length rest-is, length-slots source rest);
      below = a.1;
      after = b.1;
      tree = whole.0 ∙ ap (λ (x : Head). first x cs rs) head-is ∙ ap (λ (x : Elements). first (head_of source n) x rs) (sym a.0) ∙ ap (λ (x : Elements). first (head_of source n) (tree_of (slots source (take n.below rest))) x) (sym b.0);
    }

pub splits : (source : List ℕ) (nodes : List Node) (n : Node) (rest : List Node) → nodes ≡ n ∷ rest → IsFlat (slots source nodes) → Splits source nodes n rest
splits source nodes n rest e flat_nodes =
    subst (λ (x : List Node). Splits source x n rest) (sym e) (splits_at source (tree_of (slots source (n ∷ rest))) n rest (subst (λ (x : List Node). IsFlat (slots source x)) e flat_nodes))

pub no_nodes : (source : List ℕ) (nodes : List Node) → length nodes ≡ 0 → tree_of (slots source nodes) ≡ none
unfolding tree_of
no_nodes source [] e = refl
no_nodes source (n ∷ nodes) e = absurd (omega arith)
