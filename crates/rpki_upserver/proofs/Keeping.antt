-- Lists that grow in two steps.
use Rattle.std.proofs.Common.{◌≡◌, ◌<◌, ℕ, Option, None, Some, List, [], ◌∷◌, ◌++◌, length, set, take, drop, suc, add-one, sym, ap, subst, ◌∙◌, arith}
use Rattle.std.specs.Global.{Vec}
use Rattle.std.specs.Vec.{with_item}
use Rattle.std.proofs.lemmas.List.{drop-set, take-append-drop, take-set}
use Rattle.rpki_upserver.specs.Kept.{KeptItems, kept_items}

set_there : {X : Type 0} (xs : List X) (i : ℕ) (x : X) → i < length xs → set xs i x ≡ take i xs ++ x ∷ drop (suc i) xs
set_there {X = X} xs i x lt =
    sym (take-append-drop i (set xs i x)) ∙ ap (λ (l : List X). l ++ drop i (set xs i x)) (take-set xs i x) ∙ ap (λ (l : List X). take i xs ++ l) (drop-set xs i x lt)
    ∙ ap (λ (n : ℕ). take i xs ++ x ∷ drop n xs) (add-one i)

pub replaced : {T : Type 0} (before : Option (Vec T)) (items : Vec T) (now : KeptItems T) (place : ℕ) (item : T) → before ≡ Some items → kept_items before ≡ now → place < length now.items
    → (kept_items (Some (with_item items place item))).items ≡ take place now.items ++ item ∷ drop (suc place) now.items
replaced {T = T} before items now place item is view lt =
    let same : items.items ≡ now.items = ap (λ (k : KeptItems T). k.items) (sym (ap kept_items is) ∙ view) in
    subst (λ (l : List T). set items.items place item ≡ take place l ++ item ∷ drop (suc place) l) same
    (set_there items.items place item (subst (λ (l : List T). place < length l) (sym same) lt))

-- without items there is no place
pub not_among : {T : Type 0} (before : Option (Vec T)) (now : KeptItems T) (place : ℕ) → before ≡ None → kept_items before ≡ now → place < length now.items → ⊥
not_among {T = T} before now place is view lt =
    let same : now.items ≡ [] = ap (λ (k : KeptItems T). k.items) (sym view ∙ ap kept_items is) in
    let below : place < 0 = subst (λ (l : List T). place < length l) same lt in
    omega (arith, below)
