-- Attributes of a document that is lent.
use Rattle.std.proofs.Common.{◌≡◌, ℕ, suc, ◌<◌, List, [], ◌∷◌, ◌++◌, length, get_or, drop, Bool, true, false, cond, refl, sym, ap, ◌∙◌}
use Rattle.std.proofs.lemmas.List.{map-append, get_or-map, drop-map}
use Rattle.std.specs.Prelude.{filter}
use Rattle.rpki_xml.specs.declared.kept.Named.{Named}
use Rattle.rpki_xml.specs.Element.{Attribute}
use Rattle.rpki_xml.specs.Kept.{attribute_of, attributes_of}

pub attributes-push : (source : List ℕ) (list : List Named) (a : Named) → attributes_of source (list ++ a ∷ []) ≡ attributes_of source list ++ attribute_of source a ∷ []
attributes-push source list a = map-append (attribute_of source) list (a ∷ [])

pub length-attributes : (source : List ℕ) (list : List Named) → length (attributes_of source list) ≡ length list
length-attributes source [] = refl
length-attributes source (a ∷ list) = ap suc (length-attributes source list)

-- the attribute at a place
pub attribute_at_is : (source : List ℕ) (list : List Named) (i : ℕ) (a : Named) → i < length list → a ≡ get_or list i a → attribute_of source a ≡ get_or (attributes_of source list) i (attribute_of source a)
attribute_at_is source list i a lt is = ap (attribute_of source) is ∙ sym (get_or-map (attribute_of source) list i a (attribute_of source a) lt)

pub attributes-drop : (source : List ℕ) (list : List Named) (i : ℕ) → drop i (attributes_of source list) ≡ attributes_of source (drop i list)
attributes-drop source list i = drop-map (attribute_of source) i list

-- the attributes that a test keeps
pub attributes-filter : (source : List ℕ) (test : Attribute → Bool) (list : List Named) → attributes_of source (filter (λ a. test (attribute_of source a)) list) ≡ filter test (attributes_of source list)
attributes-filter source test [] = refl
attributes-filter source test (a ∷ list) = go (test (attribute_of source a)) (attributes-filter source test list)
  where
    go : (x : Bool) → attributes_of source (filter (λ b. test (attribute_of source b)) list) ≡ filter test (attributes_of source list)
        → attributes_of source (cond x (a ∷ filter (λ b. test (attribute_of source b)) list) (filter (λ b. test (attribute_of source b)) list)) ≡ cond x (attribute_of source a ∷ filter test (attributes_of source list)) (filter test (attributes_of source list))
    go true e = ap (λ (l : List Attribute). attribute_of source a ∷ l) e
    go false e = e
