-- What holds of each attribute or child holds of those that are kept and read; what is read of them consists of octets that a document may have.
use Rattle.std.proofs.Common.{◌≡◌, ℕ, Bool, true, false, List, [], ◌∷◌, Option, Some, None, cond, refl, subst, IfSome}
use Rattle.std.specs.Prelude.{filter}
use Rattle.std.specs.List.{AllByRecursion}
use Rattle.rpki_common.specs.Chaining.{◌>>=◌}
use Rattle.rpki_common.specs.Items as items
use Rattle.rpki_common.proofs.Truths.{none_some, same_some}
use Rattle.rpki_xml.specs.Element.{Attribute, Head, Elements, none, first, Element, listed}
use Rattle.rpki_xml.specs.Lettered.{AreOctets, IsLetteredAttribute, IsLetteredHead, AreLettered}
use Rattle.rpki_xml.specs.Tables.{is_called, value_of, optional, required, the_child, at_most_one_child, each_of}

-- what is read in steps was read at the first of them
pub then_some : {X Y : Type 0} (a : Option X) (f : X → Option Y) (y : Y) → (a >>= f) ≡ Some y → (x : X) × (a ≡ Some x) × (f x ≡ Some y)
unfolding ◌>>=◌
then_some None f y e = absurd (none_some y e)
then_some (Some x) f y e = (x, refl, e)

-- ---- what holds of each

-- of those that are kept
pub some_holds : {X : Type 0} (P : X → Type 0) (f : X → Bool) (list : List X) → AllByRecursion P list → AllByRecursion P (filter f list)
some_holds P f [] h = tt
some_holds {X} P f (x ∷ list) h = go (f x) (some_holds P f list h.1)
  where
    go : (b : Bool) → AllByRecursion P (filter f list) → AllByRecursion P (cond b (x ∷ filter f list) (filter f list))
    go true g = (h.0, g)
    go false g = g

-- of the one that is there
pub child_holds : (P : Element → Type 0) (children : Elements) (e : Element) → AllByRecursion P (listed children) → the_child children ≡ Some e → P e
child_holds P none e h is = absurd (none_some e is)
child_holds P (first k cs none) e h is = subst P (same_some (record { head = k; children = cs }) e is) h.0
child_holds P (first k cs (first m ds rest)) e h is = absurd (none_some e is)

pub found_holds : (P : Element → Type 0) (children : Elements) (found : Option Element) → AllByRecursion P (listed children) → at_most_one_child children ≡ Some found → IfSome found P
found_holds P none found h is = subst (λ (o : Option Element). IfSome o P) (same_some None found is) tt
found_holds P (first k cs none) found h is = subst (λ (o : Option Element). IfSome o P) (same_some (Some (record { head = k; children = cs })) found is) h.0
found_holds P (first k cs (first m ds rest)) found h is = absurd (none_some found is)

-- of what they are read as
pub each_holds : {X : Type 0} (P : Element → Type 0) (Q : X → Type 0) (f : Element → Option X) → ((e : Element) (x : X) → P e → f e ≡ Some x → Q x)
    → (es : Elements) (xs : List X) → AllByRecursion P (listed es) → each_of f es ≡ Some xs → AllByRecursion Q xs
unfolding each_of
each_holds {X} P Q f h none xs l is = subst (λ (list : List X). AllByRecursion Q list) (same_some [] xs is) tt
each_holds {X} P Q f h (first head children rest) xs l is =
    let e : Element = record { head = head; children = children } in
    let p = then_some (f e) _ xs is in
    let q = then_some (each_of f rest) _ xs p.2 in
    subst (λ (list : List X). AllByRecursion Q list) (same_some (p.0 ∷ q.0) xs q.2) (h e p.0 l.0 p.1, each_holds P Q f h rest q.0 l.1 q.1)

pub last_holds : {X : Type 0} (P : Element → Type 0) (Q : X → Type 0) (f : Element → Option (Option X)) → ((e : Element) (x : Option X) → P e → f e ≡ Some x → IfSome x Q)
    → (list : List Element) (before found : Option X) → AllByRecursion P list → IfSome before Q → items.the_last before f list ≡ Some found → IfSome found Q
unfolding items.the_last
last_holds {X} P Q f h [] before found l b is = subst (λ (o : Option X). IfSome o Q) (same_some before found is) b
last_holds {X} P Q f h (e ∷ list) before found l b is =
    let p = then_some (f e) (λ x. items.the_last x f list) found is in
    last_holds P Q f h list p.0 found l.1 (h e p.0 l.0 p.1) p.2

-- ---- attributes

value_lettered : (list : List Attribute) (text : List ℕ) → AllByRecursion IsLetteredAttribute list → items.the_one value_of list ≡ Some text → AreOctets text
unfolding items.the_one
value_lettered [] text h e = absurd (none_some text e)
value_lettered (a ∷ []) text h e = subst AreOctets (same_some a.value text e) h.0.value
value_lettered (a ∷ b ∷ more) text h e = absurd (none_some text e)

values_lettered : (list : List Attribute) (text : Option (List ℕ)) → AllByRecursion IsLetteredAttribute list → items.at_most_one value_of list ≡ Some text → IfSome text AreOctets
unfolding items.at_most_one ◌>>=◌
values_lettered [] text h e = subst (λ (o : Option (List ℕ)). IfSome o AreOctets) (same_some None text e) tt
values_lettered (a ∷ []) text h e = subst (λ (o : Option (List ℕ)). IfSome o AreOctets) (same_some (Some a.value) text e) h.0.value
values_lettered (a ∷ b ∷ more) text h e = absurd (none_some text e)

pub required_lettered : (local : List ℕ) (h : Head) (text : List ℕ) → IsLetteredHead h → required local h ≡ Some text → AreOctets text
unfolding required
required_lettered local h text l e = value_lettered (filter (is_called local) h.attributes) text (some_holds IsLetteredAttribute (is_called local) h.attributes l.attributes) e

pub optional_lettered : (local : List ℕ) (h : Head) (text : Option (List ℕ)) → IsLetteredHead h → optional local h ≡ Some text → IfSome text AreOctets
unfolding optional
optional_lettered local h text l e = values_lettered (filter (is_called local) h.attributes) text (some_holds IsLetteredAttribute (is_called local) h.attributes l.attributes) e

-- ---- children

abbrev pub AreHeads : List Element → Type 0
AreHeads list = AllByRecursion (λ e. IsLetteredHead e.head) list

pub heads_lettered : (children : Elements) → AreLettered children → AreHeads (listed children)
heads_lettered none l = tt
heads_lettered (first h cs rest) l = (l.0, heads_lettered rest l.1.1)

pub child_lettered : (children : Elements) (e : Element) → AreLettered children → the_child children ≡ Some e → IsLetteredHead e.head
child_lettered children e l is = child_holds (λ x. IsLetteredHead x.head) children e (heads_lettered children l) is
