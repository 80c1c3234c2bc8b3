-- The attribute with a local name, looked for by a loop.
use Rattle.std.proofs.Common.{◌≡◌, ℕ, ◌<◌, ◌≤◌, ◌+◌, length, get_or, drop, Bool, true, false, cond, Option, None, Some, List, [], ◌∷◌, refl, sym, ap, subst, ◌∙◌}
use Rattle.std.proofs.lemmas.List.{drop_more, drop_all}
use Rattle.std.specs.Borrow.{Bor}
use Rattle.std.specs.List.{AllByRecursion}
use Rattle.std.specs.Option.{option_copied}
use Rattle.std.specs.Prelude.{filter, is_some}
use Rattle.rpki_common.specs.Chaining.{◌>>=◌}
use Rattle.rpki_common.specs.Items as items
use Rattle.rpki_xml.specs.Element.{Attribute}
use Rattle.rpki_xml.specs.Lettered.{AreOctets, IsLetteredAttribute}
use Rattle.rpki_xml.specs.Tables.{value_of}

-- what was found, what is left, and the whole list of those with the name
abbrev pub Found : Option (List ℕ) → List Attribute → List Attribute → Type 0
Found None rest total = rest ≡ total
Found (Some value) rest total = (a : Attribute) × (a.value ≡ value) × (a ∷ rest ≡ total)

pub found_other : (test : Attribute → Bool) (found : Option (List ℕ)) (a : Attribute) (rest total : List Attribute) → test a ≡ false → Found found (filter test (a ∷ rest)) total → Found found (filter test rest) total
found_other test None a rest total other h = rw other at h
found_other test (Some value) a rest total other h = (h.0, h.1, rw other at h.2)

pub found_one : (test : Attribute → Bool) (a : Attribute) (rest total : List Attribute) → test a ≡ true → Found None (filter test (a ∷ rest)) total → Found (Some a.value) (filter test rest) total
found_one test a rest total one h = (a, refl, rw one at h)

pub found_two : (test : Attribute → Bool) (value : List ℕ) (a : Attribute) (rest total : List Attribute) → test a ≡ true → Found (Some value) (filter test (a ∷ rest)) total → items.at_most_one value_of total ≡ None
unfolding items.at_most_one
found_two test value a rest total two h = ap (items.at_most_one value_of) (sym (rw two at h.2))

pub found_all : (found : Option (List ℕ)) (total : List Attribute) → Found found [] total → items.at_most_one value_of total ≡ Some found
unfolding items.at_most_one ◌>>=◌
found_all None total h = ap (items.at_most_one value_of) (sym h)
found_all (Some value) total h = ap (items.at_most_one value_of) (sym h.2) ∙ ap (λ (v : List ℕ). Some (Some v)) h.1

-- exactly one
pub the_one_is : (total : List Attribute) (found : Option (List ℕ)) → items.at_most_one value_of total ≡ Some found → items.the_one value_of total ≡ found
unfolding items.at_most_one items.the_one ◌>>=◌
the_one_is [] found e = cc
the_one_is (a ∷ []) found e = cc
the_one_is (a ∷ b ∷ more) found e = absurd cc

pub the_one_fails : (total : List Attribute) → items.at_most_one value_of total ≡ None → items.the_one value_of total ≡ None
unfolding items.at_most_one items.the_one ◌>>=◌
the_one_fails [] e = absurd cc
the_one_fails (a ∷ []) e = absurd cc
the_one_fails (a ∷ b ∷ more) e = refl

-- ---- by index, as a loop goes

found_at : (test : Attribute → Bool) (found : Option (List ℕ)) (list : List Attribute) (i : ℕ) (a : Attribute) (total : List Attribute) → i < length list → a ≡ get_or list i a → Found found (filter test (drop i list)) total → Found found (filter test (a ∷ drop (i + 1) list)) total
found_at test found list i a total lt is h = subst (λ (l : List Attribute). Found found (filter test l) total) (drop_more list i a lt ∙ ap (λ (x : Attribute). x ∷ drop (i + 1) list) (sym is)) h

pub found_twice : (test : Attribute → Bool) (found : Option (Bor (List ℕ))) (list : List Attribute) (i : ℕ) (a : Attribute) (total : List Attribute) → i < length list → a ≡ get_or list i a → is_some found ≡ true → test a ≡ true → Found (option_copied found) (filter test (drop i list)) total → items.at_most_one value_of total ≡ None
found_twice test None list i a total lt is some two h = absurd cc
found_twice test (Some value) list i a total lt is some two h = found_two test value.now a (drop (i + 1) list) total two (found_at test (Some value.now) list i a total lt is h)

pub found_done : (test : Attribute → Bool) (found : Option (List ℕ)) (list : List Attribute) (i : ℕ) (total : List Attribute) → length list ≤ i → Found found (filter test (drop i list)) total → items.at_most_one value_of total ≡ Some found
found_done test found list i total le h = found_all found total (subst (λ (l : List Attribute). Found found (filter test l) total) (drop_all i list le) h)

-- ---- no others

only_at : (test : Attribute → Bool) (list : List Attribute) (i : ℕ) (a : Attribute) (total : Option (Unit {0})) → i < length list → a ≡ get_or list i a → items.only test (drop i list) ≡ total → items.only test (a ∷ drop (i + 1) list) ≡ total
only_at test list i a total lt is h = ap (items.only test) (sym (drop_more list i a lt ∙ ap (λ (x : Attribute). x ∷ drop (i + 1) list) (sym is))) ∙ h

pub only_refused : (test : Attribute → Bool) (list : List Attribute) (i : ℕ) (a : Attribute) (total : Option (Unit {0})) → i < length list → a ≡ get_or list i a → test a ≡ false → items.only test (drop i list) ≡ total → total ≡ None
unfolding items.only
only_refused test list i a total lt is off h = sym (only_at test list i a total lt is h) ∙ rw off refl

pub only_more : (test : Attribute → Bool) (list : List Attribute) (i : ℕ) (a : Attribute) (total : Option (Unit {0})) → i < length list → a ≡ get_or list i a → test a ≡ true → items.only test (drop i list) ≡ total → items.only test (drop (i + 1) list) ≡ total
unfolding items.only
only_more test list i a total lt is on h = sym (rw on refl) ∙ only_at test list i a total lt is h

pub only_done : (test : Attribute → Bool) (list : List Attribute) (i : ℕ) (total : Option (Unit {0})) → length list ≤ i → items.only test (drop i list) ≡ total → total ≡ Some tt
unfolding items.only
only_done test list i total le h = sym h ∙ ap (items.only test) (drop_all i list le)

-- ---- exactly one, and the octets of what was found

chosen_lettered : (test : Attribute → Bool) (list : List Attribute) → AllByRecursion IsLetteredAttribute list → AllByRecursion IsLetteredAttribute (filter test list)
chosen_lettered test [] h = tt
chosen_lettered test (a ∷ list) h = let more = chosen_lettered test list h.1 in go (test a) more
  where
    go : (x : Bool) → AllByRecursion IsLetteredAttribute (filter test list) → AllByRecursion IsLetteredAttribute (cond x (a ∷ filter test list) (filter test list))
    go true more = (h.0, more)
    go false more = more

value_lettered : (list : List Attribute) (value : List ℕ) → AllByRecursion IsLetteredAttribute list → items.at_most_one value_of list ≡ Some (Some value) → AreOctets value
unfolding items.at_most_one ◌>>=◌
value_lettered [] value h e = absurd cc
value_lettered (a ∷ []) value h e = let is : a.value ≡ value = cc in subst AreOctets is h.0.value
value_lettered (a ∷ b ∷ more) value h e = absurd cc

one_lettered : (list : List Attribute) (value : List ℕ) → AllByRecursion IsLetteredAttribute list → items.the_one value_of list ≡ Some value → AreOctets value
unfolding items.the_one
one_lettered [] value h e = absurd cc
one_lettered (a ∷ []) value h e = let is : a.value ≡ value = cc in subst AreOctets is h.0.value
one_lettered (a ∷ b ∷ more) value h e = absurd cc

pub optional_octets : (test : Attribute → Bool) (list : List Attribute) (value : List ℕ) → AllByRecursion IsLetteredAttribute list
    → items.at_most_one value_of (filter test list) ≡ Some (Some value) → AreOctets value
optional_octets test list value h e = value_lettered (filter test list) value (chosen_lettered test list h) e

pub required_octets : (test : Attribute → Bool) (list : List Attribute) (value : List ℕ) → AllByRecursion IsLetteredAttribute list
    → items.the_one value_of (filter test list) ≡ Some value → AreOctets value
required_octets test list value h e = one_lettered (filter test list) value (chosen_lettered test list h) e
