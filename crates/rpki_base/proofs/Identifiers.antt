-- Algorithm identifiers, read as one or two primitive values.
use Rattle.std.proofs.Common.{◌≡◌, ℕ, Bool, true, false, Option, None, Some, List, [], ◌∷◌, refl, sym, ap, ◌∙◌}
use Rattle.std.specs.Prelude.{if◌then◌else◌, is_some}
use Rattle.rpki_common.specs.Chaining.{◌>>=◌}
use Rattle.rpki_der.specs.declared.mode.Mode.{Mode}
use Rattle.rpki_der.specs.Identifier.{has_tag, tag_of}
use Rattle.rpki_der.specs.Tags.{sequence, null_tag, oid_tag}
use Rattle.rpki_der.specs.Value.{Value, Primitive, Constructed, Values, End, ◌▸◌}
use Rattle.rpki_der.specs.Grammar.{within, first, optional, done, so}
use Rattle.rpki_der.specs.Leaf.{LeafFields, leaf, further, one_or_two}
use Rattle.rpki_der.specs.Oid.{subidentifiers, oid}
use Rattle.rpki_der.specs.Null.{null}
use Rattle.rpki_der.specs.Whole.{alone, whole_of}
use Rattle.rpki_base.specs.AlgorithmIdentifier.{algorithm_identifier}
use Rattle.rpki_base.specs.WritingLaws.{bound_by, whole_so}
use Rattle.rpki_base.specs.Leaves.{oid_contents, oid_leaf, null_leaf, identifier_leaves}

-- ---- the fields of an algorithm identifier, and those of one or two primitive values

-- what stands behind the object identifier, as it was taken
abbrev ended : List ℕ → Option (Option (Unit {0}) × Values) → Option (List ℕ × Bool)
ended name o = o >>= λ parameter. done (name, is_some parameter.0) parameter.1

abbrev behind_name : List ℕ × Values → Option (List ℕ × Bool)
behind_name name = ended name.0 (optional null_tag null name.1)

abbrev named : Values → Option (List ℕ × Bool)
named vs = first oid vs >>= behind_name

abbrev paired : Values → Option (LeafFields × Option LeafFields)
paired vs = first leaf vs >>= λ a. further leaf a.1 >>= λ b. done (a.0, b.0) b.1

abbrev with_parameter : Option Bool → List ℕ → Option (List ℕ × Bool)
with_parameter o name = o >>= λ p. Some (name, p)

behind_found : (s : Option (List ℕ)) (vs : Values) (o : Option Bool) → ((n : List ℕ) → behind_name (n, vs) ≡ with_parameter o n) → ((s >>= λ x. Some (x, vs)) >>= behind_name) ≡ (s >>= with_parameter o)
unfolding ◌>>=◌
behind_found None vs o h = refl
behind_found (Some n) vs o h = h n

behind_none : (s : Option (List ℕ)) (vs : Values) → ((n : List ℕ) → behind_name (n, vs) ≡ None) → ((s >>= λ x. Some (x, vs)) >>= behind_name) ≡ None
unfolding ◌>>=◌
behind_none None vs h = refl
behind_none (Some n) vs h = h n

as_leaf : (b : Bool) (c : List ℕ) → ((if b then Some c else None) >>= subidentifiers) ≡ (if b then subidentifiers c else None)
unfolding ◌>>=◌
as_leaf true c = refl
as_leaf false c = refl

found_first : (i l c : List ℕ) (vs : Values) (o : Option Bool) → ((n : List ℕ) → behind_name (n, vs) ≡ with_parameter o n) → named (Primitive i l c ▸ vs) ≡ (oid_contents (tag_of i) c >>= with_parameter o)
unfolding first oid so
found_first i l c vs o h = behind_found (oid (Primitive i l c)) vs o h ∙ ap (λ s. s >>= with_parameter o) (as_leaf (has_tag oid_tag i) c)

none_first : (i l c : List ℕ) (vs : Values) → ((n : List ℕ) → behind_name (n, vs) ≡ None) → named (Primitive i l c ▸ vs) ≡ None
unfolding first
none_first i l c vs h = behind_none (oid (Primitive i l c)) vs h

-- a value that isn't NULL, and values that are too many
not_null : (b : Bool) (n : List ℕ) (v : Value) (vs : Values) → ended n (if b then None else Some (None, v ▸ vs)) ≡ None
unfolding done ◌>>=◌
not_null true n v vs = refl
not_null false n v vs = refl

too_many : (b : Bool) (x : Option (Unit {0})) (n : List ℕ) (v w : Value) (vs : Values) → ended n (if b then (x >>= λ u. Some (Some u, w ▸ vs)) else Some (None, v ▸ w ▸ vs)) ≡ None
unfolding done ◌>>=◌
too_many true None n v w vs = refl
too_many true (Some u) n v w vs = refl
too_many false x n v w vs = refl

only_null : (b : Bool) (n : List ℕ) (v : Value) → ended n (if b then ((if b then Some tt else None) >>= λ u. Some (Some u, End)) else Some (None, v ▸ End)) ≡ with_parameter (if b then Some true else None) n
unfolding done ◌>>=◌
only_null true n v = refl
only_null false n v = refl

only_other : (b : Bool) (n : List ℕ) (v : Value) → ended n (if b then None else Some (None, v ▸ End)) ≡ with_parameter (if b then None else None) n
unfolding done ◌>>=◌
only_other true n v = refl
only_other false n v = refl

leaves_are : (vs : Values) → named vs ≡ (paired vs >>= identifier_leaves)
unfolding first optional done further null so oid ◌>>=◌
leaves_are End = refl
leaves_are (Constructed i f inner ▸ vs) = refl
leaves_are (Primitive i l c ▸ End) = found_first i l c End (Some false) (λ n. refl)
leaves_are (Primitive i l c ▸ Constructed j f inner ▸ vs) = none_first i l c (Constructed j f inner ▸ vs) (λ n. not_null (has_tag null_tag j) n (Constructed j f inner) vs)
leaves_are (Primitive i l c ▸ Primitive j m [] ▸ End) = found_first i l c (Primitive j m [] ▸ End) (null_leaf (Some (record { tag = tag_of j; content = [] }))) (λ n. only_null (has_tag null_tag j) n (Primitive j m []))
leaves_are (Primitive i l c ▸ Primitive j m (a ∷ d) ▸ End) = found_first i l c (Primitive j m (a ∷ d) ▸ End) (null_leaf (Some (record { tag = tag_of j; content = a ∷ d }))) (λ n. only_other (has_tag null_tag j) n (Primitive j m (a ∷ d)))
leaves_are (Primitive i l c ▸ Primitive j m d ▸ w ▸ vs) = none_first i l c (Primitive j m d ▸ w ▸ vs) (λ n. too_many (has_tag null_tag j) (null (Primitive j m d)) n (Primitive j m d) w vs)

-- ---- the whole value

inside : (b : Bool) (vs : Values) → (if b then named vs else None) ≡ ((if b then paired vs else None) >>= identifier_leaves)
unfolding ◌>>=◌
inside true vs = leaves_are vs
inside false vs = refl

pub by_leaves : (v : Value) → algorithm_identifier v ≡ (one_or_two v >>= identifier_leaves)
unfolding algorithm_identifier one_or_two within ◌>>=◌
by_leaves (Primitive i l c) = refl
by_leaves (Constructed i f vs) = inside (has_tag sequence i) vs

pub whole_by_leaves : (mode : Mode) (octets : List ℕ) → whole_of algorithm_identifier mode octets ≡ (whole_of one_or_two mode octets >>= identifier_leaves)
unfolding whole_of
whole_by_leaves mode octets = bound_by (alone mode octets) one_or_two identifier_leaves algorithm_identifier by_leaves

-- ---- what each step of the reader that takes no memory finds

pub no_pair : (mode : Mode) (octets : List ℕ) → None ≡ whole_of one_or_two mode octets → None ≡ whole_of algorithm_identifier mode octets
unfolding ◌>>=◌
no_pair mode octets e = sym (whole_by_leaves mode octets ∙ ap (λ o. o >>= identifier_leaves) (sym e))

with_pair : (mode : Mode) (octets : List ℕ) (name : LeafFields) (parameter : Option LeafFields) → Some (name, parameter) ≡ whole_of one_or_two mode octets → whole_of algorithm_identifier mode octets ≡ identifier_leaves (name, parameter)
unfolding ◌>>=◌
with_pair mode octets name parameter e = whole_by_leaves mode octets ∙ ap (λ o. o >>= identifier_leaves) (sym e)

pub no_name : (mode : Mode) (octets : List ℕ) (name : LeafFields) (parameter : Option LeafFields) → Some (name, parameter) ≡ whole_of one_or_two mode octets → None ≡ oid_leaf name → None ≡ whole_of algorithm_identifier mode octets
unfolding ◌>>=◌
no_name mode octets name parameter e n = sym (with_pair mode octets name parameter e ∙ ap (λ o. o >>= λ x. null_leaf parameter >>= λ p. Some (x, p)) (sym n))

pub no_null : (mode : Mode) (octets n : List ℕ) (name : LeafFields) (parameter : Option LeafFields) → Some (name, parameter) ≡ whole_of one_or_two mode octets → Some n ≡ oid_leaf name → None ≡ null_leaf parameter → None ≡ whole_of algorithm_identifier mode octets
unfolding ◌>>=◌
no_null mode octets n name parameter e f h =
    sym (with_pair mode octets name parameter e ∙ ap (λ o. o >>= λ x. null_leaf parameter >>= λ p. Some (x, p)) (sym f) ∙ ap (λ o. o >>= λ p. Some (n, p)) (sym h))

pub all_found : (mode : Mode) (octets n : List ℕ) (b : Bool) (name : LeafFields) (parameter : Option LeafFields) → Some (name, parameter) ≡ whole_of one_or_two mode octets → Some n ≡ oid_leaf name → Some b ≡ null_leaf parameter → Some (n, b) ≡ whole_of algorithm_identifier mode octets
unfolding ◌>>=◌
all_found mode octets n b name parameter e f h =
    sym (with_pair mode octets name parameter e ∙ ap (λ o. o >>= λ x. null_leaf parameter >>= λ p. Some (x, p)) (sym f) ∙ ap (λ o. o >>= λ p. Some (n, p)) (sym h))

pub not_meant : {X : Type 0} (meaning : List ℕ × Bool → Option X) (mode : Mode) (octets : List ℕ) → None ≡ whole_of algorithm_identifier mode octets → None ≡ whole_of (so algorithm_identifier meaning) mode octets
unfolding ◌>>=◌
not_meant meaning mode octets e = sym (whole_so algorithm_identifier meaning mode octets ∙ ap (λ o. o >>= meaning) (sym e))

pub meant : {X : Type 0} (meaning : List ℕ × Bool → Option X) (mode : Mode) (octets : List ℕ) (a : List ℕ × Bool) → Some a ≡ whole_of algorithm_identifier mode octets → meaning a ≡ whole_of (so algorithm_identifier meaning) mode octets
unfolding ◌>>=◌
meant meaning mode octets a e = sym (whole_so algorithm_identifier meaning mode octets ∙ ap (λ o. o >>= meaning) (sym e))
