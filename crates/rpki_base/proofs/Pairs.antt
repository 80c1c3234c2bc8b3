-- A SEQUENCE of two times, as one of two primitive values.
use Rattle.std.proofs.Common.{◌≡◌, ℕ, Bool, true, false, ℤ, Option, None, Some, List, refl, sym, ◌∙◌}
use Rattle.std.specs.Prelude.{if◌then◌else◌}
use Rattle.std.specs.Option.{option_or}
use Rattle.rpki_common.specs.Chaining.{◌>>=◌}
use Rattle.rpki_der.specs.declared.mode.Mode.{Mode}
use Rattle.rpki_der.specs.Identifier.{has_tag}
use Rattle.rpki_der.specs.Tags.{sequence, utc_time_tag, generalized_time_tag}
use Rattle.rpki_der.specs.Value.{Value, Primitive, Constructed, Values, End, ◌▸◌}
use Rattle.rpki_der.specs.Grammar.{so, within, first, done}
use Rattle.rpki_der.specs.Leaf.{LeafFields, leaf, further, one_or_two}
use Rattle.rpki_der.specs.Whole.{alone, whole_of}
use Rattle.rpki_base.specs.Time.{utc_time, generalized_time, time, leaf_time}
use Rattle.rpki_base.specs.Validity.{ValidityFields, validity}
use Rattle.rpki_base.proofs.Choosing.{other_tag, or_none}

-- ---- one time

by_tags : (utc generalized : Bool) (c : List ℕ) → (utc ≡ true → generalized ≡ false) → option_or ((if utc then Some c else None) >>= utc_time) ((if generalized then Some c else None) >>= generalized_time) ≡ (if utc then utc_time c else if generalized then generalized_time c else None)
unfolding ◌>>=◌
by_tags true generalized c h = or_none (utc_time c) ((if generalized then Some c else None) >>= generalized_time) (rw (h refl) refl)
by_tags false true c h = refl
by_tags false false c h = refl

time_is_leaf : (v : Value) → time v ≡ (leaf v >>= leaf_time)
unfolding time so ◌>>=◌
time_is_leaf (Primitive i l c) = by_tags (has_tag utc_time_tag i) (has_tag generalized_time_tag i) c (other_tag i)
time_is_leaf (Constructed i f vs) = refl

-- ---- two

-- the validity of the first and of the second, if there is one
abbrev pub pair_times : LeafFields × Option LeafFields → Option ValidityFields
pair_times (a, None) = None
pair_times (a, Some b) = leaf_time a >>= λ x. leaf_time b >>= λ y. Some (record { not_before = x; not_after = y })

abbrev make : ℤ → ℤ → ValidityFields
make x y = record { not_before = x; not_after = y }

abbrev behind_time : ℤ × Values → Option ValidityFields
behind_time before = first time before.1 >>= λ after. done (make before.0 after.0) after.1

abbrev time_fields : Values → Option ValidityFields
time_fields vs = first time vs >>= behind_time

abbrev behind_leaf : LeafFields × Values → Option (LeafFields × Option LeafFields)
behind_leaf a = further leaf a.1 >>= λ b. done (a.0, b.0) b.1

abbrev leaf_fields : Values → Option (LeafFields × Option LeafFields)
leaf_fields vs = first leaf vs >>= behind_leaf

abbrev no_validity : Option ValidityFields
no_validity = None

nothing : {X : Type 0} (t : Option X) → (t >>= λ x. no_validity) ≡ None
unfolding ◌>>=◌
nothing None = refl
nothing (Some x) = refl

no_more : (t : Option ℤ) → ((t >>= λ x. Some (x, End)) >>= behind_time) ≡ None
unfolding first done ◌>>=◌
no_more None = refl
no_more (Some x) = refl

one_field : (l : Option LeafFields) → (((l >>= leaf_time) >>= λ x. Some (x, End)) >>= behind_time) ≡ (((l >>= λ a. Some (a, End)) >>= behind_leaf) >>= pair_times)
unfolding first further done ◌>>=◌
one_field None = refl
one_field (Some a) = no_more (leaf_time a)

abbrev and_then : ℤ → Values → Option (ℤ × Values)
and_then y rest = Some (y, rest)

abbrev and_maybe : LeafFields → Values → Option (Option LeafFields × Values)
and_maybe a rest = Some (Some a, rest)

times_last : (x : ℤ) (u : Option ℤ) (rest : Values) → ((u >>= λ y. and_then y rest) >>= λ after. done (make x after.0) after.1) ≡ (u >>= λ y. done (make x y) rest)
unfolding ◌>>=◌
times_last x None rest = refl
times_last x (Some y) rest = refl

times_go : (t : Option ℤ) (w : Value) (rest : Values) → ((t >>= λ x. Some (x, w ▸ rest)) >>= behind_time) ≡ (t >>= λ x. (time w >>= λ y. done (make x y) rest))
unfolding first ◌>>=◌
times_go None w rest = refl
times_go (Some x) w rest = times_last x (time w) rest

leaves_last : (a : LeafFields) (m : Option LeafFields) (rest : Values) → (((m >>= λ x. and_maybe x rest) >>= λ b. done (a, b.0) b.1) >>= pair_times) ≡ (m >>= λ b. (done (a, Some b) rest >>= pair_times))
unfolding ◌>>=◌
leaves_last a None rest = refl
leaves_last a (Some b) rest = refl

leaves_go : (l : Option LeafFields) (w : Value) (rest : Values) → (((l >>= λ a. Some (a, w ▸ rest)) >>= behind_leaf) >>= pair_times) ≡ (l >>= λ a. (leaf w >>= λ b. (done (a, Some b) rest >>= pair_times)))
unfolding further ◌>>=◌
leaves_go None w rest = refl
leaves_go (Some a) w rest = leaves_last a (leaf w) rest

neither : (t u : Option ℤ) → (t >>= λ x. (u >>= λ y. no_validity)) ≡ None
unfolding ◌>>=◌
neither None u = refl
neither (Some x) u = nothing u

agree : (l m : Option LeafFields) (rest : Values) → ((l >>= leaf_time) >>= λ x. ((m >>= leaf_time) >>= λ y. done (make x y) rest)) ≡ (l >>= λ a. (m >>= λ b. (done (a, Some b) rest >>= pair_times)))
unfolding done ◌>>=◌
agree None m rest = refl
agree (Some a) None rest = nothing (leaf_time a)
agree (Some a) (Some b) End = refl
agree (Some a) (Some b) (u ▸ us) = neither (leaf_time a) (leaf_time b)

fields_is : (vs : Values) → time_fields vs ≡ (leaf_fields vs >>= pair_times)
unfolding first ◌>>=◌
fields_is End = refl
fields_is (v ▸ End) = rw (time_is_leaf v) (one_field (leaf v))
fields_is (v ▸ w ▸ rest) = times_go (time v) w rest ∙ (rw (time_is_leaf v, time_is_leaf w) (agree (leaf v) (leaf w) rest)) ∙ sym (leaves_go (leaf v) w rest)

chosen : (b : Bool) (vs : Values) → (if b then time_fields vs else None) ≡ ((if b then leaf_fields vs else None) >>= pair_times)
unfolding ◌>>=◌
chosen true vs = fields_is vs
chosen false vs = refl

validity_is : (v : Value) → validity v ≡ (one_or_two v >>= pair_times)
unfolding validity one_or_two within ◌>>=◌
validity_is (Primitive i l c) = refl
validity_is (Constructed i f vs) = chosen (has_tag sequence i) vs

alone_is : (o : Option Value) → (o >>= validity) ≡ ((o >>= one_or_two) >>= pair_times)
unfolding ◌>>=◌
alone_is None = refl
alone_is (Some v) = validity_is v

pub whole_validity : (mode : Mode) (octets : List ℕ) → whole_of validity mode octets ≡ (whole_of one_or_two mode octets >>= pair_times)
unfolding whole_of
whole_validity mode octets = alone_is (alone mode octets)
