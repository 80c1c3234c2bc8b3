-- Shapes whose octets are read one after the other, as in a loop.
use Rattle.std.proofs.Common.{arith, ◌≡◌, ℕ, ◌+◌, ◌*◌, ◌≤◌, Option, Some, None, List, [], ◌∷◌, ◌++◌, length, sum_by, refl, sym, subst, ap, ◌∙◌}
use Rattle.std.proofs.lemmas.List.{append-nil}
use Rattle.std.proofs.lemmas.List.Sums.{sum_by-cons}
use Rattle.rpki_common.specs.Chaining.{◌>>=◌}
use Rattle.rpki_der.specs.declared.error.DecodeError.TheVariants.{Malformed}
use Rattle.rpki_der.specs.declared.mode.Mode.{Mode}
use Rattle.rpki_der.specs.Reader.{decoded}
use Rattle.rpki_der.specs.Ticks.{nodes, CountedBegins, CountedRefusesOctets}
use Rattle.rpki_der.specs.Value.{Value}
use Rattle.rpki_der.proofs.Decoding.{decoded_ok, decoded_none}
use Rattle.rpki_sets.specs.Texts.{read_all}
use Rattle.rpki_updown.specs.declared.error.Error.{Error}
use Rattle.rpki_updown.specs.declared.error.Error.TheVariants as errors
use Rattle.rpki_xml.proofs.Each.{with_front}
use Rattle.rpki_provisioning.specs.Filling.{IsFault, Filled, Unfilled}
use Rattle.rpki_provisioning.proofs.Collects.{regroup, front_nothing}

-- what was read before a place, and what reading it cost
pub record FilledTo {A Y : Type 0} (read : A → Option Y) (size : A → ℕ) (all rest : List A) (found : List Y) (before now : ℕ) : Type 0 where
  pub so_far : with_front found (read_all read rest) ≡ read_all read all
  pub least : before ≤ now
  pub cost : now + 2 * sum_by size rest ≤ before + 2 * sum_by size all

pub starts : {A Y : Type 0} (read : A → Option Y) (size : A → ℕ) (all rest : List A) (now : ℕ) → rest ≡ all → FilledTo read size all rest [] now now
starts read size all rest now is = rw is (record { so_far = front_nothing (read_all read all); least = omega (arith); cost = omega (arith) })

one_more : {A Y : Type 0} (read : A → Option Y) (found : List Y) (a : A) (y : Y) (next : List A) → read a ≡ Some y → with_front found (read_all read (a ∷ next)) ≡ with_front (found ++ y ∷ []) (read_all read next)
unfolding read_all ◌>>=◌
one_more read found a y next is = rw is (regroup found y (read_all read next))

pub more : {A Y : Type 0} (read : A → Option Y) (size : A → ℕ) (all rest next : List A) (found : List Y) (a : A) (y : Y) (before now later : ℕ) → rest ≡ a ∷ next
    → FilledTo read size all rest found before now → Filled (read a) (size a) now later y → FilledTo read size all next (found ++ y ∷ []) before later
more {A} read size all rest next found a y before now later is to filled =
    let split : sum_by size rest ≡ size a + sum_by size next = ap (sum_by size) is ∙ sum_by-cons size a next in
    let cost : now + 2 * (size a + sum_by size next) ≤ before + 2 * sum_by size all = subst (λ (n : ℕ). now + 2 * n ≤ before + 2 * sum_by size all) split to.cost in
    record {
      so_far = sym (one_more read found a y next filled.gives) ∙ ap (λ (l : List A). with_front found (read_all read l)) (sym is) ∙ to.so_far;
      least = grown before now later to.least filled.least;
      cost = within now later before (size a) (sum_by size next) (sum_by size all) filled.most cost;
    }
  where
    within : (now later before s n t : ℕ) → later ≤ now + 2 * s → now + 2 * (s + n) ≤ before + 2 * t → later + 2 * n ≤ before + 2 * t
    within now later before s n t p q = omega (arith)

    grown : (before now later : ℕ) → before ≤ now → now ≤ later → before ≤ later
    grown before now later p q = omega (arith)

fails_none : {A Y : Type 0} (read : A → Option Y) (found : List Y) (a : A) (next : List A) → read a ≡ None → with_front found (read_all read (a ∷ next)) ≡ None
unfolding read_all ◌>>=◌
fails_none read found a next is = rw is refl

none_of : {A Y : Type 0} (fault e : Error) (given : Option A) (total : Option Y) → (given ≡ None → total ≡ None) → IsFault fault given e → IsFault fault total e
none_of fault errors.InvalidVersion given total f x = (x.0, f x.1)
none_of fault (errors.XmlError error) given total f x = (x.0, f x.1)
none_of fault (errors.InvalidPayloadType error) given total f x = (x.0, f x.1)
none_of fault errors.InvalidCsrSyntax given total f x = (x.0, f x.1)
none_of fault errors.CertSyntax given total f x = (x.0, f x.1)
none_of fault errors.CmsDecode given total f x = (x.0, f x.1)
none_of fault (errors.Validation error) given total f x = (x.0, f x.1)
none_of fault (errors.Limit set limit) given total f x = (x.0, f x.1)
none_of fault errors.Read given total f x = (x.0, f x.1)
none_of fault errors.Write given total f x = (x.0, f x.1)
none_of fault errors.TooLong given total f x = (x.0, f x.1)
none_of fault errors.OutOfMemory given total f x = tt

pub fails : {A Y : Type 0} (fault e : Error) (read : A → Option Y) (size : A → ℕ) (all rest next : List A) (found : List Y) (a : A) (before now later : ℕ) → rest ≡ a ∷ next
    → FilledTo read size all rest found before now → Unfilled fault (read a) (size a) now later e → Unfilled fault (read_all read all) (sum_by size all) before later e
fails {A} fault e read size all rest next found a before now later is to unfilled =
    let split : sum_by size rest ≡ size a + sum_by size next = ap (sum_by size) is ∙ sum_by-cons size a next in
    let cost : now + 2 * (size a + sum_by size next) ≤ before + 2 * sum_by size all = subst (λ (n : ℕ). now + 2 * n ≤ before + 2 * sum_by size all) split to.cost in
    record {
      fault' = none_of fault e (read a) (read_all read all) (λ none. sym to.so_far ∙ ap (λ (l : List A). with_front found (read_all read l)) is ∙ fails_none read found a next none) unfilled.fault';
      least = grown before now later to.least unfilled.least;
      most = within now later before (size a) (sum_by size next) (sum_by size all) unfilled.most cost;
    }
  where
    within : (now later before s n t : ℕ) → later ≤ now + 2 * s + 8 → now + 2 * (s + n) ≤ before + 2 * t → later ≤ before + 2 * t + 8
    within now later before s n t p q = omega (arith)

    grown : (before now later : ℕ) → before ≤ now → now ≤ later → before ≤ later
    grown before now later p q = omega (arith)

-- memory ran out when it was to be kept
pub not_kept : {A Y : Type 0} (fault : Error) (read : A → Option Y) (size : A → ℕ) (all rest next : List A) (found : List Y) (a : A) (y : Y) (before now later : ℕ) → rest ≡ a ∷ next
    → FilledTo read size all rest found before now → Filled (read a) (size a) now later y → Unfilled fault (read_all read all) (sum_by size all) before later errors.OutOfMemory
not_kept {A} fault read size all rest next found a y before now later is to filled =
    let then = more read size all rest next found a y before now later is to filled in
    record { fault' = tt; least = then.least; most = within later before (sum_by size next) (sum_by size all) then.cost }
  where
    within : (later before n t : ℕ) → later + 2 * n ≤ before + 2 * t → later ≤ before + 2 * t + 8
    within later before n t p = omega (arith)

pub done : {A Y : Type 0} (read : A → Option Y) (size : A → ℕ) (all rest : List A) (found : List Y) (before now : ℕ) → rest ≡ [] → FilledTo read size all rest found before now → Filled (read_all read all) (sum_by size all) before now found
unfolding read_all ◌>>=◌
done {A} {Y} read size all rest found before now is to = record {
  gives = sym to.so_far ∙ ap (λ (l : List A). with_front found (read_all read l)) is ∙ ap (λ (ys : List Y). Some ys) (append-nil found);
  least = to.least;
  most = within now before (sum_by size rest) (sum_by size all) to.cost;
}
  where
    within : (now before n t : ℕ) → now + 2 * n ≤ before + 2 * t → now ≤ before + 2 * t
    within now before n t p = omega (arith)

-- ---- what octets begin with

pub begun : {X : Type 0} (grammar : Value → Option X) (mode : Mode) (octets given : List ℕ) (before after : ℕ) (x : X) → given ≡ octets → CountedBegins 2 grammar mode given before after x
    → Filled (decoded grammar mode octets) (length octets) before after x
begun grammar mode octets given before after x is counted = subst (λ (o : List ℕ). Filled (decoded grammar mode o) (length o) before after x) is (record {
  gives = decoded_ok grammar mode given x counted.begins;
  least = no_fewer before after (nodes counted.begins.value) counted.least;
  most = within before after (length counted.begins.rest) (length given) counted.most;
})
  where
    within : (before after n t : ℕ) → after + 2 * n ≤ before + 2 * t → after ≤ before + 2 * t
    within before after n t p = omega (arith)

    no_fewer : (before after n : ℕ) → before + n ≤ after → before ≤ after
    no_fewer before after n p = omega (arith)

pub not_begun : {X : Type 0} (grammar : Value → Option X) (mode : Mode) (octets given : List ℕ) (before after : ℕ) → given ≡ octets → CountedRefusesOctets 2 grammar mode given before after Malformed
    → (decoded grammar mode octets ≡ None) × (before ≤ after) × (after ≤ before + 2 * length octets + 8)
not_begun grammar mode octets given before after is counted =
    subst (λ (o : List ℕ). (decoded grammar mode o ≡ None) × (before ≤ after) × (after ≤ before + 2 * length o + 8)) is (decoded_none grammar mode given counted.refuses, counted.least, counted.most)

-- ---- one reading after another

pub one : {A B : Type 0} (f : A → B) (o : Option A) (n before after : ℕ) (x : A) → Filled o n before after x → Filled (o >>= λ a. Some (f a)) n before after (f x)
unfolding ◌>>=◌
one f o n before after x filled = record { gives = rw filled.gives refl; least = filled.least; most = filled.most }

pub not_one : {A B : Type 0} (fault e : Error) (f : A → B) (o : Option A) (n before after : ℕ) → Unfilled fault o n before after e → Unfilled fault (o >>= λ a. Some (f a)) n before after e
unfolding ◌>>=◌
not_one {A} {B} fault e f o n before after unfilled = record { fault' = none_of fault e o (o >>= λ a. Some (f a)) (λ none. rw none refl) unfilled.fault'; least = unfilled.least; most = unfilled.most }

pub two : {A B C : Type 0} (f : A → B → C) (o : Option A) (p : Option B) (m n before between after : ℕ) (x : A) (y : B) → Filled o m before between x → Filled p n between after y
    → Filled (o >>= λ a. p >>= λ b. Some (f a b)) (m + n) before after (f x y)
unfolding ◌>>=◌
two f o p m n before between after x y first second = record { gives = rw first.gives (rw second.gives refl); least = grown before between after first.least second.least; most = within m n before between after first.most second.most }
  where
    within : (m n before between after : ℕ) → between ≤ before + 2 * m → after ≤ between + 2 * n → after ≤ before + 2 * (m + n)
    within m n before between after p q = omega (arith)

    grown : (before between after : ℕ) → before ≤ between → between ≤ after → before ≤ after
    grown before between after p q = omega (arith)

pub not_first : {A B C : Type 0} (fault e : Error) (f : A → B → C) (o : Option A) (p : Option B) (m n before after : ℕ) → Unfilled fault o m before after e
    → Unfilled fault (o >>= λ a. p >>= λ b. Some (f a b)) (m + n) before after e
unfolding ◌>>=◌
not_first {A} {B} {C} fault e f o p m n before after unfilled = record {
  fault' = none_of fault e o (o >>= λ a. p >>= λ b. Some (f a b)) (λ none. rw none refl) unfilled.fault';
  least = unfilled.least;
  most = within m n before after unfilled.most;
}
  where
    within : (m n before after : ℕ) → after ≤ before + 2 * m + 8 → after ≤ before + 2 * (m + n) + 8
    within m n before after p = omega (arith)

pub not_second : {A B C : Type 0} (fault e : Error) (f : A → B → C) (o : Option A) (p : Option B) (m n before between after : ℕ) (x : A) → Filled o m before between x → Unfilled fault p n between after e
    → Unfilled fault (o >>= λ a. p >>= λ b. Some (f a b)) (m + n) before after e
unfolding ◌>>=◌
not_second {A} {B} {C} fault e f o p m n before between after x first unfilled = record {
  fault' = none_of fault e p (o >>= λ a. p >>= λ b. Some (f a b)) (λ none. rw first.gives (rw none refl)) unfilled.fault';
  least = grown before between after first.least unfilled.least;
  most = within m n before between after first.most unfilled.most;
}
  where
    within : (m n before between after : ℕ) → between ≤ before + 2 * m → after ≤ between + 2 * n + 8 → after ≤ before + 2 * (m + n) + 8
    within m n before between after p q = omega (arith)

    grown : (before between after : ℕ) → before ≤ between → between ≤ after → before ≤ after
    grown before between after p q = omega (arith)
