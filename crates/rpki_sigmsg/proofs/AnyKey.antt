-- A message under a list of keys.
use Rattle.std.proofs.Common.{◌≡◌, ℕ, suc, ◌+◌, ℤ, Bool, None, Result, Ok, Err, List, [], ◌∷◌, ◌++◌, length, take, drop, zero, refl, sym, ap, subst, ◌∙◌, arith}
use Rattle.std.specs.Prelude.{◌≤◌, ◌<◌, ◌↔◌, Decides, max}
use Rattle.std.specs.List.{AllByRecursion}
use Rattle.std.proofs.Math.ListN.{get_or, drop_of_length-le}
use Rattle.std.proofs.lemmas.List.{length-take-le}
use Rattle.std.specs.Ordering.{ord_max, nat_cmp}
use Rattle.std.proofs.Math.Nat.{max-zero, zero-max, max-le, le-max_left, le-max_right, max-eq_left}
use Rattle.rpki_base.specs.PublicKey.{KeyFields}
use Rattle.rpki_base.specs.Scheme.{Relation}
use Rattle.rpki_base.specs.Checks.{first_failure, failing}
use Rattle.rpki_base.specs.declared.validation.ValidationError.{ValidationError}
use Rattle.rpki_sigmsg.specs.Message.{MessageFields}
use Rattle.rpki_sigmsg.specs.Checks.{checks, message_checks, kind_of, AreAttributesSigned, Asked, AreSigned, IsBelieved, IsValidation, SameAnswers, SameAnswersUnder, IsInSpan, IsAmong, AreAmong, IsBelievedUnder, IsUnbelieved, IsFirstBelieved, HasOutcome, AreOutcomes, first_passing, greatest, ranked, ranked_by, IsAnyValidation, without_place}
use Rattle.rpki_sigmsg.proofs.Meaning.{asked_too, believed_too, same_back, believed_within, believed_then, number_believed, said_of_none}

-- ---- lists

-- what holds of each holds of one of them
pub at_one : {X : Type 0} (P : X → Type 0) (before : List X) (x : X) (behind : List X) → AllByRecursion P (before ++ x ∷ behind) → P x
at_one P [] x behind a = a.0
at_one P (b ∷ before) x behind a = at_one P before x behind a.1

-- what holds of each holds of those in front
pub up_to : {X : Type 0} (P : X → Type 0) (before behind : List X) → AllByRecursion P (before ++ behind) → AllByRecursion P before
up_to P [] behind a = tt
up_to P (b ∷ before) behind a = (a.0, up_to P before behind a.1)

-- one more
pub one_more : {X : Type 0} (P : X → Type 0) (before : List X) (x : X) → AllByRecursion P before → P x → AllByRecursion P (before ++ x ∷ [])
one_more P [] x a p = (p, tt)
one_more P (b ∷ before) x a p = (a.0, one_more P before x a.1 p)

each_to : {X : Type 0} (P Q R : X → Type 0) → ((x : X) → P x → Q x → R x) → (xs : List X) → AllByRecursion P xs → AllByRecursion Q xs → AllByRecursion R xs
each_to P Q R h [] a b = tt
each_to P Q R h (x ∷ xs) a b = (h x a.0 b.0, each_to P Q R h xs a.1 b.1)

-- a list of one has no other
pub only_one : {X : Type 0} (k key : X) (before behind : List X) → k ∷ [] ≡ before ++ key ∷ behind → key ≡ k
only_one k key [] behind e = cc
only_one k key (b ∷ []) behind e = cc
only_one k key (b ∷ c ∷ before) behind e = cc

-- ---- the rank

-- the rank of what is left, where n keys failed so far, at worst with this check
abbrev pub ranked_from : ℕ → ℕ → List (Result (Unit {0}) ℕ) → Result ℕ ℕ
ranked_from n worst list = ranked_by (first_passing n list) (max worst (greatest list))

max_three : (a b c : ℕ) → max (max a b) c ≡ max a (max b c)
max_three a b c =
    let p = le-max_left a (max b c) in
    let q = le-max_right a (max b c) in
    let r = le-max_left b c in
    let s = le-max_right b c in
    let t = le-max_left (max a b) c in
    let u = le-max_right (max a b) c in
    let v = le-max_left a b in
    let w = le-max_right a b in
    let one : max (max a b) c ≤ max a (max b c) = max-le (max-le p (omega (arith, q, r))) (omega (arith, q, s)) in
    let other : max a (max b c) ≤ max (max a b) c = max-le (omega (arith, t, v)) (max-le (omega (arith, t, w)) u) in
    omega (arith, one, other)

pub ranked_all : (list : List (Result (Unit {0}) ℕ)) → ranked list ≡ ranked_from 0 0 list
ranked_all list = ap (ranked_by (first_passing 0 list)) (sym (zero-max (greatest list)))

pub ranked_step : (n worst check : ℕ) (more : List (Result (Unit {0}) ℕ)) → ranked_from n worst (Err check ∷ more) ≡ ranked_from (n + 1) (max worst check) more
ranked_step n worst check more = ap (ranked_by (first_passing (n + 1) more)) (sym (max_three worst check (greatest more)))

pub ranked_end : (n worst : ℕ) → ranked_from n worst [] ≡ Err worst
ranked_end n worst = ap (λ (w : ℕ). Err w) (max-zero worst)

-- ---- one key

one_rank : (r : Result (Unit {0}) ℕ) → without_place (failing kind_of (ranked (r ∷ []))) ≡ failing kind_of r
one_rank (Ok tt) = refl
one_rank (Err n) = rw (max-zero n) refl

first_is_believed : (scheme : Relation) (m : MessageFields) (issuer : KeyFields) (when : ℤ) (place : ℕ) → IsFirstBelieved scheme m (issuer ∷ []) when place → IsBelieved scheme m issuer when
first_is_believed scheme m issuer when place f = subst (λ (k : KeyFields). IsBelieved scheme m k when) (only_one issuer f.key f.before f.behind f.parts) f.believed

believed_at_first : (scheme : Relation) (m : MessageFields) (issuer : KeyFields) (when : ℤ) → IsBelieved scheme m issuer when → IsFirstBelieved scheme m (issuer ∷ []) when 0
believed_at_first scheme m issuer when b = record { before = []; key = issuer; behind = []; parts = refl; number = refl; believed = b; none_before = tt }

one_believed : (scheme : Relation) (m : MessageFields) (issuer : KeyFields) (when : ℤ) (answer : Result ℕ ValidationError) → ((place : ℕ) → (answer ≡ Ok place) ↔ IsFirstBelieved scheme m (issuer ∷ []) when place)
    → (without_place answer ≡ Ok tt) ↔ IsBelieved scheme m issuer when
one_believed scheme m issuer when (Ok place) h = (
  (λ e. first_is_believed scheme m issuer when place ((h place).0 refl)),
  (λ b. refl),
)
one_believed scheme m issuer when (Err error) h = (
  (λ e. cc),
  (λ b. ap without_place ((h 0).1 (believed_at_first scheme m issuer when b))),
)

pub one_key : (scheme : Relation) (m : MessageFields) (issuer : KeyFields) (when : ℤ) (answer : Result ℕ ValidationError) → IsAnyValidation scheme m (issuer ∷ []) when answer → IsValidation scheme m issuer when (without_place answer)
one_key scheme m issuer when answer v = record {
  believed = one_believed scheme m issuer when answer v.believed;
  first_failing = λ q.
      let o = first_failure 1 (checks m issuer when q.q3 q.q8 q.q10) in
      ap without_place (v.first_failing (o ∷ []) (record { asked = q; is = refl }, tt)) ∙ one_rank o;
}

-- ---- more keys

pub under_more : (scheme : Relation) (m : MessageFields) (keys more : List KeyFields) (when : ℤ) → AreAmong keys more → IsBelievedUnder scheme m keys when → IsBelievedUnder scheme m more when
under_more scheme m keys more when a b = record {
  key = b.key;
  among = at_one (IsAmong more) b.among.before b.key b.among.behind (subst (AllByRecursion (IsAmong more)) b.among.parts a);
  believed = b.believed;
}

-- ---- moments

pub one_span_under : (scheme : Relation) (m : MessageFields) (keys : List KeyFields) (one when : ℤ) → IsBelievedUnder scheme m keys one → IsBelievedUnder scheme m keys when ↔ IsInSpan m when
one_span_under scheme m keys one when b = (
  (λ c. believed_within scheme m c.key when c.believed),
  (λ s. record { key = b.key; among = b.among; believed = believed_then scheme m b.key one when b.believed s }),
)

-- ---- two schemes

outcome_too : (s t : Relation) (m : MessageFields) (key : KeyFields) (when : ℤ) (o : Result (Unit {0}) ℕ) → SameAnswers s t m key → HasOutcome t m key when o → HasOutcome s m key when o
unfolding asked_too
outcome_too s t m key when o w h = record { asked = asked_too s t m key h.asked w; is = h.is }

pub outcomes_too : (s t : Relation) (m : MessageFields) (keys : List KeyFields) (when : ℤ) (os : List (Result (Unit {0}) ℕ)) → SameAnswersUnder s t m keys → AreOutcomes t m keys when os → AreOutcomes s m keys when os
outcomes_too s t m [] when [] w h = tt
outcomes_too s t m [] when (o ∷ os) w h = absurd h
outcomes_too s t m (k ∷ ks) when [] w h = absurd h
outcomes_too s t m (k ∷ ks) when (o ∷ os) w h = (outcome_too s t m k when o w.0 h.0, outcomes_too s t m ks when os w.1 h.1)

each_only : {X : Type 0} (P Q : X → Type 0) → ((x : X) → P x → Q x) → (xs : List X) → AllByRecursion P xs → AllByRecursion Q xs
each_only P Q h [] a = tt
each_only P Q h (x ∷ xs) a = (h x a.0, each_only P Q h xs a.1)

pub backwards : (s t : Relation) (m : MessageFields) (keys : List KeyFields) → SameAnswersUnder s t m keys → SameAnswersUnder t s m keys
backwards s t m keys w = each_only (SameAnswers s t m) (SameAnswers t s m) (λ k same. same_back s t m k same) keys w

pub unbelieved_too : (s t : Relation) (m : MessageFields) (keys : List KeyFields) (when : ℤ) → SameAnswersUnder s t m keys → IsUnbelieved s m keys when → IsUnbelieved t m keys when
unbelieved_too s t m keys when w none = each_to (SameAnswers s t m) (λ k. IsBelieved s m k when → ⊥) (λ k. IsBelieved t m k when → ⊥) (λ k same n b. n (believed_too t s m k when (same_back s t m k same) b)) keys w none

pub first_too : (s t : Relation) (m : MessageFields) (keys : List KeyFields) (when : ℤ) (place : ℕ) → SameAnswersUnder s t m keys → IsFirstBelieved s m keys when place → IsFirstBelieved t m keys when place
first_too s t m keys when place w f =
    let all : SameAnswersUnder s t m (f.before ++ f.key ∷ f.behind) = subst (SameAnswersUnder s t m) f.parts w in
    record {
      before = f.before;
      key = f.key;
      behind = f.behind;
      parts = f.parts;
      number = f.number;
      believed = believed_too s t m f.key when (at_one (SameAnswers s t m) f.before f.key f.behind all) f.believed;
      none_before = unbelieved_too s t m f.before when (up_to (SameAnswers s t m) f.before (f.key ∷ f.behind) all) f.none_before;
    }

pub same_under : (s t : Relation) (m : MessageFields) (keys : List KeyFields) (when : ℤ) (answer : Result ℕ ValidationError) → SameAnswersUnder s t m keys → IsAnyValidation s m keys when answer → IsAnyValidation t m keys when answer
same_under s t m keys when answer w v = record {
  believed = λ place. (
    (λ e. first_too s t m keys when place w ((v.believed place).0 e)),
    (λ f. (v.believed place).1 (first_too t s m keys when place (backwards s t m keys w) f)),
  );
  none = λ error e. unbelieved_too s t m keys when w (v.none error e);
  first_failing = λ os h. v.first_failing os (outcomes_too s t m keys when os w h);
}

-- ---- one key after the other

abbrev pub ok_place : ℕ → Result ℕ ℕ
ok_place n = Ok n

-- the outcome at a place
pub record OutcomeAt (scheme : Relation) (m : MessageFields) (key : KeyFields) (when : ℤ) (place : ℕ) (os : List (Result (Unit {0}) ℕ)) : Type 0 where
  pub outcome : Result (Unit {0}) ℕ
  pub parts : drop place os ≡ outcome ∷ drop (suc place) os
  pub has : HasOutcome scheme m key when outcome

pub outcome_at : (scheme : Relation) (m : MessageFields) (before : List KeyFields) (key : KeyFields) (behind : List KeyFields) (when : ℤ) (os : List (Result (Unit {0}) ℕ)) → AreOutcomes scheme m (before ++ key ∷ behind) when os → OutcomeAt scheme m key when (length before) os
outcome_at scheme m [] key behind when [] h = absurd h
outcome_at scheme m [] key behind when (o ∷ os) h = record { outcome = o; parts = refl; has = h.0 }
outcome_at scheme m (b ∷ before) key behind when [] h = absurd h
outcome_at scheme m (b ∷ before) key behind when (o ∷ os) h = let a = outcome_at scheme m before key behind when os h.1 in record { outcome = a.outcome; parts = a.parts; has = a.has }

-- as many as there are keys
as_many : (scheme : Relation) (m : MessageFields) (keys : List KeyFields) (when : ℤ) (os : List (Result (Unit {0}) ℕ)) → AreOutcomes scheme m keys when os → length os ≡ length keys
as_many scheme m [] when [] h = refl
as_many scheme m [] when (o ∷ os) h = absurd h
as_many scheme m (k ∷ ks) when [] h = absurd h
as_many scheme m (k ∷ ks) when (o ∷ os) h = ap suc (as_many scheme m ks when os h.1)

-- the list is what stands before a place, what stands at it, and what stands behind it
split_at : {X : Type 0} (xs : List X) (i : ℕ) (x : X) → i < length xs → x ≡ get_or xs i x → xs ≡ take i xs ++ x ∷ drop (suc i) xs
split_at [] i x l e = absurd (omega (arith, l))
split_at (y ∷ ys) zero x l e = ap (λ (z : _). z ∷ ys) (sym e)
split_at (y ∷ ys) (suc i) x l e = ap (λ (r : List _). y ∷ r) (split_at ys i x (omega (arith, l)) e)

one_longer : {X : Type 0} (xs : List X) (i : ℕ) (x : X) → i < length xs → x ≡ get_or xs i x → take (suc i) xs ≡ take i xs ++ x ∷ []
one_longer [] i x l e = absurd (omega (arith, l))
one_longer (y ∷ ys) zero x l e = ap (λ (z : _). z ∷ []) (sym e)
one_longer (y ∷ ys) (suc i) x l e = ap (λ (r : List _). y ∷ r) (one_longer ys i x (omega (arith, l)) e)

max_is : (a b : ℕ) → ord_max nat_cmp a b ≡ max a b
max_is a b = grind arith

-- what holds where so many keys were tried, at worst with this check
abbrev pub SoFar : Relation → MessageFields → List KeyFields → ℤ → ℕ → ℕ → Type 0
SoFar scheme m keys when i worst = IsUnbelieved scheme m (take i keys) when
    × ((os : List (Result (Unit {0}) ℕ)) → AreOutcomes scheme m keys when os → ranked os ≡ ranked_from i worst (drop i os))

next_rank : (scheme : Relation) (m : MessageFields) (keys : List KeyFields) (when : ℤ) (i worst : ℕ) (key : KeyFields) (r : Result (Unit {0}) ℕ) → i < length keys → key ≡ get_or keys i key
    → ((q : Asked scheme m key) → r ≡ first_failure 1 (checks m key when q.q3 q.q8 q.q10)) → SoFar scheme m keys when i worst
    → (os : List (Result (Unit {0}) ℕ)) → AreOutcomes scheme m keys when os → ranked os ≡ ranked_from i worst (r ∷ drop (suc i) os)
next_rank scheme m keys when i worst key r l e said sofar os h =
    let before = take i keys in
    let behind = drop (suc i) keys in
    let at : length before ≡ i = length-take-le i keys (omega (arith, l)) in
    let o = outcome_at scheme m before key behind when os (subst (λ (ks : List KeyFields). AreOutcomes scheme m ks when os) (split_at keys i key l e) h) in
    let same : o.outcome ≡ r = o.has.is ∙ sym (said o.has.asked) in
    sofar.1 os h ∙ ap (ranked_from i worst) (ap (λ (n : ℕ). drop n os) (sym at) ∙ o.parts ∙ ap (λ (x : Result (Unit {0}) ℕ). x ∷ drop (suc (length before)) os) same ∙ ap (λ (n : ℕ). r ∷ drop (suc n) os) at)

never : (check : ℕ) (o : Result (Unit {0}) ℕ) → o ≡ Err check → o ≡ Ok tt → ⊥
never check (Ok u) e f = cc
never check (Err n) e f = cc

-- a key fails
unbelieved_key : (scheme : Relation) (m : MessageFields) (when : ℤ) (check : ℕ) (key : KeyFields) → ((q : Asked scheme m key) → Err check ≡ first_failure 1 (checks m key when q.q3 q.q8 q.q10)) → IsBelieved scheme m key when → ⊥
unbelieved_key scheme m when check key said b = never check (Err check) refl ((number_believed scheme m key when (Err check) tt said).1 b)

next_unbelieved : (scheme : Relation) (m : MessageFields) (keys : List KeyFields) (when : ℤ) (i : ℕ) (key : KeyFields) → i < length keys → key ≡ get_or keys i key → (IsBelieved scheme m key when → ⊥) → IsUnbelieved scheme m (take i keys) when → IsUnbelieved scheme m (take (suc i) keys) when
next_unbelieved scheme m keys when i key l e unlike sofar =
    subst (λ (ks : List KeyFields). IsUnbelieved scheme m ks when) (sym (one_longer keys i key l e)) (one_more (λ k. IsBelieved scheme m k when → ⊥) (take i keys) key sofar unlike)

next_worst : (scheme : Relation) (m : MessageFields) (keys : List KeyFields) (when : ℤ) (i worst check worse : ℕ) (key : KeyFields) → i < length keys → key ≡ get_or keys i key
    → ((q : Asked scheme m key) → Err check ≡ first_failure 1 (checks m key when q.q3 q.q8 q.q10)) → worse ≡ ord_max nat_cmp worst check → SoFar scheme m keys when i worst
    → (os : List (Result (Unit {0}) ℕ)) → AreOutcomes scheme m keys when os → ranked os ≡ ranked_from (i + 1) worse (drop (suc i) os)
next_worst scheme m keys when i worst check worse key l e said greater sofar os h =
    next_rank scheme m keys when i worst key (Err check) l e said sofar os h ∙ ranked_step i worst check (drop (suc i) os)
    ∙ ap (λ (w : ℕ). ranked_from (i + 1) w (drop (suc i) os)) (sym (greater ∙ max_is worst check))

pub failed_too : (scheme : Relation) (m : MessageFields) (keys : List KeyFields) (when : ℤ) (i worst check worse : ℕ) (key : KeyFields) → i < length keys → key ≡ get_or keys i key
    → ((q : Asked scheme m key) → Err check ≡ first_failure 1 (checks m key when q.q3 q.q8 q.q10)) → worse ≡ ord_max nat_cmp worst check → SoFar scheme m keys when i worst → SoFar scheme m keys when (i + 1) worse
failed_too scheme m keys when i worst check worse key l e said greater sofar =
    let next : suc i ≡ i + 1 = omega arith in
    let none : IsUnbelieved scheme m (take (suc i) keys) when = next_unbelieved scheme m keys when i key l e (unbelieved_key scheme m when check key said) sofar.0 in
    let rank : (os : List (Result (Unit {0}) ℕ)) → AreOutcomes scheme m keys when os → ranked os ≡ ranked_from (i + 1) worse (drop (suc i) os) = next_worst scheme m keys when i worst check worse key l e said greater sofar in (
      subst (λ (n : ℕ). IsUnbelieved scheme m (take n keys) when) next none,
      subst (λ (n : ℕ). (os : List (Result (Unit {0}) ℕ)) → AreOutcomes scheme m keys when os → ranked os ≡ ranked_from (i + 1) worse (drop n os)) next rank,
    )

-- none fails under a key
pub found_rank : (scheme : Relation) (m : MessageFields) (keys : List KeyFields) (when : ℤ) (i worst : ℕ) (key : KeyFields) → i < length keys → key ≡ get_or keys i key
    → ((q : Asked scheme m key) → Ok tt ≡ first_failure 1 (checks m key when q.q3 q.q8 q.q10)) → SoFar scheme m keys when i worst → (os : List (Result (Unit {0}) ℕ)) → AreOutcomes scheme m keys when os → Ok i ≡ ranked os
found_rank scheme m keys when i worst key l e said sofar os h = sym (next_rank scheme m keys when i worst key (Ok tt) l e said sofar os h)

pub first_found : (scheme : Relation) (m : MessageFields) (keys : List KeyFields) (when : ℤ) (i worst : ℕ) (key : KeyFields) → i < length keys → key ≡ get_or keys i key
    → AreSigned scheme m key → ((q : Asked scheme m key) → Ok tt ≡ first_failure 1 (checks m key when q.q3 q.q8 q.q10)) → SoFar scheme m keys when i worst → (place : ℕ) → ok_place i ≡ ok_place place → IsFirstBelieved scheme m keys when place
first_found scheme m keys when i worst key l e signed said sofar place at =
    let same : i ≡ place = cc in
    record {
      before = take i keys;
      key = key;
      behind = drop (suc i) keys;
      parts = split_at keys i key l e;
      number = sym same ∙ sym (length-take-le i keys (omega (arith, l)));
      believed = (number_believed scheme m key when (Ok tt) signed said).0 refl;
      none_before = sofar.0;
    }

-- all fail
pub all_failed : (scheme : Relation) (m : MessageFields) (keys : List KeyFields) (when : ℤ) (i worst : ℕ) → length keys ≤ i → SoFar scheme m keys when i worst → (os : List (Result (Unit {0}) ℕ)) → AreOutcomes scheme m keys when os → Err worst ≡ ranked os
all_failed scheme m keys when i worst past sofar os h =
    let n : length os ≤ i = many (length keys) (length os) i past (as_many scheme m keys when os h) in
    sym (sofar.1 os h ∙ ap (ranked_from i worst) (drop_of_length-le os n) ∙ ranked_end i worst)
  where
    many : (k o i : ℕ) → k ≤ i → o ≡ k → o ≤ i
    many k o i past e = omega (arith, past, e)

-- ---- what fails under every key

pub none_believed : (scheme : Relation) (m : MessageFields) (keys : List KeyFields) (when : ℤ) (n : ℕ) → ((q3 : Bool) → Decides q3 (AreAttributesSigned scheme m) → Err n ≡ first_failure 1 (message_checks m q3)) → IsUnbelieved scheme m keys when
none_believed scheme m [] when n own = tt
none_believed scheme m (k ∷ ks) when n own = (unbelieved_key scheme m when n k (said_of_none scheme m k when n own), none_believed scheme m ks when n own)

same_outcome : (scheme : Relation) (m : MessageFields) (key : KeyFields) (when : ℤ) (n : ℕ) (o : Result (Unit {0}) ℕ) → ((q3 : Bool) → Decides q3 (AreAttributesSigned scheme m) → Err n ≡ first_failure 1 (message_checks m q3)) → HasOutcome scheme m key when o → o ≡ Err n
same_outcome scheme m key when n o own h = h.is ∙ sym (said_of_none scheme m key when n own h.asked)

none_passes : (scheme : Relation) (m : MessageFields) (keys : List KeyFields) (when : ℤ) (n i : ℕ) (os : List (Result (Unit {0}) ℕ)) → ((q3 : Bool) → Decides q3 (AreAttributesSigned scheme m) → Err n ≡ first_failure 1 (message_checks m q3)) → AreOutcomes scheme m keys when os → first_passing i os ≡ None
none_passes scheme m [] when n i [] own h = refl
none_passes scheme m [] when n i (o ∷ os) own h = absurd h
none_passes scheme m (k ∷ ks) when n i [] own h = absurd h
none_passes scheme m (k ∷ ks) when n i (o ∷ os) own h = rw (same_outcome scheme m k when n o own h.0) (none_passes scheme m ks when n (i + 1) os own h.1)

at_most : (scheme : Relation) (m : MessageFields) (keys : List KeyFields) (when : ℤ) (n : ℕ) (os : List (Result (Unit {0}) ℕ)) → ((q3 : Bool) → Decides q3 (AreAttributesSigned scheme m) → Err n ≡ first_failure 1 (message_checks m q3)) → AreOutcomes scheme m keys when os → greatest os ≤ n
at_most scheme m [] when n [] own h = omega arith
at_most scheme m [] when n (o ∷ os) own h = absurd h
at_most scheme m (k ∷ ks) when n [] own h = absurd h
at_most scheme m (k ∷ ks) when n (o ∷ os) own h = rw (same_outcome scheme m k when n o own h.0) (max-le (omega arith) (at_most scheme m ks when n os own h.1))

pub fails_under_all : (scheme : Relation) (m : MessageFields) (keys : List KeyFields) (when : ℤ) (n : ℕ) → 1 ≤ length keys → ((q3 : Bool) → Decides q3 (AreAttributesSigned scheme m) → Err n ≡ first_failure 1 (message_checks m q3))
    → (os : List (Result (Unit {0}) ℕ)) → AreOutcomes scheme m keys when os → Err n ≡ ranked os
fails_under_all scheme m [] when n some own os h = absurd (omega (arith, some))
fails_under_all scheme m (k ∷ ks) when n some own [] h = absurd h
fails_under_all scheme m (k ∷ ks) when n some own (o ∷ os) h =
    rw (same_outcome scheme m k when n o own h.0, none_passes scheme m ks when n 1 os own h.1) (ap (λ (w : ℕ). Err w) (sym (max-eq_left (at_most scheme m ks when n os own h.1))))

-- ---- the answer with its place

-- a message is first believed under one key
pub one_place : (scheme : Relation) (m : MessageFields) (keys : List KeyFields) (when : ℤ) (a b : ℕ) → IsFirstBelieved scheme m keys when a → IsFirstBelieved scheme m keys when b → a ≡ b
one_place scheme m keys when a b f g = f.number ∙ same (λ k. IsBelieved scheme m k when) f.before f.key f.behind g.before g.key g.behind (sym f.parts ∙ g.parts) f.believed g.believed f.none_before g.none_before ∙ sym g.number
  where
    same : {X : Type 0} (P : X → Type 0) (xs : List X) (x : X) (xs' ys : List X) (y : X) (ys' : List X) → xs ++ x ∷ xs' ≡ ys ++ y ∷ ys' → P x → P y → AllByRecursion (λ k. P k → ⊥) xs → AllByRecursion (λ k. P k → ⊥) ys → length xs ≡ length ys
    same P [] x xs' [] y ys' e p q n o = refl
    same P [] x xs' (v ∷ ys) y ys' e p q n o = let f : x ≡ v = cc in absurd (o.0 (subst P f p))
    same P (u ∷ xs) x xs' [] y ys' e p q n o = let f : y ≡ u = cc in absurd (n.0 (subst P f q))
    same P (u ∷ xs) x xs' (v ∷ ys) y ys' e p q n o = ap suc (same P xs x xs' ys y ys' (ap (drop 1) e) p q n.1 o.1)

pub not_unbelieved : (scheme : Relation) (m : MessageFields) (keys : List KeyFields) (when : ℤ) (place : ℕ) → IsFirstBelieved scheme m keys when place → IsUnbelieved scheme m keys when → ⊥
not_unbelieved scheme m keys when place f none =
    at_one (λ k. IsBelieved scheme m k when → ⊥) f.before f.key f.behind (subst (λ (ks : List KeyFields). IsUnbelieved scheme m ks when) f.parts none) f.believed
