-- Octets are those of one value of questions.
use Rattle.std.proofs.Common.{◌≡◌, ◌<◌, ◌++◌, ◌∙◌, ℕ, zero, suc, Bool, true, false, bytes_eq, Option, None, Some, List, [], ◌∷◌, length, refl, sym, ap, subst, inl, inr, append_assoc, arith}
use Rattle.std.specs.Prelude.{Decides}
use Rattle.std.specs.Int.{from_be_bytes, to_be_bytes, w64}
use Rattle.std.specs.List.{AllByRecursion}
use Rattle.std.proofs.lemmas.Nat.{from_be_bytes-to_be_bytes_8}
use Rattle.std.proofs.lemmas.Slice.Eq.{bytes_eq-Decides}
use Rattle.rpki_der.specs.Value.{Begins}
use Rattle.rpki_der.specs.declared.mode.Mode.TheVariants.{Der}
use Rattle.rpki_der.proofs.Parts.{at_most_one}
use Rattle.rpki_der.proofs.Uniqueness.{head_of, same_cut, tail_of}
use Rattle.rpki_base.specs.PublicKey.{CanSpellKey, KeyFields, public_key, spelled_key}
use Rattle.rpki_base.proofs.Keys.{written_key}
use Rattle.rpki_external.specs.Answers.{AnswersFields, CountFor}
use Rattle.rpki_external.specs.Question.{QuestionFields, QuestionsFields, SignedPartFields, own_question}
use Rattle.rpki_external.specs.Records.{AllFit, AreWritable, Fits, IsWritableKey, IsWritablePart, IsWritableQuestion, SameUnlessCollide, Tagged, digest_of, key_records, own_key_tag, own_records, part_records, question_records, questions_octets, record_of, records_of, signed_records, tag_of, tagged}
use Rattle.rpki_external.specs.declared.question.Part.{Part}
use Rattle.rpki_external.specs.declared.question.Part.TheVariants.{Attributes, Certificate, Crl, Anchor, Request}

-- ---- records

-- one record, and what is behind it
pub same_record : (a b : Tagged) (x y : List ℕ) → Fits a → Fits b → record_of a ++ x ≡ record_of b ++ y → (a ≡ b) × (x ≡ y)
same_record a b x y fits other e =
    let counted = to_be_bytes w64 (length a.octets) in
    let counted' = to_be_bytes w64 (length b.octets) in
    let tag : a.tag ≡ b.tag = head_of a.tag b.tag ((counted ++ a.octets) ++ x) ((counted' ++ b.octets) ++ y) e in
    let behind : (counted ++ a.octets) ++ x ≡ (counted' ++ b.octets) ++ y = tail_of a.tag b.tag ((counted ++ a.octets) ++ x) ((counted' ++ b.octets) ++ y) e in
    let cut = same_cut counted counted' (a.octets ++ x) (b.octets ++ y) refl (sym (append_assoc counted a.octets x) ∙ behind ∙ append_assoc counted' b.octets y) in
    let number : length a.octets ≡ length b.octets = sym (from_be_bytes-to_be_bytes_8 (length a.octets) fits) ∙ ap (from_be_bytes w64) cut.front ∙ from_be_bytes-to_be_bytes_8 (length b.octets) other in
    let octets = same_cut a.octets b.octets x y number cut.rest in
    (λ i. record { tag = tag i; octets = octets.front i }, octets.rest)

no_octets : (octet : ℕ) (more : List ℕ) → [] ≡ octet ∷ more → ⊥
no_octets octet more e = cc

no_records : (t : Tagged) (more : List Tagged) → [] ≡ t ∷ more → ⊥
no_records t more e = cc

first_of : (t u : Tagged) (a b : List Tagged) → t ∷ a ≡ u ∷ b → t ≡ u
first_of t u a b e = cc

rest_of : (t u : Tagged) (a b : List Tagged) → t ∷ a ≡ u ∷ b → a ≡ b
rest_of t u a b e = cc

same_list : (t u : Tagged) (a b : List Tagged) → t ≡ u → a ≡ b → t ∷ a ≡ u ∷ b
same_list t u a b e f = cc

pub same_records : (a b : List Tagged) → AllFit a → AllFit b → records_of a ≡ records_of b → a ≡ b
same_records [] [] all other e = refl
same_records [] (u ∷ b) all other e = absurd (no_octets _ _ e)
same_records (t ∷ a) [] all other e = absurd (no_octets _ _ (sym e))
same_records (t ∷ a) (u ∷ b) all other e =
    let same = same_record t u (records_of a) (records_of b) all.0 other.0 e in
    same_list t u a b same.0 (same_records a b all.1 other.1 same.1)

-- ---- parts and keys

part_of : ℕ → Part
part_of zero = Attributes
part_of (suc zero) = Attributes
part_of (suc (suc zero)) = Certificate
part_of (suc (suc (suc zero))) = Crl
part_of (suc (suc (suc (suc zero)))) = Anchor
part_of (suc (suc (suc (suc (suc n))))) = Request

part_is : (part : Part) → part_of (tag_of part) ≡ part
unfolding part_of
part_is Attributes = refl
part_is Certificate = refl
part_is Crl = refl
part_is Anchor = refl
part_is Request = refl

tag_below : (part : Part) → tag_of part < 6
tag_below Attributes = omega arith
tag_below Certificate = omega arith
tag_below Crl = omega arith
tag_below Anchor = omega arith
tag_below Request = omega arith

same_key : (a b : KeyFields) → CanSpellKey a → CanSpellKey b → spelled_key a ≡ spelled_key b → a ≡ b
same_key a b is other e =
    let v = written_key Der a [] is in
    let w = written_key Der b [] other in
    let same = at_most_one Der (spelled_key a ++ []) v.0 w.0 [] [] v.1 (subst (λ (l : List ℕ). Begins Der (l ++ []) w.0 []) (sym e) w.1) in
    some_key a b (sym v.2 ∙ ap public_key same.value ∙ w.2)
  where
    some_key : (k l : KeyFields) → Some k ≡ Some l → k ≡ l
    some_key k l s = cc

same_keys : (a b : List KeyFields) → AllByRecursion IsWritableKey a → AllByRecursion IsWritableKey b → key_records a ≡ key_records b → a ≡ b
same_keys [] [] all other e = refl
same_keys [] (l ∷ b) all other e = absurd (no_records _ _ e)
same_keys (k ∷ a) [] all other e = absurd (no_records _ _ (sym e))
same_keys (k ∷ a) (l ∷ b) all other e =
    both k l a b (same_key k l all.0.spelled other.0.spelled (ap (λ (t : Tagged). t.octets) (first_of _ _ _ _ e))) (same_keys a b all.1 other.1 (rest_of _ _ _ _ e))
  where
    both : (k l : KeyFields) (a b : List KeyFields) → k ≡ l → a ≡ b → k ∷ a ≡ l ∷ b
    both k l a b s t = cc

part_no_key : (p : SignedPartFields) (keys : List KeyFields) (more : List Tagged) → key_records keys ≡ tagged (tag_of p.part) p.octets ∷ more → ⊥
part_no_key p [] more e = no_records _ _ e
part_no_key p (k ∷ keys) more e =
    let tag : 18 ≡ tag_of p.part = ap (λ (t : Tagged). t.tag) (first_of _ _ _ _ e) in
    omega (arith, tag_below p.part, tag)

-- the parts are the same, and so is what is told of the keys
record SameParts (a b : List SignedPartFields) (x y : List KeyFields) : Type 0 where
  parts : a ≡ b
  keys : key_records x ≡ key_records y

same_parts : (a b : List SignedPartFields) (x y : List KeyFields) → part_records a ++ key_records x ≡ part_records b ++ key_records y → SameParts a b x y
same_parts [] [] x y e = record { parts = refl; keys = e }
same_parts [] (q ∷ b) x y e = absurd (part_no_key q x _ e)
same_parts (p ∷ a) [] x y e = absurd (part_no_key p y _ (sym e))
same_parts (p ∷ a) (q ∷ b) x y e =
    let signed : tagged (tag_of p.part) p.octets ≡ tagged (tag_of q.part) q.octets = first_of _ _ _ _ e in
    let behind = rest_of _ _ _ _ e in
    let held : tagged 16 p.signature ≡ tagged 16 q.signature = first_of _ _ _ _ behind in
    let more = same_parts a b x y (rest_of _ _ _ _ behind) in
    let part : p.part ≡ q.part = sym (part_is p.part) ∙ ap (λ (t : Tagged). part_of t.tag) signed ∙ part_is q.part in
    let octets : p.octets ≡ q.octets = ap (λ (t : Tagged). t.octets) signed in
    let signature : p.signature ≡ q.signature = ap (λ (t : Tagged). t.octets) held in
    record { parts = both p q a b (λ i. record { part = part i; octets = octets i; signature = signature i }) more.parts; keys = more.keys }
  where
    both : (p q : SignedPartFields) (a b : List SignedPartFields) → p ≡ q → a ≡ b → p ∷ a ≡ q ∷ b
    both p q a b s t = cc

-- ---- the question of its own

no_own : (parts : List SignedPartFields) (keys : List KeyFields) (octets : List ℕ) (more : List Tagged) → part_records parts ++ key_records keys ≡ tagged own_key_tag octets ∷ more → ⊥
no_own [] [] octets more e = no_records _ _ e
no_own [] (k ∷ keys) octets more e =
    let tag : 18 ≡ 17 = ap (λ (t : Tagged). t.tag) (first_of _ _ _ _ e) in
    omega (arith, tag)
no_own (p ∷ parts) keys octets more e =
    let tag : tag_of p.part ≡ 17 = ap (λ (t : Tagged). t.tag) (first_of _ _ _ _ e) in
    omega (arith, tag_below p.part, tag)

-- the question of its own is the same, and so is what is told behind it
record SameOwn (m n : Option QuestionFields) (x y : List Tagged) : Type 0 where
  own : m ≡ n
  behind : x ≡ y

same_own : (m n : Option QuestionFields) (a b : List SignedPartFields) (x y : List KeyFields)
    → AllByRecursion IsWritableQuestion (own_question m) → AllByRecursion IsWritableQuestion (own_question n)
    → own_records m ++ (part_records a ++ key_records x) ≡ own_records n ++ (part_records b ++ key_records y)
    → SameOwn m n (part_records a ++ key_records x) (part_records b ++ key_records y)
same_own None None a b x y is other e = record { own = refl; behind = e }
same_own None (Some r) a b x y is other e = absurd (no_own a x _ _ e)
same_own (Some q) None a b x y is other e = absurd (no_own b y _ _ (sym e))
same_own (Some q) (Some r) a b x y is other e =
    let spelled : tagged own_key_tag (spelled_key q.key) ≡ tagged own_key_tag (spelled_key r.key) = first_of _ _ _ _ e in
    let second = rest_of _ _ _ _ e in
    let signed : tagged (tag_of q.part) q.octets ≡ tagged (tag_of r.part) r.octets = first_of _ _ _ _ second in
    let third = rest_of _ _ _ _ second in
    let held : tagged 16 q.signature ≡ tagged 16 r.signature = first_of _ _ _ _ third in
    let key : q.key ≡ r.key = same_key q.key r.key is.0.key other.0.key (ap (λ (t : Tagged). t.octets) spelled) in
    let part : q.part ≡ r.part = sym (part_is q.part) ∙ ap (λ (t : Tagged). part_of t.tag) signed ∙ part_is r.part in
    let octets : q.octets ≡ r.octets = ap (λ (t : Tagged). t.octets) signed in
    let signature : q.signature ≡ r.signature = ap (λ (t : Tagged). t.octets) held in
    record { own = λ i. Some (record { part = part i; key = key i; octets = octets i; signature = signature i }); behind = rest_of _ _ _ _ third }

-- ---- each record fits

both_fit : (front behind : List Tagged) → AllFit front → AllFit behind → AllFit (front ++ behind)
both_fit [] behind all other = other
both_fit (t ∷ front) behind all other = (all.0, both_fit front behind all.1 other)

own_fit : (own : Option QuestionFields) → AllByRecursion IsWritableQuestion (own_question own) → AllFit (own_records own)
own_fit None all = tt
own_fit (Some q) all = all.0.fit

parts_fit : (parts : List SignedPartFields) → AllByRecursion IsWritablePart parts → AllFit (part_records parts)
parts_fit [] all = tt
parts_fit (p ∷ parts) all = both_fit (signed_records p.part p.octets p.signature) (part_records parts) all.0 (parts_fit parts all.1)

keys_fit : (keys : List KeyFields) → AllByRecursion IsWritableKey keys → AllFit (key_records keys)
keys_fit [] all = tt
keys_fit (k ∷ keys) all = (all.0.fits, keys_fit keys all.1)

all_fit : (q : QuestionsFields) → AreWritable q → AllFit (question_records q)
all_fit q is =
    both_fit (own_records q.own) (part_records q.parts ++ key_records q.keys) (own_fit q.own is.own)
    (both_fit (part_records q.parts) (key_records q.keys) (parts_fit q.parts is.parts) (keys_fit q.keys is.keys))

-- ---- one value

pub one_list : (a b : QuestionsFields) → AreWritable a → AreWritable b → questions_octets a ≡ questions_octets b → a ≡ b
one_list a b is other e =
    let records = same_records (question_records a) (question_records b) (all_fit a is) (all_fit b other) e in
    let own = same_own a.own b.own a.parts b.parts a.keys b.keys is.own other.own records in
    let parts = same_parts a.parts b.parts a.keys b.keys own.behind in
    let keys = same_keys a.keys b.keys is.keys other.keys parts.keys in
    λ i. record { own = own.own i; parts = parts.parts i; keys = keys i }

one_digest : (a b : QuestionsFields) → AreWritable a → AreWritable b → digest_of a ≡ digest_of b → SameUnlessCollide a b
one_digest a b is other e = by_case (bytes_eq (questions_octets a) (questions_octets b)) (bytes_eq-Decides (questions_octets a) (questions_octets b))
  where
    by_case : (t : Bool) → Decides t (questions_octets a ≡ questions_octets b) → SameUnlessCollide a b
    by_case true d = inl (one_list a b is other (d.0 refl))
    by_case false d = inr (record { apart = λ s. let t : false ≡ true = d.1 s in cc; digest = e })

-- answers count for one value
pub one_given : (answers : AnswersFields) (a b : QuestionsFields) → CountFor answers a → AreWritable b → answers.digest ≡ digest_of b → SameUnlessCollide a b
one_given answers a b one writable digest = one_digest a b one.writable writable (sym one.to.digest ∙ digest)

pub one_value : (answers : AnswersFields) (a b : QuestionsFields) → CountFor answers a → CountFor answers b → SameUnlessCollide a b
one_value answers a b one other = one_given answers a b one other.writable other.to.digest
