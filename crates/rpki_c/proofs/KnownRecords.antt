-- Records of what is known, read one behind the other.
use Rattle.std.proofs.Common.{◌≡◌, ◌<◌, ◌≤◌, ◌-◌, ◌^◌, drop, get_or, take, ◌++◌, ◌∙◌, ℕ, Option, None, Some, List, [], ◌∷◌, length, map, refl, sym, ap, subst, append_assoc, append-nil, arith}
use Rattle.std.specs.Int.{to_be_bytes, w64}
use Rattle.std.specs.List.{AllByRecursion}
use Rattle.std.proofs.Math.Seq.{take-length}
use Rattle.std.proofs.lemmas.List.{take-append-drop}
use Rattle.rpki_text.specs.Uri.{fault_of, rsync}
use Rattle.rpki_der.proofs.Uniqueness.{same_cut}
use Rattle.rpki_external.specs.Records.{AllFit, Fits, Tagged, record_of, records_of, tagged}
use Rattle.rpki_external.proofs.OneValue.{same_record}
use Rattle.rpki_pubserver.specs.Deciding.{Knowledge}
use Rattle.rpki_c.specs.Arguments.{IsRsyncIn, IsUnread}
use Rattle.rpki_c.specs.Deciding.{AreKnownIn, BeginsRecord, CanBeKnown, IsKnownIn, known_record}

-- ---- one record

first_and_more : (octets : List ℕ) → 1 ≤ length octets → octets ≡ get_or octets 0 0 ∷ take (length octets - 1) (drop 1 octets)
first_and_more [] some = absurd (omega (arith, some))
first_and_more (o ∷ more) some = let e : length (o ∷ more) - 1 ≡ length more = omega arith in rw e (ap (λ (l : List ℕ). o ∷ l) (sym (take-length more)))

-- a tag, eight octets with the number of others, and these
pub begins_record : (octets count after text rest : List ℕ) (k n : ℕ) → 1 ≤ length octets → count ≡ take k (take (length octets - 1) (drop 1 octets))
    → after ≡ drop k (take (length octets - 1) (drop 1 octets)) → to_be_bytes w64 n ≡ count → text ≡ take n after → rest ≡ drop n after → length text ≡ n → n < 2 ^ 64
    → BeginsRecord octets (tagged (get_or octets 0 0) text) rest
begins_record octets count after text rest k n some first then number front back size small =
    let behind = take (length octets - 1) (drop 1 octets) in
    let parts : text ++ rest ≡ after = (λ i. front i ++ back i) ∙ take-append-drop n after in
    let counted : to_be_bytes w64 (length text) ≡ count = ap (to_be_bytes w64) size ∙ number in
    let all : to_be_bytes w64 (length text) ++ (text ++ rest) ≡ behind = (λ i. counted i ++ parts i) ∙ ((λ i. first i ++ then i) ∙ take-append-drop k behind) in
    record {
      is = first_and_more octets some ∙ ap (λ (l : List ℕ). get_or octets 0 0 ∷ l) (sym all ∙ sym (append_assoc (to_be_bytes w64 (length text)) text rest));
      fits = subst (λ (m : ℕ). m < 2 ^ 64) (sym size) small;
    }

-- a digest and a URI
pub there_known : (octets digest uri hash u : List ℕ) → digest ≡ take 32 octets → uri ≡ drop 32 octets → length digest ≡ 32 → hash ≡ digest → IsRsyncIn uri u
    → IsKnownIn (tagged 22 octets) (u, Some hash)
there_known octets digest uri hash u front back size is r =
    let whole : hash ++ u ≡ octets = (λ i. (is ∙ front) i ++ (r.0 ∙ back) i) ∙ take-append-drop 32 octets in
    record {
      is = ap (λ (l : List ℕ). tagged 22 l) (sym whole);
      can = record { uri = subst (λ (l : List ℕ). fault_of rsync l ≡ None) (sym r.0) r.1; digest = ap length is ∙ size };
    }

-- what is behind the digest is no URI
pub there_unread : (octets digest uri : List ℕ) → digest ≡ take 32 octets → uri ≡ drop 32 octets → length digest ≡ 32 → IsUnread (IsRsyncIn uri) → IsUnread (IsKnownIn (tagged 22 octets))
there_unread octets digest uri front back size none (u, None) k = let tag : 22 ≡ 23 = ap (λ (t : Tagged). t.tag) k.is in absurd (omega (arith, tag))
there_unread octets digest uri front back size none (u, Some d) k =
    let whole : octets ≡ d ++ u = ap (λ (t : Tagged). t.octets) k.is in
    let cut = same_cut (take 32 octets) d (drop 32 octets) u (ap length (sym front) ∙ size ∙ sym k.can.digest) (take-append-drop 32 octets ∙ whole) in
    let is : uri ≡ u = back ∙ cut.rest in
    none u (sym is, subst (λ (l : List ℕ). fault_of rsync l ≡ None) (sym is) k.can.uri)

-- the octets are no URI
pub absent_unread : (tag : ℕ) (octets : List ℕ) → tag ≡ 23 → IsUnread (IsRsyncIn octets) → IsUnread (IsKnownIn (tagged tag octets))
absent_unread tag octets is none (u, None) k =
    let same : octets ≡ u = ap (λ (t : Tagged). t.octets) k.is in
    none u (sym same, subst (λ (l : List ℕ). fault_of rsync l ≡ None) (sym same) k.can.uri)
absent_unread tag octets is none (u, Some d) k = let other : tag ≡ 22 = ap (λ (t : Tagged). t.tag) k.is in absurd (omega (arith, is, other))

-- ---- records

-- what is known of objects in the first records, and what is behind them
pub record AreRead (octets : List ℕ) (known : Knowledge) (rest : List ℕ) : Type 0 where
  pub are : octets ≡ records_of (map known_record known) ++ rest
  pub lawful : AllByRecursion CanBeKnown known
  pub fit : AllFit (map known_record known)

-- records, and one more
more_records : (known : Knowledge) (one : List ℕ × Option (List ℕ)) (rest : List ℕ)
    → records_of (map known_record (known ++ one ∷ [])) ++ rest ≡ records_of (map known_record known) ++ (record_of (known_record one) ++ rest)
more_records [] one rest = ap (λ (l : List ℕ). l ++ rest) (append-nil (record_of (known_record one)))
more_records (k ∷ known) one rest =
    let here = record_of (known_record k) in
    append_assoc here (records_of (map known_record (known ++ one ∷ []))) rest
    ∙ ap (λ (l : List ℕ). here ++ l) (more_records known one rest)
    ∙ sym (append_assoc here (records_of (map known_record known)) (record_of (known_record one) ++ rest))

all_lawful : (known : Knowledge) (one : List ℕ × Option (List ℕ)) → AllByRecursion CanBeKnown known → CanBeKnown one → AllByRecursion CanBeKnown (known ++ one ∷ [])
all_lawful [] one all can = (can, tt)
all_lawful (k ∷ known) one all can = (all.0, all_lawful known one all.1 can)

all_fit : (known : Knowledge) (one : List ℕ × Option (List ℕ)) → AllFit (map known_record known) → Fits (known_record one) → AllFit (map known_record (known ++ one ∷ []))
all_fit [] one all fits = (fits, tt)
all_fit (k ∷ known) one all fits = (all.0, all_fit known one all.1 fits)

-- nothing is read yet
pub none_read : (octets : List ℕ) → AreRead octets [] octets
none_read octets = record { are = refl; lawful = tt; fit = tt }

-- and one more
pub one_read : (octets : List ℕ) (known : Knowledge) (old : List ℕ) (t : Tagged) (new : List ℕ) (one : List ℕ × Option (List ℕ))
    → AreRead octets known old → BeginsRecord old t new → IsKnownIn t one → AreRead octets (known ++ one ∷ []) new
one_read octets known old t new one r begins is = record {
  are =
      r.are
      ∙ ap (λ (l : List ℕ). records_of (map known_record known) ++ l) (begins.is ∙ ap (λ (u : Tagged). record_of u ++ new) is.is)
      ∙ sym (more_records known one new);
  lawful = all_lawful known one r.lawful is.can;
  fit = all_fit known one r.fit (subst Fits is.is begins.fits);
}

-- with nothing behind them the octets are these
pub all_read : (octets : List ℕ) (known : Knowledge) (rest : List ℕ) → AreRead octets known rest → rest ≡ [] → AreKnownIn octets known
all_read octets known rest r none = record {
  are = r.are ∙ ap (λ (l : List ℕ). records_of (map known_record known) ++ l) none ∙ append-nil (records_of (map known_record known));
  lawful = r.lawful;
  fit = r.fit;
}

-- ---- other knowledge

no_octets : (octet : ℕ) (more : List ℕ) → [] ≡ octet ∷ more → ⊥
no_octets octet more e = cc

-- one thing alone is said by a record
same_known : (a b : List ℕ × Option (List ℕ)) → CanBeKnown a → CanBeKnown b → known_record a ≡ known_record b → a ≡ b
same_known (u, None) (v, None) can could e = let uri : u ≡ v = ap (λ (t : Tagged). t.octets) e in λ i. (uri i, None)
same_known (u, None) (v, Some d) can could e = let tag : 23 ≡ 22 = ap (λ (t : Tagged). t.tag) e in absurd (omega (arith, tag))
same_known (u, Some d) (v, None) can could e = let tag : 22 ≡ 23 = ap (λ (t : Tagged). t.tag) e in absurd (omega (arith, tag))
same_known (u, Some d) (v, Some f) can could e =
    let cut = same_cut d f u v (can.digest ∙ sym could.digest) (ap (λ (t : Tagged). t.octets) e) in
    λ i. (cut.rest i, Some (cut.front i))

-- what octets say, it is what was read and more, which what is behind it says
pub record GoesOn (known : Knowledge) (rest : List ℕ) (other : Knowledge) : Type 0 where
  pub more : Knowledge
  pub is : other ≡ known ++ more
  pub are : AreKnownIn rest more

goes_on : (octets : List ℕ) (known : Knowledge) (rest : List ℕ) (other : Knowledge) → AreRead octets known rest → AreKnownIn octets other → GoesOn known rest other
goes_on octets [] rest other r a = record { more = other; is = refl; are = subst (λ (o : List ℕ). AreKnownIn o other) r.are a }
goes_on octets (k ∷ known) rest [] r a =
    absurd (no_octets (known_record k).tag _ (sym a.are ∙ r.are))
goes_on octets (k ∷ known) rest (o ∷ others) r a =
    let behind = records_of (map known_record known) ++ rest in
    let here = record_of (known_record k) in
    let there = record_of (known_record o) in
    let both : there ++ records_of (map known_record others) ≡ here ++ behind = sym a.are ∙ r.are ∙ append_assoc here (records_of (map known_record known)) rest in
    let same = same_record (known_record o) (known_record k) (records_of (map known_record others)) behind a.fit.0 r.fit.0 both in
    let first : o ≡ k = same_known o k a.lawful.0 r.lawful.0 same.0 in
    let go = goes_on behind known rest others (record { are = refl; lawful = r.lawful.1; fit = r.fit.1 }) (record { are = sym same.1; lawful = a.lawful.1; fit = a.fit.1 }) in
    record { more = go.more; is = λ i. first i ∷ go.is i; are = go.are }

-- where no record stands, or one that says nothing, the octets say nothing
pub unread : (octets : List ℕ) (known : Knowledge) (rest : List ℕ) → AreRead octets known rest → (rest ≡ [] → ⊥)
    → ((one : List ℕ × Option (List ℕ)) (more : List ℕ) → BeginsRecord rest (known_record one) more → CanBeKnown one → ⊥) → IsUnread (AreKnownIn octets)
unread octets known rest r some none other a =
    let go = goes_on octets known rest other r a in
    ended go.more go.are
  where
    ended : (more : Knowledge) → AreKnownIn rest more → ⊥
    ended [] are = some are.are
    ended (one ∷ more) are = none one (records_of (map known_record more)) (record { is = are.are; fits = are.fit.0 }) are.lawful.0

-- where a record says nothing, none that stands there says something
pub says_nothing : (rest : List ℕ) (t : Tagged) (behind : List ℕ) → BeginsRecord rest t behind → IsUnread (IsKnownIn t)
    → (one : List ℕ × Option (List ℕ)) (more : List ℕ) → BeginsRecord rest (known_record one) more → CanBeKnown one → ⊥
says_nothing rest t behind begins none one more other can =
    let same = same_record t (known_record one) behind more begins.fits other.fits (sym begins.is ∙ other.is) in
    none one (record { is = same.0; can = can })
