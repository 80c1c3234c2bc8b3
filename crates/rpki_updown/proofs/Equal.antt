-- `==` of what holds certificates holds exactly between what is the same with f of each certificate in its place, where `==` of
-- certificates holds exactly between those of which f is the same.
use Rattle.std.proofs.Common.{◌≡◌, ◌↔◌, ℕ, Bool, true, List, [], ◌∷◌, map, refl, sym, ap}
use Rattle.std.specs.Prelude.{◌&&◌, nat_eq}
use Rattle.std.specs.Cmp.Lexicographic.{pointwise}
use Rattle.std.specs.Ordering.{int_eq}
use Rattle.std.proofs.lemmas.Bool.{false≢true, and_parts, and_from, eqb-true, eq-eqb}
use Rattle.std.proofs.lemmas.Bool.Decides.{Decides-int_eq}
use Rattle.rpki_sets.specs.Resources as sets
use Rattle.rpki_sets.proofs.EqualRuns.{same_lists}
use Rattle.rpki_updown.specs.Entitlements.{IssuedOf, SigningOf, ClassOf, IssuanceOf, issued_with, signing_with, class_with, issuance_with}
use Rattle.rpki_updown.specs.RequestResourceLimit.{LimitFields}
use Rattle.rpki_updown.specs.RequestResourceLimit as limits
use Rattle.rpki_updown.proofs.Limits.{limits_same}

abbrev pub AreAlike : {K L : Type 0} → (K → K → Bool) → (K → L) → Type 0
AreAlike {K} eq f = (a b : K) → (eq a b ≡ true) ↔ (f a ≡ f b)

-- ---- lists

same_cons : {K : Type 0} (x y : K) (xs ys : List K) → x ≡ y → xs ≡ ys → x ∷ xs ≡ y ∷ ys
same_cons x y xs ys p q = λ i. p i ∷ q i

heads : {K : Type 0} (x y : K) (xs ys : List K) → x ∷ xs ≡ y ∷ ys → x ≡ y
heads x y xs ys e = cc

tails : {K : Type 0} (x y : K) (xs ys : List K) → x ∷ xs ≡ y ∷ ys → xs ≡ ys
tails x y xs ys e = cc

none_more : {K : Type 0} (x : K) (xs : List K) → [] ≡ x ∷ xs → ⊥
none_more x xs e = cc

lists_to : {K L : Type 0} (eq : K → K → Bool) (f : K → L) → AreAlike eq f → (xs ys : List K) → pointwise eq xs ys ≡ true → map f xs ≡ map f ys
lists_to eq f h [] [] e = refl
lists_to eq f h [] (y ∷ ys) e = absurd (false≢true e)
lists_to eq f h (x ∷ xs) [] e = absurd (false≢true e)
lists_to eq f h (x ∷ xs) (y ∷ ys) e =
    let p = and_parts (eq x y) (pointwise eq xs ys) e in
    same_cons (f x) (f y) (map f xs) (map f ys) ((h x y).0 p.0) (lists_to eq f h xs ys p.1)

lists_from : {K L : Type 0} (eq : K → K → Bool) (f : K → L) → AreAlike eq f → (xs ys : List K) → map f xs ≡ map f ys → pointwise eq xs ys ≡ true
lists_from eq f h [] [] e = refl
lists_from eq f h [] (y ∷ ys) e = absurd (none_more (f y) (map f ys) e)
lists_from eq f h (x ∷ xs) [] e = absurd (none_more (f x) (map f xs) (sym e))
lists_from eq f h (x ∷ xs) (y ∷ ys) e =
    and_from (eq x y) (pointwise eq xs ys) ((h x y).1 (heads (f x) (f y) (map f xs) (map f ys) e)) (lists_from eq f h xs ys (tails (f x) (f y) (map f xs) (map f ys) e))

pub lists_alike : {K L : Type 0} (eq : K → K → Bool) (f : K → L) → AreAlike eq f → AreAlike (pointwise eq) (map f)
lists_alike eq f h xs ys = (lists_to eq f h xs ys, lists_from eq f h xs ys)

-- ---- parts without certificates

octets_to : (xs ys : List ℕ) → pointwise nat_eq xs ys ≡ true → xs ≡ ys
octets_to [] [] e = refl
octets_to [] (y ∷ ys) e = absurd (false≢true e)
octets_to (x ∷ xs) [] e = absurd (false≢true e)
octets_to (x ∷ xs) (y ∷ ys) e =
    let p = and_parts (nat_eq x y) (pointwise nat_eq xs ys) e in
    same_cons x y xs ys (eqb-true x y p.0) (octets_to xs ys p.1)

octets_itself : (xs : List ℕ) → pointwise nat_eq xs xs ≡ true
octets_itself [] = refl
octets_itself (x ∷ xs) = and_from (nat_eq x x) (pointwise nat_eq xs xs) (eq-eqb x x refl) (octets_itself xs)

octets_from : (xs ys : List ℕ) → xs ≡ ys → pointwise nat_eq xs ys ≡ true
octets_from xs ys e = rw e (octets_itself ys)

limits_from : (a b : LimitFields) → a ≡ b → limits.are_same a b ≡ true
limits_from a b e = (limits_same a b).1 e

sets_to : (a b : sets.Resources) → sets.are_same a b ≡ true → a ≡ b
sets_to a b e =
    let p = and_parts _ _ e in
    let q = and_parts _ _ p.1 in
    let asn = (same_lists a.asn b.asn _ refl).0 p.0 in
    let ipv4 = (same_lists a.ipv4 b.ipv4 _ refl).0 q.0 in
    let ipv6 = (same_lists a.ipv6 b.ipv6 _ refl).0 q.1 in
    λ i. record { asn = asn i; ipv4 = ipv4 i; ipv6 = ipv6 i }

sets_itself : (a : sets.Resources) → sets.are_same a a ≡ true
sets_itself a = and_from _ _ ((same_lists a.asn a.asn _ refl).1 refl) (and_from _ _ ((same_lists a.ipv4 a.ipv4 _ refl).1 refl) ((same_lists a.ipv6 a.ipv6 _ refl).1 refl))

sets_from : (a b : sets.Resources) → a ≡ b → sets.are_same a b ≡ true
sets_from a b e = rw e (sets_itself b)

-- ---- records with certificates

abbrev pub issued_eq : {C : Type 0} → (C → C → Bool) → IssuedOf C → IssuedOf C → Bool
issued_eq eq a b = pointwise nat_eq a.uri b.uri && (limits.are_same a.req_limit b.req_limit && eq a.cert b.cert)

abbrev pub signing_eq : {C : Type 0} → (C → C → Bool) → SigningOf C → SigningOf C → Bool
signing_eq eq a b = pointwise nat_eq a.url b.url && eq a.cert b.cert

abbrev pub class_eq : {C : Type 0} → (C → C → Bool) → ClassOf C → ClassOf C → Bool
class_eq eq a b =
    pointwise nat_eq a.class_name b.class_name && (sets.are_same a.resource_set b.resource_set && (int_eq a.not_after b.not_after
    && (pointwise (issued_eq eq) a.issued_certs b.issued_certs && signing_eq eq a.signing_cert b.signing_cert)))

abbrev pub issuance_eq : {C : Type 0} → (C → C → Bool) → IssuanceOf C → IssuanceOf C → Bool
issuance_eq eq a b =
    pointwise nat_eq a.class_name b.class_name && (sets.are_same a.resource_set b.resource_set && (int_eq a.not_after b.not_after
    && (issued_eq eq a.issued_cert b.issued_cert && signing_eq eq a.signing_cert b.signing_cert)))

module _ {C D : Type 0} (eq : C → C → Bool) (f : C → D) (h : AreAlike eq f) where
  issued_to : (a b : IssuedOf C) → issued_eq eq a b ≡ true → issued_with f a ≡ issued_with f b
  issued_to a b e =
      let p = and_parts _ _ e in
      let q = and_parts _ _ p.1 in
      let uri = octets_to a.uri b.uri p.0 in
      let limit = (limits_same a.req_limit b.req_limit).0 q.0 in
      let cert = (h a.cert b.cert).0 q.1 in
      λ i. record { uri = uri i; req_limit = limit i; cert = cert i }

  issued_from : (a b : IssuedOf C) → issued_with f a ≡ issued_with f b → issued_eq eq a b ≡ true
  issued_from a b e =
      and_from _ _ (octets_from a.uri b.uri (ap (λ (c : IssuedOf D). c.uri) e))
      (and_from _ _ (limits_from a.req_limit b.req_limit (ap (λ (c : IssuedOf D). c.req_limit) e))
      ((h a.cert b.cert).1 (ap (λ (c : IssuedOf D). c.cert) e)))

  pub issued_alike : AreAlike (issued_eq eq) (issued_with f)
  issued_alike a b = (issued_to a b, issued_from a b)

  signing_to : (a b : SigningOf C) → signing_eq eq a b ≡ true → signing_with f a ≡ signing_with f b
  signing_to a b e =
      let p = and_parts _ _ e in
      let url = octets_to a.url b.url p.0 in
      let cert = (h a.cert b.cert).0 p.1 in
      λ i. record { url = url i; cert = cert i }

  signing_from : (a b : SigningOf C) → signing_with f a ≡ signing_with f b → signing_eq eq a b ≡ true
  signing_from a b e =
      and_from _ _ (octets_from a.url b.url (ap (λ (c : SigningOf D). c.url) e)) ((h a.cert b.cert).1 (ap (λ (c : SigningOf D). c.cert) e))

  pub signing_alike : AreAlike (signing_eq eq) (signing_with f)
  signing_alike a b = (signing_to a b, signing_from a b)

  class_to : (a b : ClassOf C) → class_eq eq a b ≡ true → class_with f a ≡ class_with f b
  class_to a b e =
      let p = and_parts _ _ e in
      let q = and_parts _ _ p.1 in
      let r = and_parts _ _ q.1 in
      let s = and_parts _ _ r.1 in
      let name = octets_to a.class_name b.class_name p.0 in
      let set = sets_to a.resource_set b.resource_set q.0 in
      let until = (Decides-int_eq a.not_after b.not_after).0 r.0 in
      let issued = lists_to (issued_eq eq) (issued_with f) issued_alike a.issued_certs b.issued_certs s.0 in
      let signing = signing_to a.signing_cert b.signing_cert s.1 in
      λ i. record { class_name = name i; resource_set = set i; not_after = until i; issued_certs = issued i; signing_cert = signing i }

  class_from : (a b : ClassOf C) → class_with f a ≡ class_with f b → class_eq eq a b ≡ true
  class_from a b e =
      and_from _ _ (octets_from a.class_name b.class_name (ap (λ (c : ClassOf D). c.class_name) e))
      (and_from _ _ (sets_from a.resource_set b.resource_set (ap (λ (c : ClassOf D). c.resource_set) e))
      (and_from _ _ ((Decides-int_eq a.not_after b.not_after).1 (ap (λ (c : ClassOf D). c.not_after) e))
      (and_from _ _ (lists_from (issued_eq eq) (issued_with f) issued_alike a.issued_certs b.issued_certs (ap (λ (c : ClassOf D). c.issued_certs) e))
      (signing_from a.signing_cert b.signing_cert (ap (λ (c : ClassOf D). c.signing_cert) e)))))

  pub class_alike : AreAlike (class_eq eq) (class_with f)
  class_alike a b = (class_to a b, class_from a b)

  issuance_to : (a b : IssuanceOf C) → issuance_eq eq a b ≡ true → issuance_with f a ≡ issuance_with f b
  issuance_to a b e =
      let p = and_parts _ _ e in
      let q = and_parts _ _ p.1 in
      let r = and_parts _ _ q.1 in
      let s = and_parts _ _ r.1 in
      let name = octets_to a.class_name b.class_name p.0 in
      let set = sets_to a.resource_set b.resource_set q.0 in
      let until = (Decides-int_eq a.not_after b.not_after).0 r.0 in
      let issued = issued_to a.issued_cert b.issued_cert s.0 in
      let signing = signing_to a.signing_cert b.signing_cert s.1 in
      λ i. record { class_name = name i; resource_set = set i; not_after = until i; issued_cert = issued i; signing_cert = signing i }

  issuance_from : (a b : IssuanceOf C) → issuance_with f a ≡ issuance_with f b → issuance_eq eq a b ≡ true
  issuance_from a b e =
      and_from _ _ (octets_from a.class_name b.class_name (ap (λ (c : IssuanceOf D). c.class_name) e))
      (and_from _ _ (sets_from a.resource_set b.resource_set (ap (λ (c : IssuanceOf D). c.resource_set) e))
      (and_from _ _ ((Decides-int_eq a.not_after b.not_after).1 (ap (λ (c : IssuanceOf D). c.not_after) e))
      (and_from _ _ (issued_from a.issued_cert b.issued_cert (ap (λ (c : IssuanceOf D). c.issued_cert) e))
      (signing_from a.signing_cert b.signing_cert (ap (λ (c : IssuanceOf D). c.signing_cert) e)))))

  pub issuance_alike : AreAlike (issuance_eq eq) (issuance_with f)
  issuance_alike a b = (issuance_to a b, issuance_from a b)
