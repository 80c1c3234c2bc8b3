-- Certificates and requests that can't be read.
use Rattle.std.proofs.Common.{◌≡◌, ℕ, List, [], ◌∷◌, ◌++◌, ◌+◌, ◌<◌, suc, length, Option, Some, None, Any, map, refl, sym, ap, subst, ◌∙◌, arith, length-append, append_assoc}
use Rattle.std.proofs.Math.Seq.{get_or-append_seam}
use Rattle.std.proofs.lemmas.List.Concat.{flat_map-cons}
use Rattle.std.specs.List.{flat_map}
use Rattle.rpki_common.specs.Chaining.{◌>>=◌}
use Rattle.rpki_common.proofs.Truths.{some_none}
use Rattle.rpki_sets.specs.Texts.{read_all}
use Rattle.rpki_updown.specs.Entitlements.{IssuedOf, SigningOf, ClassOf, IssuanceOf, AskedOf}
use Rattle.rpki_provisioning.specs.declared.shape.PayloadShape.TheVariants as shape
use Rattle.rpki_provisioning.specs.Answers.{class_certificates}
use Rattle.rpki_provisioning.specs.Shape.{certificate_of, request_of, issued_by, signing_by, class_by, issuance_by, asked_by, payload_of_shape}

-- ---- one of a list

-- one that has P stands between others
pub record StandsBetween {X : Type 0} (P : X → Type 0) (list : List X) : Type 0 where
  pub front : List X
  pub x : X
  pub back : List X
  pub is : list ≡ front ++ x ∷ back
  pub holds : P x

pub stands : {X : Type 0} (P : X → Type 0) (list : List X) → StandsBetween P list → Any P list
stands {X} P list s = subst (λ (l : List X). Any P l) (sym s.is)
    (length s.front, s.x, before (length s.front) (length (s.front ++ s.x ∷ s.back)) (length s.back) (length-append s.front (s.x ∷ s.back)), get_or-append_seam s.front s.x s.back s.x, s.holds)
  where
    before : (m n k : ℕ) → n ≡ m + suc k → m < n
    before m n k e = omega (arith, e)

in_front : {X : Type 0} (P : X → Type 0) (a b : List X) → StandsBetween P a → StandsBetween P (a ++ b)
in_front {X} P a b s = record { front = s.front; x = s.x; back = s.back ++ b; is = ap (λ (l : List X). l ++ b) s.is ∙ append_assoc s.front (s.x ∷ s.back) b; holds = s.holds }

behind : {X : Type 0} (P : X → Type 0) (a b : List X) → StandsBetween P b → StandsBetween P (a ++ b)
behind {X} P a b s = record { front = a ++ s.front; x = s.x; back = s.back; is = ap (λ (l : List X). a ++ l) s.is ∙ sym (append_assoc a s.front (s.x ∷ s.back)); holds = s.holds }

at_once : {X : Type 0} (P : X → Type 0) (x : X) (b : List X) → P x → StandsBetween P (x ∷ b)
at_once P x b p = record { front = []; x = x; back = b; is = refl; holds = p }

later : {X : Type 0} (P : X → Type 0) (x : X) (b : List X) → StandsBetween P b → StandsBetween P (x ∷ b)
later P x b s = record { front = x ∷ s.front; x = s.x; back = s.back; is = ap (λ l. x ∷ l) s.is; holds = s.holds }

-- ---- where nothing is read, one part isn't

abbrev IsUnread : List ℕ → Type 0
IsUnread octets = certificate_of octets ≡ None

pub none_of_some : {X Y : Type 0} (f : X → Y) (o : Option X) → (o >>= λ x. Some (f x)) ≡ None → o ≡ None
unfolding ◌>>=◌
none_of_some f (Some x) e = absurd (some_none (f x) e)
none_of_some f None e = refl

issued_unread : (i : IssuedOf (List ℕ)) → issued_by certificate_of i ≡ None → IsUnread i.cert
unfolding issued_by
issued_unread i e = none_of_some _ (certificate_of i.cert) e

signing_unread : (s : SigningOf (List ℕ)) → signing_by certificate_of s ≡ None → IsUnread s.cert
unfolding signing_by
signing_unread s e = none_of_some _ (certificate_of s.cert) e

all_issued_cases : (i : IssuedOf (List ℕ)) (more : List (IssuedOf (List ℕ))) {C : Type 0} (o : Option C) (p : Option (List C)) → (o ≡ None → IsUnread i.cert) → (p ≡ None → StandsBetween IsUnread (map (λ j. j.cert) more))
    → (o >>= λ x. p >>= λ xs. Some (x ∷ xs)) ≡ None → StandsBetween IsUnread (map (λ j. j.cert) (i ∷ more))
unfolding ◌>>=◌
all_issued_cases i more None p h k e = at_once IsUnread i.cert (map (λ j. j.cert) more) (h refl)
all_issued_cases i more (Some x) None h k e = later IsUnread i.cert (map (λ j. j.cert) more) (k refl)
all_issued_cases i more (Some x) (Some xs) h k e = absurd (some_none (x ∷ xs) e)

all_issued_unread : (list : List (IssuedOf (List ℕ))) → read_all (issued_by certificate_of) list ≡ None → StandsBetween IsUnread (map (λ i. i.cert) list)
unfolding read_all
all_issued_unread [] e = absurd (some_none [] e)
all_issued_unread (i ∷ more) e = all_issued_cases i more (issued_by certificate_of i) (read_all (issued_by certificate_of) more) (issued_unread i) (all_issued_unread more) e

either_none : {A B C : Type 0} (P : Type 0) (f : A → B → C) (o : Option A) (p : Option B) → (o ≡ None → P) → (p ≡ None → P) → (o >>= λ a. p >>= λ b. Some (f a b)) ≡ None → P
unfolding ◌>>=◌
either_none P f None p h k e = h refl
either_none P f (Some a) None h k e = k refl
either_none P f (Some a) (Some b) h k e = absurd (some_none (f a b) e)

class_unread : (c : ClassOf (List ℕ)) → class_by certificate_of c ≡ None → StandsBetween IsUnread (class_certificates c)
unfolding class_by
class_unread c e =
    either_none (StandsBetween IsUnread (class_certificates c)) _ (read_all (issued_by certificate_of) c.issued_certs) (signing_by certificate_of c.signing_cert)
    (λ none. in_front IsUnread (map (λ i. i.cert) c.issued_certs) (c.signing_cert.cert ∷ []) (all_issued_unread c.issued_certs none))
    (λ none. behind IsUnread (map (λ i. i.cert) c.issued_certs) (c.signing_cert.cert ∷ []) (at_once IsUnread c.signing_cert.cert [] (signing_unread c.signing_cert none))) e

classes_unread : (list : List (ClassOf (List ℕ))) → read_all (class_by certificate_of) list ≡ None → StandsBetween IsUnread (flat_map class_certificates list)
unfolding read_all
classes_unread [] e = absurd (some_none [] e)
classes_unread (c ∷ more) e = subst (λ (l : List (List ℕ)). StandsBetween IsUnread l) (sym (flat_map-cons class_certificates c more))
    (either_none (StandsBetween IsUnread (class_certificates c ++ flat_map class_certificates more)) (λ x xs. x ∷ xs) (class_by certificate_of c) (read_all (class_by certificate_of) more)
    (λ none. in_front IsUnread (class_certificates c) (flat_map class_certificates more) (class_unread c none))
    (λ none. behind IsUnread (class_certificates c) (flat_map class_certificates more) (classes_unread more none)) e)

issuance_unread : (i : IssuanceOf (List ℕ)) → issuance_by certificate_of i ≡ None → StandsBetween IsUnread (i.issued_cert.cert ∷ i.signing_cert.cert ∷ [])
unfolding issuance_by
issuance_unread i e =
    either_none (StandsBetween IsUnread (i.issued_cert.cert ∷ i.signing_cert.cert ∷ [])) _ (issued_by certificate_of i.issued_cert) (signing_by certificate_of i.signing_cert)
    (λ none. at_once IsUnread i.issued_cert.cert (i.signing_cert.cert ∷ []) (issued_unread i.issued_cert none))
    (λ none. later IsUnread i.issued_cert.cert (i.signing_cert.cert ∷ []) (at_once IsUnread i.signing_cert.cert [] (signing_unread i.signing_cert none))) e

pub asked_unread : (a : AskedOf (List ℕ)) → asked_by request_of a ≡ None → request_of a.csr ≡ None
unfolding asked_by
asked_unread a e = none_of_some _ (request_of a.csr) e

pub list_unread : (classes : List (ClassOf (List ℕ))) → payload_of_shape (shape.ListResponse classes) ≡ None → Any IsUnread (flat_map class_certificates classes)
unfolding payload_of_shape
list_unread classes e = stands IsUnread (flat_map class_certificates classes) (classes_unread classes (none_of_some _ (read_all (class_by certificate_of) classes) e))

pub response_unread : (i : IssuanceOf (List ℕ)) → payload_of_shape (shape.IssueResponse i) ≡ None → Any IsUnread (i.issued_cert.cert ∷ i.signing_cert.cert ∷ [])
unfolding payload_of_shape
response_unread i e = stands IsUnread (i.issued_cert.cert ∷ i.signing_cert.cert ∷ []) (issuance_unread i (none_of_some _ (issuance_by certificate_of i) e))

pub issue_unread : (a : AskedOf (List ℕ)) → payload_of_shape (shape.Issue a) ≡ None → request_of a.csr ≡ None
unfolding payload_of_shape
issue_unread a e = asked_unread a (none_of_some _ (asked_by request_of a) e)
