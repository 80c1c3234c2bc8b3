-- What the fourteen checks mean: schemes that answer alike, and the moments at which they hold.
use Rattle.std.proofs.Common.{◌≡◌, ℕ, ◌+◌, ℤ, ◌≤ℤ◌, ◌⊎◌, inl, inr, Bool, true, false, Result, Ok, Err, List, [], ◌∷◌, refl, sym, ap, ◌∙◌}
use Rattle.std.specs.Int.Signed.{le_z_yes}
use Rattle.std.proofs.lemmas.Float.{T_from_true}
use Rattle.std.specs.Prelude.{T, ◌↔◌, int_le, ◌&&◌, not, bytes_eq, Decides, OnOk}
use Rattle.std.specs.List.{list_all, AllByRecursion}
use Rattle.std.proofs.Math.Logic.{⊎_map}
use Rattle.std.proofs.lemmas.List.Elements.{All-from_recursion}
use Rattle.sha2.specs.Sha256.{sha256}
use Rattle.rpki_base.specs.PublicKey.{KeyFields, names_issuer}
use Rattle.rpki_base.specs.Scheme.{Relation}
use Rattle.rpki_base.specs.Checks.{first_failure, failing, IsSigned}
use Rattle.rpki_idcert.specs.Checks.{has_own_identifier, is_true}
use Rattle.rpki_base.specs.declared.validation.ValidationError.{ValidationError}
use Rattle.rpki_base.proofs.Checking.{passes, passed, failed}
use Rattle.rpki_base.proofs.Believing.{decides_yes, none_failing, held_where_ok, passes_where_ok, ok_where_passes}
use Rattle.rpki_sigmsg.specs.Crl.{CrlFields}
use Rattle.rpki_sigmsg.specs.CrlChecks.{same_algorithm, crl_checks, crl_kind, AreCrlsSigned, IsListBelieved}
use Rattle.rpki_sigmsg.specs.Message.{MessageFields}
use Rattle.rpki_sigmsg.specs.Checks.{checks, message_checks, key_checks, kind_of, is_not_revoked, AreAttributesSigned, Asked, AreSigned, IsBelieved, IsValidation, SameAnswers, Passes, IsInSpan}
use Rattle.rpki_common.proofs.Truths.{are_true}

-- ---- what is believed

pub on_ok_always : {T E P : Type 0} (r : Result T E) → P → OnOk r P
on_ok_always (Ok x) p = p
on_ok_always (Err e) p = tt

-- the three questions, where each is answered by yes
abbrev pub all_signed : (scheme : Relation) (m : MessageFields) (issuer : KeyFields) → AreSigned scheme m issuer → Asked scheme m issuer
all_signed scheme m issuer s = record { q3 = true; q8 = true; q10 = true; attributes = decides_yes s.attributes; certificate = decides_yes s.certificate; crls = decides_yes s.crls }

pub believed : (scheme : Relation) (m : MessageFields) (issuer : KeyFields) (when : ℤ) (r : Result (Unit {0}) ValidationError) → OnOk r (AreSigned scheme m issuer)
    → ((q : Asked scheme m issuer) → r ≡ failing kind_of (first_failure 1 (checks m issuer when q.q3 q.q8 q.q10))) → (r ≡ Ok tt) ↔ IsBelieved scheme m issuer when
believed scheme m issuer when r signed first = (
  (λ e. let s = held_where_ok r signed e in
      record { signatures = s; passes = none_failing kind_of (first_failure 1 (checks m issuer when true true true)) (sym e ∙ first (all_signed scheme m issuer s)) }),
  (λ b. first (all_signed scheme m issuer b.signatures) ∙ ap (failing kind_of) b.passes),
)

held_where_passed : {S : Type 0} (r : Result (Unit {0}) ℕ) → OnOk r S → r ≡ Ok tt → S
held_where_passed (Ok u) s e = s
held_where_passed (Err n) s e = cc

-- the number of the first failing check tells whether the message is believed
pub number_believed : (scheme : Relation) (m : MessageFields) (issuer : KeyFields) (when : ℤ) (r : Result (Unit {0}) ℕ) → OnOk r (AreSigned scheme m issuer)
    → ((q : Asked scheme m issuer) → r ≡ first_failure 1 (checks m issuer when q.q3 q.q8 q.q10)) → (r ≡ Ok tt) ↔ IsBelieved scheme m issuer when
number_believed scheme m issuer when r signed first = (
  (λ e. let s = held_where_passed r signed e in record { signatures = s; passes = sym (first (all_signed scheme m issuer s)) ∙ e }),
  (λ b. first (all_signed scheme m issuer b.signatures) ∙ b.passes),
)

-- a list of one CRL
pub decides_one : (scheme : Relation) (c : CrlFields) (issuer : KeyFields) (q : Bool) → Decides q (IsSigned scheme c issuer) → Decides q (AreCrlsSigned scheme (c ∷ []) issuer)
decides_one scheme c issuer q d = (λ e. (d.0 e, tt), λ s. d.1 s.0)

one_signed : (P : Type 0) (r : Result (Unit {0}) ValidationError) → OnOk r (P × Unit {0}) → OnOk r P
one_signed P (Ok x) s = s.0
one_signed P (Err e) s = tt

pub list_believed : (scheme : Relation) (c : CrlFields) (issuer : KeyFields) (when : ℤ) (r : Result (Unit {0}) ValidationError) → OnOk r (AreCrlsSigned scheme (c ∷ []) issuer)
    → ((q : Bool) → Decides q (AreCrlsSigned scheme (c ∷ []) issuer) → r ≡ failing crl_kind (first_failure 9 (crl_checks (c ∷ []) issuer when q))) → (r ≡ Ok tt) ↔ IsListBelieved scheme c issuer when
list_believed scheme c issuer when r signed first =
    let asked : (q : Bool) → Decides q (IsSigned scheme c issuer) → r ≡ failing crl_kind (first_failure 9 (crl_checks (c ∷ []) issuer when q)) = λ q d. first q (decides_one scheme c issuer q d) in (
      (λ e. let s = held_where_ok r (one_signed (IsSigned scheme c issuer) r signed) e in
          record { signed = s; passes = passes_where_ok crl_kind (IsSigned scheme c issuer) 9 (crl_checks (c ∷ []) issuer when) r asked s e }),
      (λ b. ok_where_passes crl_kind (IsSigned scheme c issuer) 9 (crl_checks (c ∷ []) issuer when) r asked b.signed b.passes),
    )

-- ---- checks 1 to 3 first, and then 4 to 14 under a key

pub said_of_all : (scheme : Relation) (m : MessageFields) (key : KeyFields) (when : ℤ) (r : Result (Unit {0}) ℕ)
    → ((q3 : Bool) → Decides q3 (AreAttributesSigned scheme m) → Ok tt ≡ first_failure 1 (message_checks m q3))
    → ((q8 q10 : Bool) → Decides q8 (IsSigned scheme m.certificate key) → Decides q10 (AreCrlsSigned scheme m.crls key) → r ≡ first_failure 4 (key_checks m key when q8 q10))
    → (q : Asked scheme m key) → r ≡ first_failure 1 (checks m key when q.q3 q.q8 q.q10)
said_of_all scheme m key when r own under q = under q.q8 q.q10 q.certificate q.crls ∙ sym (passed 1 (message_checks m q.q3) _ _ (own q.q3 q.attributes))

pub signed_of_all : (scheme : Relation) (m : MessageFields) (key : KeyFields) (r : Result (Unit {0}) ℕ) → AreAttributesSigned scheme m → OnOk r (IsSigned scheme m.certificate key) → OnOk r (AreCrlsSigned scheme m.crls key) → OnOk r (AreSigned scheme m key)
signed_of_all scheme m key (Ok u) a c l = record { attributes = a; certificate = c; crls = l }
signed_of_all scheme m key (Err n) a c l = tt

-- where one of the first three fails, it is what fails under every key
pub said_of_none : (scheme : Relation) (m : MessageFields) (key : KeyFields) (when : ℤ) (n : ℕ)
    → ((q3 : Bool) → Decides q3 (AreAttributesSigned scheme m) → Err n ≡ first_failure 1 (message_checks m q3)) → (q : Asked scheme m key) → Err n ≡ first_failure 1 (checks m key when q.q3 q.q8 q.q10)
said_of_none scheme m key when n own q = sym (failed 1 (message_checks m q.q3) _ _ (own q.q3 q.attributes))

-- ---- two schemes

pub moved : {P Q : Type 0} (b : Bool) → P ↔ Q → Decides b P → Decides b Q
moved b w d = (λ e. w.0 (d.0 e), λ q. d.1 (w.1 q))

pub turned : {P Q : Type 0} → P ↔ Q → Q ↔ P
turned w = (w.1, w.0)

unfoldable pub asked_too : (s t : Relation) (m : MessageFields) (issuer : KeyFields) (r : Asked t m issuer) → SameAnswers s t m issuer → Asked s m issuer
asked_too s t m issuer r w = record {
  q3 = r.q3;
  q8 = r.q8;
  q10 = r.q10;
  attributes = moved _ (turned w.attributes) r.attributes;
  certificate = moved _ (turned w.certificate) r.certificate;
  crls = moved _ (turned w.crls) r.crls;
}

pub believed_too : (s t : Relation) (m : MessageFields) (issuer : KeyFields) (when : ℤ) → SameAnswers s t m issuer → IsBelieved s m issuer when → IsBelieved t m issuer when
believed_too s t m issuer when w b = record {
  signatures = record {
    attributes = w.attributes.0 b.signatures.attributes;
    certificate = w.certificate.0 b.signatures.certificate;
    crls = w.crls.0 b.signatures.crls;
  };
  passes = b.passes;
}

pub same_back : (s t : Relation) (m : MessageFields) (issuer : KeyFields) → SameAnswers s t m issuer → SameAnswers t s m issuer
same_back s t m issuer w = record { attributes = turned w.attributes; certificate = turned w.certificate; crls = turned w.crls }

pub same_validation : (s t : Relation) (m : MessageFields) (issuer : KeyFields) (when : ℤ) (answer : Result (Unit {0}) ValidationError) → SameAnswers s t m issuer → IsValidation s m issuer when answer → IsValidation t m issuer when answer
unfolding asked_too
same_validation s t m issuer when answer w v = record {
  believed = (
    (λ e. believed_too s t m issuer when w (v.believed.0 e)),
    (λ b. v.believed.1 (believed_too t s m issuer when (same_back s t m issuer w) b)),
  );
  first_failing = λ r. v.first_failing (asked_too s t m issuer r w);
}

-- ---- one span of moments

true_is : (b : Bool) → T b → b ≡ true
true_is true t = refl
true_is false t = absurd t

at_most : (a b : ℤ) → int_le a b ≡ true → a ≤ℤ b
at_most a b e = le_z_yes (T_from_true (int_le a b) e)

is_at_most : (a b : ℤ) → a ≤ℤ b → int_le a b ≡ true
is_at_most a b l = true_is (int_le a b) l.le

left_true : (a b : Bool) → (a && b) ≡ true → a ≡ true
left_true true b e = refl
left_true false b e = cc

right_true : (a b : Bool) → (a && b) ≡ true → b ≡ true
right_true true b e = e
right_true false b e = cc

-- a test of each element that holds of the list proves what it tests of each
each_from : {X : Type 0} (f : X → Bool) (P : X → Type 0) → ((x : X) → f x ≡ true → P x) → (xs : List X) → list_all f xs ≡ true → AllByRecursion P xs
each_from f P h [] e = tt
each_from f P h (x ∷ xs) e = (h x (left_true (f x) (list_all f xs) e), each_from f P h xs (right_true (f x) (list_all f xs) e))

from_each : {X : Type 0} (f : X → Bool) (P : X → Type 0) → ((x : X) → P x → f x ≡ true) → (xs : List X) → AllByRecursion P xs → list_all f xs ≡ true
from_each f P h [] a = refl
from_each f P h (x ∷ xs) a = are_true (f x) (list_all f xs) (h x a.0) (from_each f P h xs a.1)

abbrev pub IsSo : Bool → Type 0
IsSo b = b ≡ true

abbrev pub AreSo : List Bool → Type 0
AreSo list = AllByRecursion IsSo list

pub all_hold : (n : ℕ) (list : List Bool) → first_failure n list ≡ Ok tt → AreSo list
all_hold n [] e = tt
all_hold n (true ∷ more) e = (refl, all_hold (n + 1) more e)
all_hold n (false ∷ more) e = cc

none_fails : (n : ℕ) (list : List Bool) → AreSo list → first_failure n list ≡ Ok tt
none_fails n list h = passes n list (All-from_recursion IsSo list h)

decided : (list : List Bool) → ((AreSo list → ⊥) ⊎ AreSo list)
decided [] = inr tt
decided (false ∷ more) = inl (λ h. let e : false ≡ true = h.0 in cc)
decided (true ∷ more) = ⊎_map (λ no h. no h.1) (λ yes. (refl, yes)) (decided more)

-- the checks that don't depend on the moment
abbrev others : MessageFields → KeyFields → Bool → Bool → Bool → List Bool
others m k q3 q8 q10 =
    bytes_eq m.signer m.certificate.tbs.subject_key_id
    ∷ bytes_eq (sha256 m.content) m.digest
    ∷ q3
    ∷ has_own_identifier m.certificate.tbs
    ∷ names_issuer m.certificate.tbs.authority_key_id k
    ∷ not (is_true m.certificate.tbs.basic_ca)
    ∷ q8
    ∷ list_all (λ c. same_algorithm c.tbs.algorithm c.signed.signature.algorithm) m.crls
    ∷ q10
    ∷ list_all (λ c. names_issuer c.tbs.authority_key_id k) m.crls
    ∷ is_not_revoked m
    ∷ []

without_moment : (m : MessageFields) (k : KeyFields) (q3 q8 q10 : Bool) (when : ℤ) → AreSo (checks m k when q3 q8 q10) → AreSo (others m k q3 q8 q10)
without_moment m k q3 q8 q10 when (a1, (a2, (a3, (a4, (a5, (a6, (a7, (a8, (a9, (a10, (a11, (a12, (a13, (a14, u)))))))))))))) = (a1, (a2, (a3, (a4, (a6, (a7, (a8, (a9, (a10, (a13, (a14, u)))))))))))

span_of : (m : MessageFields) (k : KeyFields) (q3 q8 q10 : Bool) (when : ℤ) → AreSo (checks m k when q3 q8 q10) → IsInSpan m when
span_of m k q3 q8 q10 when (a1, (a2, (a3, (a4, (a5, (a6, (a7, (a8, (a9, (a10, (a11, (a12, (a13, (a14, u)))))))))))))) = record {
  not_before = at_most _ _ (left_true _ _ a5);
  this_updates = each_from (λ c. int_le c.tbs.this_update when) _ (λ c e. at_most c.tbs.this_update when e) m.crls a11;
  not_after = at_most _ _ (right_true _ _ a5);
  next_updates = each_from (λ c. int_le when c.tbs.next_update) _ (λ c e. at_most when c.tbs.next_update e) m.crls a12;
}

in_span : (m : MessageFields) (k : KeyFields) (q3 q8 q10 : Bool) (when : ℤ) → AreSo (others m k q3 q8 q10) → IsInSpan m when → AreSo (checks m k when q3 q8 q10)
in_span m k q3 q8 q10 when (a1, (a2, (a3, (a4, (a6, (a7, (a8, (a9, (a10, (a13, (a14, u))))))))))) s =
    (a1, (a2, (a3, (a4, (are_true _ _ (is_at_most _ _ s.not_before) (is_at_most _ _ s.not_after), (a6, (a7, (a8, (a9, (a10, (from_each (λ c. int_le c.tbs.this_update when) _ (λ c l. is_at_most c.tbs.this_update when l) m.crls s.this_updates, (from_each (λ c. int_le when c.tbs.next_update) _ (λ c l. is_at_most when c.tbs.next_update l) m.crls s.next_updates, (a13, (a14, u))))))))))))))

pub one_span : (m : MessageFields) (k : KeyFields) (q3 q8 q10 : Bool) → ((when : ℤ) → Passes m k q3 q8 q10 when → ⊥) ⊎ ((when : ℤ) → Passes m k q3 q8 q10 when ↔ IsInSpan m when)
one_span m k q3 q8 q10 = ⊎_map
    (λ no when p. no (without_moment m k q3 q8 q10 when (all_hold 1 (checks m k when q3 q8 q10) p)))
    (λ yes when. (λ p. span_of m k q3 q8 q10 when (all_hold 1 (checks m k when q3 q8 q10) p), λ s. none_fails 1 (checks m k when q3 q8 q10) (in_span m k q3 q8 q10 when yes s)))
    (decided (others m k q3 q8 q10))

-- one moment at which a message is believed makes all of the span such ones
pub believed_within : (scheme : Relation) (m : MessageFields) (k : KeyFields) (when : ℤ) → IsBelieved scheme m k when → IsInSpan m when
believed_within scheme m k when b = span_of m k true true true when (all_hold 1 (checks m k when true true true) b.passes)

pub believed_then : (scheme : Relation) (m : MessageFields) (k : KeyFields) (one when : ℤ) → IsBelieved scheme m k one → IsInSpan m when → IsBelieved scheme m k when
believed_then scheme m k one when b s = record {
  signatures = b.signatures;
  passes = none_fails 1 (checks m k when true true true) (in_span m k true true true when (without_moment m k true true true one (all_hold 1 (checks m k one true true true) b.passes)) s);
}
