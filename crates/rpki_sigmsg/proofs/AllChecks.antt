-- What the list of all fourteen checks tells.
use Rattle.std.proofs.Common.{◌≡◌, ℕ, ℤ, Bool, true, false, Result, Ok, Err, List, [], ◌∷◌, refl, sym, ap, subst, ◌∙◌}
use Rattle.std.specs.Prelude.{◌↔◌, All, Decides, bytes_eq, slice_index_or}
use Rattle.std.proofs.lemmas.List.Elements.{All-from_recursion, recursion_from_All}
use Rattle.std.proofs.lemmas.Slice.Eq.{bytes_eq-Decides}
use Rattle.sha2.specs.Sha256.{sha256}
use Rattle.rpki_base.specs.PublicKey.{KeyFields}
use Rattle.rpki_base.specs.Scheme.{Relation}
use Rattle.rpki_base.specs.Checks.{first_failure, failing, FirstFalse, IsSigned}
use Rattle.rpki_base.specs.declared.validation.ValidationError.{ValidationError}
use Rattle.rpki_base.specs.declared.validation.ValidationKind.{ValidationKind}
use Rattle.rpki_base.proofs.Checking.{passes, fails}
use Rattle.rpki_idcert.specs.IdCert.{CertificateFields}
use Rattle.rpki_idcert.specs.Checks.{ee_checks, AreEeChecks}
use Rattle.rpki_sigmsg.specs.Crl.{CrlFields}
use Rattle.rpki_sigmsg.specs.CrlChecks.{crl_checks, AreCrlsSigned, AreCrlChecks}
use Rattle.rpki_sigmsg.specs.Message.{MessageFields}
use Rattle.rpki_sigmsg.specs.Checks.{checks, is_not_revoked, kind_of, AreAttributesSigned, Asked, AreChecks, AreSigned, IsBelieved, IsValidation}
use Rattle.rpki_sigmsg.proofs.Meaning.{AreSo, all_hold, all_signed}

-- ---- a question has one answer

same_answer : {P : Type 0} (a b : Bool) → Decides a P → Decides b P → a ≡ b
same_answer true b d e = sym (e.1 (d.0 refl))
same_answer false true d e = let no : false ≡ true = d.1 (e.0 refl) in cc
same_answer false false d e = refl

pub by_any_answers : (scheme : Relation) (m : MessageFields) (issuer : KeyFields) (when : ℤ) (list : List Bool) → AreChecks scheme m issuer when list → (q : Asked scheme m issuer) → list ≡ checks m issuer when q.q3 q.q8 q.q10
by_any_answers scheme m issuer when list h q =
    let a = h.asked in
    let e3 : a.q3 ≡ q.q3 = same_answer a.q3 q.q3 a.attributes q.attributes in
    let e8 : a.q8 ≡ q.q8 = same_answer a.q8 q.q8 a.certificate q.certificate in
    let e10 : a.q10 ≡ q.q10 = same_answer a.q10 q.q10 a.crls q.crls in
    h.are ∙ (ap (λ x. checks m issuer when x a.q8 a.q10) e3 ∙ (ap (λ x. checks m issuer when q.q3 x a.q10) e8 ∙ ap (λ x. checks m issuer when q.q3 q.q8 x) e10))

-- ---- what is believed

signed_by : (scheme : Relation) (m : MessageFields) (issuer : KeyFields) (when : ℤ) (q : Asked scheme m issuer) → AreSo (checks m issuer when q.q3 q.q8 q.q10) → AreSigned scheme m issuer
signed_by scheme m issuer when q (a1, (a2, (a3, (a4, (a5, (a6, (a7, (a8, (a9, (a10, more)))))))))) = record { attributes = q.attributes.0 a3; certificate = q.certificate.0 a8; crls = q.crls.0 a10 }

pub all_believed : (scheme : Relation) (m : MessageFields) (issuer : KeyFields) (when : ℤ) (list : List Bool) → AreChecks scheme m issuer when list → All (λ b. b ≡ true) list ↔ IsBelieved scheme m issuer when
all_believed scheme m issuer when list h = (
  (λ all.
      let so : AreSo list = recursion_from_All (λ b. b ≡ true) list all in
      let s = signed_by scheme m issuer when h.asked (subst AreSo h.are so) in
      record { signatures = s; passes = sym (ap (first_failure 1) (by_any_answers scheme m issuer when list h (all_signed scheme m issuer s))) ∙ passes 1 list all }),
  (λ b.
      let e = by_any_answers scheme m issuer when list h (all_signed scheme m issuer b.signatures) in
      All-from_recursion (λ b. b ≡ true) list (subst AreSo (sym e) (all_hold 1 (checks m issuer when true true true) b.passes))),
)

-- ---- what `validate_at` answers

failed_by : (kind : ℕ → ValidationKind) (r : Result (Unit {0}) ℕ) (failed : ValidationError) → failing kind r ≡ Err failed → (r ≡ Err failed.check) × (failed.kind ≡ kind failed.check)
failed_by kind (Ok u) failed e = cc
failed_by kind (Err n) failed e = let same : record { kind = kind n; check = n } ≡ failed = cc in (ap (λ (x : ValidationError). Err x.check) same, sym (ap (λ (x : ValidationError). x.kind) same) ∙ ap (λ (x : ValidationError). kind x.check) same)

pub named : (scheme : Relation) (m : MessageFields) (issuer : KeyFields) (when : ℤ) (list : List Bool) (answer : Result (Unit {0}) ValidationError) (failed : ValidationError) → AreChecks scheme m issuer when list → IsValidation scheme m issuer when answer
    → answer ≡ Err failed → FirstFalse 1 failed.check list × (failed.kind ≡ kind_of failed.check)
named scheme m issuer when list answer failed h v e =
    let first : failing kind_of (first_failure 1 list) ≡ answer = ap (λ l. failing kind_of (first_failure 1 l)) h.are ∙ sym (v.first_failing h.asked) in
    let f = failed_by kind_of (first_failure 1 list) failed (first ∙ e) in
    (fails 1 failed.check list f.0, f.1)

pub all_passed : (scheme : Relation) (m : MessageFields) (issuer : KeyFields) (when : ℤ) (list : List Bool) (answer : Result (Unit {0}) ValidationError) → AreChecks scheme m issuer when list → IsValidation scheme m issuer when answer
    → (answer ≡ Ok tt) ↔ All (λ b. b ≡ true) list
all_passed scheme m issuer when list answer h v =
    let b = all_believed scheme m issuer when list h in
    ((λ e. b.1 (v.believed.0 e)), (λ all. v.believed.1 (b.0 all)))

-- ---- the list, from the lists of its parts

abbrev at : List Bool → ℕ → Bool
at list place = slice_index_or list place false

whole : (m : MessageFields) (issuer : KeyFields) (when : ℤ) (q3 q8 q10 own digest revoked : Bool) (ee lists : List Bool) → own ≡ bytes_eq m.signer m.certificate.tbs.subject_key_id → digest ≡ bytes_eq (sha256 m.content) m.digest → revoked ≡ is_not_revoked m
    → ee ≡ ee_checks m.certificate issuer when q8 → lists ≡ crl_checks m.crls issuer when q10
    → (own ∷ digest ∷ q3 ∷ at ee 0 ∷ at ee 1 ∷ at ee 2 ∷ at ee 3 ∷ at ee 4 ∷ at lists 0 ∷ at lists 1 ∷ at lists 2 ∷ at lists 3 ∷ at lists 4 ∷ revoked ∷ []) ≡ checks m issuer when q3 q8 q10
whole m issuer when q3 q8 q10 own digest revoked ee lists o d r e l = rw (o, d, r, e, l) refl

pub made_of : (scheme : Relation) (m : MessageFields) (issuer : KeyFields) (when : ℤ) (certificate : CertificateFields) (crls : List CrlFields) (own digest q3 revoked : Bool) (ee lists : List Bool) → certificate ≡ m.certificate → crls ≡ m.crls
    → own ≡ bytes_eq m.signer m.certificate.tbs.subject_key_id → Decides digest (sha256 m.content ≡ m.digest) → Decides q3 (AreAttributesSigned scheme m) → revoked ≡ is_not_revoked m
    → AreEeChecks scheme certificate issuer when ee → AreCrlChecks scheme crls issuer when lists
    → AreChecks scheme m issuer when (own ∷ digest ∷ q3 ∷ at ee 0 ∷ at ee 1 ∷ at ee 2 ∷ at ee 3 ∷ at ee 4 ∷ at lists 0 ∷ at lists 1 ∷ at lists 2 ∷ at lists 3 ∷ at lists 4 ∷ revoked ∷ [])
made_of scheme m issuer when certificate crls own digest q3 revoked ee lists ce le o d a r e l = record {
  asked = record {
    q3 = q3;
    q8 = e.q;
    q10 = l.q;
    attributes = a;
    certificate = subst (λ (x : CertificateFields). Decides e.q (IsSigned scheme x issuer)) ce e.signed;
    crls = subst (λ (x : List CrlFields). Decides l.q (AreCrlsSigned scheme x issuer)) le l.signed;
  };
  are = whole m issuer when q3 e.q l.q own digest revoked ee lists o (same_answer digest (bytes_eq (sha256 m.content) m.digest) d (bytes_eq-Decides (sha256 m.content) m.digest)) r
      (e.are ∙ ap (λ (x : CertificateFields). ee_checks x issuer when e.q) ce) (l.are ∙ ap (λ (x : List CrlFields). crl_checks x issuer when l.q) le);
}
