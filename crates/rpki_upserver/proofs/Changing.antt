-- How a class changes, and what holds of it still.
use Rattle.std.proofs.Common.{◌≡◌, ℕ, None, Some, List, [], ◌∷◌, ◌++◌, take, drop, suc, sym, ap, subst, ◌∙◌}
use Rattle.std.specs.Prelude.{position}
use Rattle.std.specs.List.{AllByRecursion}
use Rattle.rpki_cert.specs.Cert.{CertFields}
use Rattle.rpki_text.specs.Uri.{fault_of, rsync}
use Rattle.rpki_updown.specs.Entitlements.{IssuedFields}
use Rattle.rpki_updown.specs.RequestResourceLimit.{LimitFields}
use Rattle.rpki_cert.specs.ReadInDer.{IsCertificate}
use Rattle.rpki_provisioning.specs.Writable.{IsWritableClass, IsWritableIssued, IsWritableLimit}
use Rattle.rpki_upserver.specs.Table.{ClassState, IsClassBase, IsSound, entitled, has_key, put, with_issued, with_revoked, without}
use Rattle.rpki_upserver.proofs.Places.{all_put, all_without, without_placed}

-- what holds of each class
abbrev pub IsKept : ClassState → Type 0
IsKept c = IsClassBase c.base × IsSound c.resource_set c.not_after c.signing_cert c.issued_certs

-- the class with these certificates
abbrev pub with_certs : ClassState → List IssuedFields → ClassState
with_certs c certs = record c { issued_certs = certs }

-- ---- a certificate is taken out

module _ (before now : ClassState) (items : List IssuedFields) (place : ℕ) (key : List ℕ) where
  taken_out : before ≡ now → position (has_key key) now.issued_certs ≡ Some place → items ≡ take place before.issued_certs ++ drop (suc place) before.issued_certs → items ≡ without before.issued_certs key
  taken_out view at are = are ∙ sym (without_placed before.issued_certs key place (ap (λ (c : ClassState). position (has_key key) c.issued_certs) view ∙ at))

  pub sound_without : before ≡ now → position (has_key key) now.issued_certs ≡ Some place → items ≡ take place before.issued_certs ++ drop (suc place) before.issued_certs → IsKept before → IsKept (with_certs before items)
  sound_without view at are h = (
    h.0,
    record {
      set_is = h.1.set_is;
      until = h.1.until;
      signing_is = h.1.signing_is;
      issued_are = subst (λ (l : List IssuedFields). AllByRecursion IsWritableIssued l) (sym (taken_out view at are)) (all_without IsWritableIssued before.issued_certs key h.1.issued_are);
    },
  )

  pub revoked_so : (kept revoked : List (List ℕ)) → before ≡ now → position (has_key key) now.issued_certs ≡ Some place → items ≡ take place before.issued_certs ++ drop (suc place) before.issued_certs → kept ≡ before.revoked → revoked ≡ kept ++ key ∷ []
      → record before { issued_certs = items; revoked = revoked } ≡ with_revoked key now
  revoked_so kept revoked view at are same more =
      ap (λ (l : List IssuedFields). record before { issued_certs = l; revoked = revoked }) (taken_out view at are)
      ∙ ap (λ (r : List (List ℕ)). record before { issued_certs = without before.issued_certs key; revoked = r }) (more ∙ ap (λ (r : List (List ℕ)). r ++ key ∷ []) same)
      ∙ ap (λ (c : ClassState). with_revoked key c) view

pub writable_without : (key : List ℕ) (now after : ClassState) → after ≡ with_revoked key now → IsWritableClass (entitled now) → IsWritableClass (entitled after)
writable_without key now after is w = subst (λ (c : ClassState). IsWritableClass (entitled c)) (sym is) (record {
  class_name = w.class_name;
  resource_set = w.resource_set;
  not_after = w.not_after;
  issued_certs = all_without IsWritableIssued now.issued_certs key w.issued_certs;
  signing_cert = w.signing_cert;
})

-- ---- a certificate is put in

pub issued_writable : (uri text : List ℕ) (limit lent asked : LimitFields) (cert : CertFields) (issued : IssuedFields) → issued ≡ record { uri = uri; req_limit = limit; cert = cert } → text ≡ uri → fault_of rsync text ≡ None → limit ≡ lent → lent ≡ asked
    → IsWritableLimit asked → IsCertificate cert → IsWritableIssued issued
issued_writable uri text limit lent asked cert issued are same lawful copied lends fits der =
    subst IsWritableIssued (sym are) (record {
      uri = subst (λ (t : List ℕ). fault_of rsync t ≡ None) same lawful;
      req_limit = subst IsWritableLimit (sym (copied ∙ lends)) fits;
      cert = der;
    })

pub sound_put : (before now : ClassState) (kept items : List IssuedFields) (issued : IssuedFields) → before ≡ now → kept ≡ before.issued_certs → items ≡ put kept issued → IsWritableIssued issued → IsKept before → IsKept (with_certs before items)
sound_put before now kept items issued view same are new h = (
  h.0,
  record {
    set_is = h.1.set_is;
    until = h.1.until;
    signing_is = h.1.signing_is;
    issued_are = subst (λ (l : List IssuedFields). AllByRecursion IsWritableIssued l) (sym (are ∙ ap (λ (l : List IssuedFields). put l issued) same)) (all_put IsWritableIssued before.issued_certs issued h.1.issued_are new);
  },
)

pub writable_put : (before now : ClassState) (kept items : List IssuedFields) (issued : IssuedFields) → before ≡ now → kept ≡ before.issued_certs → items ≡ put kept issued → IsWritableIssued issued → IsWritableClass (entitled now)
    → IsWritableClass (entitled (with_certs before items))
writable_put before now kept items issued view same are new w =
    subst (λ (c : ClassState). IsWritableClass (entitled c)) (sym (ap (λ (l : List IssuedFields). with_certs before l) (are ∙ ap (λ (l : List IssuedFields). put l issued) same) ∙ ap (λ (c : ClassState). with_issued issued c) view)) (record {
      class_name = w.class_name;
      resource_set = w.resource_set;
      not_after = w.not_after;
      issued_certs = all_put IsWritableIssued now.issued_certs issued w.issued_certs new;
      signing_cert = w.signing_cert;
    })
