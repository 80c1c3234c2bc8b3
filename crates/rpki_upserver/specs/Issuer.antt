-- What an issuer of certificates has done, and what each of its calls does to that.
use Rattle.std.specs.Prelude.{◌≡◌, ◌≤◌, ℕ, ℤ, List, [], ◌∷◌, ◌++◌}
use Rattle.sha1.specs.Sha1.{sha1}
use Rattle.rpki_common.specs.Causes.{Rose}
use Rattle.rpki_cert.specs.Cert.{CertFields}
use Rattle.rpki_sets.specs.Resources.{Resources}
use Rattle.rpki_updown.specs.Entitlements.{CaRequest}
use Rattle.rpki_updown.specs.KeyElement.{KeyElementFields}
use Rattle.rpki_upserver.specs.declared.issuer.IssuerError.{IssuerError}
use Rattle.rpki_upserver.specs.declared.issuer.IssuerError.TheVariants as errors

-- a certificate that was issued: in which class, for the key with which identifier, for which
-- resources and until when (seconds since 1970), and its octets
pub record Made : Type 0 where
  pub class_name : List ℕ
  pub key : List ℕ
  pub resource_set : Resources
  pub not_after : ℤ
  pub slice : List ℕ

-- The certificates that it issued and the keys whose certificates it revoked, each with its class,
-- in order; and how often it failed, a count that may stop at 2^64 - 1.
pub record IssuerState : Type 0 where
  pub made : List Made
  pub gone : List KeyElementFields
  pub faults : ℕ

-- ---- what a call does

-- nothing was issued and nothing revoked
pub record IssuedNothing (before after : IssuerState) : Type 0 where
  pub made : after.made ≡ before.made
  pub gone : after.gone ≡ before.gone
  pub faults : before.faults ≤ after.faults

-- The certificate was issued in this class on this request, for these resources and until then,
-- without a fault. It has the request's key.
pub record IsCertificateIssued (class_name : List ℕ) (csr : CaRequest) (set : Resources)
    (not_after : ℤ) (before after : IssuerState) (cert : CertFields) : Type 0 where
  pub made : after.made ≡ before.made ++ (record {
    class_name = class_name;
    key = sha1 csr.tbs.key.bits;
    resource_set = set;
    not_after = not_after;
    slice = cert.slice;
  }) ∷ []
  pub gone : after.gone ≡ before.gone
  pub faults : after.faults ≡ before.faults
  pub key : cert.key ≡ csr.tbs.key

-- the certificates of the key with this identifier were revoked in this class, without a fault
pub record IsRevoked (class_name key : List ℕ) (before after : IssuerState) : Type 0 where
  pub made : after.made ≡ before.made
  pub gone : after.gone ≡ before.gone ++ record { class_name = class_name; key = key } ∷ []
  pub faults : after.faults ≡ before.faults

-- ---- why a call did nothing: the issuer failed, and its count rose; or memory ran out, and all is
-- as before

-- what an IssuerError says: Failed, that nothing was issued or revoked, and the count of faults
-- rose or is at its end; OutOfMemory, that nothing changed
abbrev pub IssuerFails : IssuerState → IssuerState → IssuerError → Type 0
IssuerFails before after errors.Failed =
    IssuedNothing before after × Rose before.faults after.faults
IssuerFails before after errors.OutOfMemory = after ≡ before
