-- The checks of identity certificates in their order (RFC 5280, 6.1.3; RFC 6492, 3.1.2; RFC 8183,
-- 5).
use Rattle.std.specs.Prelude.{◌≡◌, ℕ, ℤ, int_le, Bool, true, false, ◌&&◌, ◌||◌, ◌==◌, nat_le, if◌then◌else◌, not, is_some, bytes_eq, Decides, Option, None, Some, Ok, List, [], ◌∷◌}
use Rattle.sha1.specs.Sha1.{sha1}
use Rattle.rpki_base.specs.PublicKey.{KeyFields, names_issuer}
use Rattle.rpki_base.specs.Scheme.{Relation}
use Rattle.rpki_base.specs.Validity.{ValidityFields}
use Rattle.rpki_base.specs.Checks.{first_failure, IsSigned}
use Rattle.rpki_idcert.specs.TbsIdCert.{TbsFields}
use Rattle.rpki_idcert.specs.IdCert.{CertificateFields}
use Rattle.rpki_base.specs.declared.validation.ValidationKind.{ValidationKind}
use Rattle.rpki_base.specs.declared.validation.ValidationKind.TheVariants.{Inspection, Verification}

-- ---- what is asked of a certificate

-- the subject's key identifier is that of its key
abbrev pub has_own_identifier : TbsFields → Bool
has_own_identifier c = bytes_eq c.subject_key_id (sha1 c.key.bits)

-- the moment lies in the validity, both ends in
abbrev pub is_within : ValidityFields → ℤ → Bool
is_within v when = int_le v.not_before when && int_le when v.not_after

-- whether the flag is there and true
abbrev pub is_true : Option Bool → Bool
is_true None = false
is_true (Some b) = b

-- an authority key identifier is there, and is the subject's
abbrev pub is_itself : Option (List ℕ) → List ℕ → Bool
is_itself None subject = false
is_itself (Some id) subject = bytes_eq id subject

-- an authority key identifier is there, and is that of the certificate's own subject
abbrev pub names_itself : TbsFields → Bool
names_itself c = is_itself c.authority_key_id c.subject_key_id

-- ---- an end entity's certificate, under the issuer's key; q: it is signed under that

-- By number, and behind it in brackets the number among the fourteen checks of a signed message:
-- 1 (4) subjectKeyIdentifier is the SHA-1 of the key (4.2.1.2); 2 (5) notBefore and notAfter
-- (4.1.2.5); 3 (6) authorityKeyIdentifier, if it is there, is the SHA-1 of the issuer's key
-- (4.2.1.1); 4 (7) cA isn't true (4.2.1.9); 5 (8) q (6.1.3)
abbrev pub ee_checks : CertificateFields → KeyFields → ℤ → Bool → List Bool
ee_checks c issuer when q =
    has_own_identifier c.tbs
    ∷ is_within c.tbs.validity when
    ∷ names_issuer c.tbs.authority_key_id issuer
    ∷ not (is_true c.tbs.basic_ca)
    ∷ q
    ∷ []

-- the list is that of the five checks, by what the scheme answers
pub record AreEeChecks (scheme : Relation) (c : CertificateFields) (issuer : KeyFields) (when : ℤ)
    (list : List Bool) : Type 0 where
  pub q : Bool
  pub signed : Decides q (IsSigned scheme c issuer)
  pub are : list ≡ ee_checks c issuer when q

-- the certificate is signed under the issuer's key, and with that all five checks hold
pub record IsEeBelieved (scheme : Relation) (c : CertificateFields) (issuer : KeyFields)
    (when : ℤ) : Type 0 where
  pub signed : IsSigned scheme c issuer
  pub passes : first_failure 1 (ee_checks c issuer when true) ≡ Ok tt

-- the first is an inspection
abbrev pub ee_kind : ℕ → ValidationKind
ee_kind n = if n == 1 then Inspection else Verification

-- ---- a trust anchor's certificate; q: it is signed under its own key, which is asked where it
-- names itself as its issuer

-- in order: the key identifier is the key's, basicConstraints is there, cA is true, the moment is
-- in the validity, and q where the certificate names itself
abbrev pub ta_checks : CertificateFields → ℤ → Bool → List Bool
ta_checks c when q =
    has_own_identifier c.tbs
    ∷ is_some c.tbs.basic_ca
    ∷ is_true c.tbs.basic_ca
    ∷ is_within c.tbs.validity when
    ∷ (not (names_itself c.tbs) || q)
    ∷ []

-- where the certificate names itself as its issuer, it is signed under its own key, and with that
-- all five checks hold
pub record IsTaBelieved (scheme : Relation) (c : CertificateFields) (when : ℤ) : Type 0 where
  pub signed : names_itself c.tbs ≡ true → IsSigned scheme c c.tbs.key
  pub passes : first_failure 1 (ta_checks c when true) ≡ Ok tt

-- the first three are inspections
abbrev pub ta_kind : ℕ → ValidationKind
ta_kind n = if nat_le n 3 then Inspection else Verification
