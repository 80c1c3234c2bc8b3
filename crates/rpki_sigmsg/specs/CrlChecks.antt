-- The checks of a signed message's CRLs in their order (RFC 5280, 6.3.3; RFC 6492, 3.1.2).
use Rattle.std.specs.Prelude.{◌≡◌, ℕ, ℤ, int_le, Bool, true, false, ◌&&◌, Decides, Ok, List, [], ◌∷◌}
use Rattle.std.specs.Bool.{beq}
use Rattle.std.specs.List.{list_all, AllByRecursion}
use Rattle.rpki_base.specs.PublicKey.{KeyFields, names_issuer}
use Rattle.rpki_base.specs.Scheme.{Relation}
use Rattle.rpki_base.specs.declared.rpki_algorithm.RsaIdentifier.{RsaIdentifier}
use Rattle.rpki_base.specs.declared.rpki_algorithm.RsaIdentifier.TheVariants.{RsaEncryption, Sha256WithRsaEncryption}
use Rattle.rpki_base.specs.RpkiSignatureAlgorithm.{RpkiAlgorithm}
use Rattle.rpki_base.specs.Checks.{first_failure, IsSigned}
use Rattle.rpki_base.specs.declared.validation.ValidationKind.{ValidationKind}
use Rattle.rpki_base.specs.declared.validation.ValidationKind.TheVariants.{Verification}
use Rattle.rpki_sigmsg.specs.Crl.{CrlFields}

-- whether both are rsaEncryption, or both are sha256WithRSAEncryption
abbrev pub same_name : RsaIdentifier → RsaIdentifier → Bool
same_name RsaEncryption RsaEncryption = true
same_name Sha256WithRsaEncryption Sha256WithRsaEncryption = true
same_name a b = false

-- both have one object identifier, and NULL is there in both or in neither
abbrev pub same_algorithm : RpkiAlgorithm → RpkiAlgorithm → Bool
same_algorithm a b = same_name a.identifier b.identifier && beq a.null b.null

-- the question to the scheme: whether the signature of each CRL holds under the key
abbrev pub AreCrlsSigned : Relation → List CrlFields → KeyFields → Type 0
AreCrlsSigned scheme crls key = AllByRecursion (λ c. IsSigned scheme c key) crls

-- Of all CRLs under the issuer's key, at a moment; q: each CRL is signed under that key. Each time
-- it has to hold of each CRL:
-- 1 signatureAlgorithm is signature (5.1.1.2); 2 q (6.3.3); 3 thisUpdate (5.1.2.4); 4 nextUpdate
-- (5.1.2.5);
-- 5 authorityKeyIdentifier, if it is there, is the SHA-1 of the issuer's key (5.2.1)
abbrev pub crl_checks : List CrlFields → KeyFields → ℤ → Bool → List Bool
crl_checks crls issuer when q =
    list_all (λ c. same_algorithm c.tbs.algorithm c.signed.signature.algorithm) crls
    ∷ q
    ∷ list_all (λ c. int_le c.tbs.this_update when) crls
    ∷ list_all (λ c. int_le when c.tbs.next_update) crls
    ∷ list_all (λ c. names_issuer c.tbs.authority_key_id issuer) crls
    ∷ []

-- the list is that of the five checks of all CRLs, by what the scheme answers
pub record AreCrlChecks (scheme : Relation) (crls : List CrlFields) (issuer : KeyFields) (when : ℤ)
    (list : List Bool) : Type 0 where
  pub q : Bool
  pub signed : Decides q (AreCrlsSigned scheme crls issuer)
  pub are : list ≡ crl_checks crls issuer when q

-- the CRL is signed under the issuer's key, and with that all five checks hold of it
pub record IsListBelieved (scheme : Relation) (c : CrlFields) (issuer : KeyFields) (when : ℤ) : Type
    0 where
  pub signed : IsSigned scheme c issuer
  pub passes : first_failure 9 (crl_checks (c ∷ []) issuer when true) ≡ Ok tt

-- all checks of CRLs are verifications
abbrev pub crl_kind : ℕ → ValidationKind
crl_kind n = Verification
