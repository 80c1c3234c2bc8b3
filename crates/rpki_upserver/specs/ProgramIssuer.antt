-- The issuer with which the program begins, the certificate of its key, and a run of the program.
use Rattle.std.specs.Prelude.{◌≡◌, ℕ, ℤ, List, [], codes, pos}
use Rattle.rpki_base.specs.declared.algorithm.PublicKeyFormat.TheVariants.{Rsa}
use Rattle.rpki_base.specs.PublicKey.{KeyFields}
use Rattle.rpki_base.specs.RpkiSignatureAlgorithm.{spelled_x509}
use Rattle.rpki_base.specs.SignedData.{spelled_data}
use Rattle.rpki_base.specs.Validity.{ValidityFields}
use Rattle.rpki_base.specs.declared.errors.ToyFault.{ToyFault}
use Rattle.rpki_der.specs.declared.mode.Mode.TheVariants.{Der}
use Rattle.rpki_der.specs.Takes.{BeginsAs}
use Rattle.rpki_cert.specs.Cert.{certificate}
use Rattle.rpki_idcert.specs.IdCert.{CertificateFields}
use Rattle.rpki_idcert.specs.Making.{IsAnchorMade}
use Rattle.rpki_signer.specs.Limits.{StopsInTurn}
use Rattle.rpki_signer.specs.Signer.{HoldsKey, SignerState}
use Rattle.rpki_signer.specs.Toy.{ToyChecks}
use Rattle.rpki_signer.specs.ToySigner.{ToyState, after_creating, state_of, toy_signer}
use Rattle.rpki_signer.specs.declared.errors.MakeError.{MakeError}
use Rattle.rpki_sigmsg.specs.Errors.{create_error_of}
use Rattle.rpki_ca.specs.Creation.{refusal_of_create}
use Rattle.rpki_ca.specs.Seen.{Seen, seen_signer}
use Rattle.rpki_ca.specs.declared.refusals.Refusal.{Refusal}
use Rattle.rpki_updown.specs.Entitlements.{SigningFields}
use Rattle.rpki_upserver.specs.Issuer.{IssuerState}
use Rattle.rpki_upserver.specs.Running.{EndsParentRun, run_of}
use Rattle.rpki_upserver.specs.ToyIssuer.{ToyIssuerState, issuer_state, toy_issuer}

-- from the first second of 1970 to the last of 9999
abbrev pub always : ValidityFields
always = record { not_before = pos 0; not_after = pos 253402300799 }

-- where the certificate of the issuing key is published
abbrev pub signing_url : List ℕ
signing_url = codes "rsync://localhost/repo/ta.cer"

-- The signer made the certificate of its key with this key itself, always valid; the issuer has the
-- signer as it is behind that, issues from the first second of 1970 on, and did nothing yet. What
-- is published is what the certificate's octets are read as.
pub record IsProgramIssuer (signer : ToyState) (key : ℕ) (issuer : ToyIssuerState)
    (signing : SigningFields) : Type 0 where
  pub anchor : CertificateFields
  pub made : IsAnchorMade ToyChecks key always (state_of signer) (state_of issuer.signer) anchor
  pub issuer_is : issuer ≡ toy_issuer issuer.signer key (pos 0)
  pub url : signing.url ≡ signing_url
  pub cert : BeginsAs (certificate Der) Der (spelled_data spelled_x509 anchor.signed) signing.cert

-- The signer didn't make the certificate: it refused the key or the signature, or memory ran out.
-- This is told by its name.
pub record StopsAnchor (key : ℕ) (before after : ToyState) (refusal : Refusal) : Type 0 where
  pub error : MakeError ToyFault
  pub stops : StopsInTurn ToyChecks key (state_of before) (state_of after) error
  pub is : refusal ≡ refusal_of_create (create_error_of error)

-- ---- a run of the program

-- the signer of replies, before the first: the toy signer of seed 1, with the key that it made
abbrev pub first_signer : ToyState
first_signer = after_creating Rsa (toy_signer 1 [])

-- A run with two words of the form. The issuer is that of the toy signer of seed 3, and replies are
-- signed by that of seed 1, under the key that it made.
pub record IsProgramRun (when : ℤ) (child : KeyFields) (status : ℕ) (source sink : Seen) : Type 0
  where
    pub issuing_key : ℕ
    pub issuer : ToyIssuerState
    pub signing : SigningFields
    pub issuer_is : IsProgramIssuer (after_creating Rsa (toy_signer 3 [])) issuing_key issuer
        signing
    pub key : ℕ
    pub held : KeyFields
    pub holds : HoldsKey (state_of first_signer).keyring key held
    pub issuer_after : IssuerState
    pub signer_after : SignerState ℕ
    pub ends : EndsParentRun ToyChecks
        (run_of when child signing (issuer_state issuer) issuer_after
        (seen_signer key (state_of first_signer) signer_after)) status source sink
