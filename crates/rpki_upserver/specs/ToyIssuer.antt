-- An issuer whose certificates are signed by a toy signer, as clauses see it.
use Rattle.std.specs.Prelude.{◌≡◌, ◌≢◌, ◌⊎◌, ◌++◌, ◌∷◌, [], ℕ, ℤ, true, false, List, Result, Ok, Err}
use Rattle.sha1.specs.Sha1.{sha1}
use Rattle.rpki_base.specs.declared.algorithm.PublicKeyFormat.TheVariants.{Rsa}
use Rattle.rpki_base.specs.declared.algorithm.SigningAlgorithm.TheVariants.{RsaSha256}
use Rattle.rpki_base.specs.RpkiSignatureAlgorithm.{spelled_x509}
use Rattle.rpki_base.specs.SignedData.{spelled_data}
use Rattle.rpki_base.specs.PublicKey.{KeyFields}
use Rattle.rpki_base.specs.declared.errors.ToyFault.{ToyFault}
use Rattle.rpki_der.specs.declared.mode.Mode.TheVariants.{Der}
use Rattle.rpki_der.specs.Takes.{BeginsAs}
use Rattle.rpki_cert.specs.Cert.{CertFields, certificate}
use Rattle.rpki_idcert.specs.IdCert.{CertificateFields}
use Rattle.rpki_idcert.specs.Making.{IsEndEntityMade, IsMadeFor}
use Rattle.rpki_idcert.specs.Spelling.{spelled_tbs}
use Rattle.rpki_idcert.specs.TbsIdCert.{TbsFields}
use Rattle.rpki_sets.specs.Resources.{Resources}
use Rattle.rpki_signer.specs.Limits.{default_algorithm}
use Rattle.rpki_signer.specs.Serials.{without_first_bit}
use Rattle.rpki_signer.specs.Toy.{ToyChecks}
use Rattle.rpki_signer.specs.ToySigner.{IsToyKey, IsToySigned, RefusesToyKey, ToyState, state_of}
use Rattle.rpki_signer.specs.ToySigner.{after_drawing, after_fault as behind_fault, cannot_draw, counted, is_listed, random_octets}
use Rattle.rpki_signer.specs.declared.errors.KeyError.{KeyError}
use Rattle.rpki_signer.specs.declared.errors.KeyError.TheVariants as keys
use Rattle.rpki_signer.specs.declared.errors.SigningError.{SigningError}
use Rattle.rpki_signer.specs.declared.errors.SigningError.TheVariants as signing
use Rattle.rpki_text.specs.Counts.{count_after}
use Rattle.rpki_updown.specs.Entitlements.{CaRequest}
use Rattle.rpki_updown.specs.KeyElement.{KeyElementFields}
use Rattle.rpki_upserver.specs.declared.issuer.IssuerError.{IssuerError}
use Rattle.rpki_upserver.specs.declared.issuer.IssuerError.TheVariants as errors
use Rattle.rpki_upserver.specs.declared.toy_issuer.ToyMade.{ToyMade}
use Rattle.rpki_upserver.specs.Issuer.{IssuerState, Made}

-- a toy issuer: its signer, the identifier of its key, from when its certificates are valid, and
-- what it did
pub record ToyIssuerState : Type 0 where
  pub signer : ToyState
  pub key : ℕ
  pub from : ℤ
  pub issuer : IssuerState

-- a toy issuer that did nothing yet
abbrev pub toy_issuer : ToyState → ℕ → ℤ → ToyIssuerState
toy_issuer signer key from = record {
  signer = signer;
  key = key;
  from = from;
  issuer = record { made = []; gone = []; faults = 0 };
}

-- a toy issuer as an issuer: what it issued and revoked, and how often it failed
abbrev pub issuer_state : ToyIssuerState → IssuerState
issuer_state i = i.issuer

-- a certificate that it issued, as the entry of it
abbrev pub made_of : ToyMade → Made
made_of m = record {
  class_name = m.class_name;
  key = m.key;
  resource_set = m.resource_set;
  not_after = m.not_after;
  slice = m.cert.slice;
}

-- ---- its answers

-- the toy issuer fails: its count rises, unless it is at its end
abbrev pub after_fault : ToyIssuerState → ToyIssuerState
after_fault i = record i { issuer = record i.issuer { faults = count_after i.issuer.faults } }

-- what the toy issuer did is as before, and its key and the moment
pub record DidNothing (before after : ToyIssuerState) : Type 0 where
  pub is : after ≡ record before { signer = after.signer }

-- its count of faults rose, and its signer may have changed
pub record CountedFault (before after : ToyIssuerState) : Type 0 where
  pub is : after ≡ record (after_fault before) { signer = after.signer }

-- its signer counted a call that wasn't to fail, and is else as before
pub record CountedCall (before after : ToyIssuerState) : Type 0 where
  pub due : is_listed before.signer ≡ false
  pub counted_is : after.signer ≡ counted before.signer
  pub rest : DidNothing before after

-- ---- the calls of its signer, three for a certificate: it draws, gives its key and signs

-- the signer drew twenty octets, which are the serial number when their first bit is cleared
pub record DrewSerial (before after : ToyIssuerState) (serial : List ℕ) : Type 0 where
  pub due : cannot_draw before.signer ≡ false
  pub octets : List ℕ
  pub octets_are : octets ≡ random_octets before.signer.seed before.signer.next 20
  pub serial_is : serial ≡ without_first_bit octets
  pub drawn_is : after.signer ≡ record (after_drawing before.signer) { random = octets }
  pub rest : DidNothing before after

-- the signer didn't draw
pub record DrewNone (before after : ToyIssuerState) : Type 0 where
  pub due : cannot_draw before.signer ≡ true
  pub fault_is : after.signer ≡ behind_fault before.signer
  pub failed : CountedFault before after

-- the signer gave the key
pub record GaveKey (before after : ToyIssuerState) (given : KeyFields) : Type 0 where
  pub asked : IsToyKey before.key before.signer after.signer (Ok given)
  pub rest : DidNothing before after

-- the signer didn't give the key, for another reason than want of memory
pub record GaveNoKey (before after : ToyIssuerState) : Type 0 where
  pub error : KeyError ToyFault
  pub other : error ≢ keys.OutOfMemory
  pub asked : IsToyKey before.key before.signer after.signer (Err error)
  pub failed : CountedFault before after

-- Failed exactly where its signer doesn't give its key, for another reason than want of memory
abbrev pub GivesNoKey : ToyIssuerState → ToyIssuerState → IssuerError → Type 0
GivesNoKey before after errors.Failed = GaveNoKey before after
GivesNoKey before after errors.OutOfMemory = CountedCall before after

-- the signer signed these fields under the key
pub record SignedFields (fields : TbsFields) (before after : ToyIssuerState)
    (made : CertificateFields) : Type 0 where
  pub value : List ℕ
  pub asked : IsToySigned RsaSha256 before.key (spelled_tbs fields) before.signer after.signer
      (Ok value)
  pub is : made ≡ record {
    signed = record {
      slice = spelled_tbs fields;
      signature = record { algorithm = default_algorithm; value = value };
    };
    tbs = fields;
  }
  pub rest : DidNothing before after

-- the signer didn't sign, for another reason than want of memory
pub record SignedNone (before after : ToyIssuerState) : Type 0 where
  pub error : SigningError ToyFault
  pub other : error ≢ signing.OutOfMemory
  pub asked : RefusesToyKey before.key Rsa before.signer after.signer error
  pub failed : CountedFault before after

-- Failed exactly where its signer doesn't sign, for another reason than want of memory
abbrev pub SignsNone : ToyIssuerState → ToyIssuerState → IssuerError → Type 0
SignsNone before after errors.Failed = SignedNone before after
SignsNone before after errors.OutOfMemory = CountedCall before after

-- ---- a certificate

-- the signer drew a serial number and gave the key
pub record IsReady (before after : ToyIssuerState) (serial : List ℕ) (issuing : KeyFields) : Type 0
  where
    pub between : ToyIssuerState
    pub draws : DrewSerial before between serial
    pub gives : GaveKey between after issuing

-- The signer drew and gave the key, and signed the fields of a certificate of this key, valid until
-- then.
pub record IsSignedFor (key : KeyFields) (not_after : ℤ) (before after : ToyIssuerState)
    (made : CertificateFields) : Type 0 where
  pub between : ToyIssuerState
  pub serial : List ℕ
  pub issuing : KeyFields
  pub ready : IsReady before between serial issuing
  pub fields : TbsFields
  pub fields_are : IsMadeFor issuing key serial
      (record { not_before = before.from; not_after = not_after }) fields
  pub signs : SignedFields fields between after made

-- The certificate is what the octets of the end entity certificate are read as that its signer
-- makes for the key of the request by these three calls, valid until then. It has that key.
pub record IsToyCertificate (csr : CaRequest) (not_after : ℤ) (before after : ToyIssuerState)
    (cert : CertFields) : Type 0 where
  pub made : CertificateFields
  pub calls : IsSignedFor csr.tbs.key not_after before after made
  pub is_made : IsEndEntityMade ToyChecks csr.tbs.key before.key
      (record { not_before = before.from; not_after = not_after })
      (state_of before.signer) (state_of after.signer) made
  pub decoded : BeginsAs (certificate Der) Der (spelled_data spelled_x509 made.signed) cert
  pub key : cert.key ≡ csr.tbs.key
  pub rest : DidNothing before after

-- the signer drew, and then didn't give the key
pub record StopsAtKey (before after : ToyIssuerState) : Type 0 where
  pub between : ToyIssuerState
  pub serial : List ℕ
  pub draws : DrewSerial before between serial
  pub stops : GaveNoKey between after

-- the signer drew and gave the key, and then didn't sign
pub record StopsAtSignature (before after : ToyIssuerState) : Type 0 where
  pub between : ToyIssuerState
  pub serial : List ℕ
  pub issuing : KeyFields
  pub ready : IsReady before between serial issuing
  pub stops : SignedNone between after

-- its signer made no certificate, for another reason than want of memory: it stopped at the first
-- call, the second or the third
abbrev pub MadeNone : ToyIssuerState → ToyIssuerState → Type 0
MadeNone before after =
    DrewNone before after ⊎ (StopsAtKey before after ⊎ StopsAtSignature before after)

-- memory ran out behind the second call: as the key was given or the fields were written
pub record WantsAtKey (before after : ToyIssuerState) : Type 0 where
  pub between : ToyIssuerState
  pub serial : List ℕ
  pub draws : DrewSerial before between serial
  pub call : CountedCall between after

-- memory ran out behind the third call: as the signature was given or later
pub record WantsAtSignature (before after : ToyIssuerState) : Type 0 where
  pub between : ToyIssuerState
  pub serial : List ℕ
  pub issuing : KeyFields
  pub ready : IsReady before between serial issuing
  pub call : CountedCall between after

-- Failed exactly where its signer makes none for another reason than want of memory. Where memory
-- runs out, nothing else of the issuer changed than its signer, by two calls or by three.
abbrev pub MakesNone : ToyIssuerState → ToyIssuerState → IssuerError → Type 0
MakesNone before after errors.Failed = MadeNone before after
MakesNone before after errors.OutOfMemory =
    WantsAtKey before after ⊎ WantsAtSignature before after

-- the entry of a certificate is added
abbrev pub with_made : Made → IssuerState → IssuerState
with_made made i = record i { made = i.made ++ made ∷ [] }

-- `issue`: such a certificate, whose entry is added
pub record IsToyIssued (name : List ℕ) (csr : CaRequest) (set : Resources) (not_after : ℤ)
    (before after : ToyIssuerState) (cert : CertFields) : Type 0 where
  pub between : ToyIssuerState
  pub certificate : IsToyCertificate csr not_after before between cert
  pub is : after ≡ record between {
    issuer = with_made (record {
      class_name = name;
      key = sha1 csr.tbs.key.bits;
      resource_set = set;
      not_after = not_after;
      slice = cert.slice;
    }) between.issuer;
  }

-- what `issue` answers: a certificate that was issued, or an error for which none was
abbrev pub IsToyIssue : List ℕ → CaRequest → Resources → ℤ → ToyIssuerState → ToyIssuerState
    → Result CertFields IssuerError → Type 0
IsToyIssue name csr set not_after before after (Ok cert) =
    IsToyIssued name csr set not_after before after cert
IsToyIssue name csr set not_after before after (Err error) = MakesNone before after error

-- the entry of a key that is revoked is added
abbrev pub with_gone : KeyElementFields → IssuerState → IssuerState
with_gone key i = record i { gone = i.gone ++ key ∷ [] }

-- `revoke`: the key was given, and the entry of the key that is revoked is added
pub record IsToyRevoked (name key : List ℕ) (before after : ToyIssuerState) : Type 0 where
  pub between : ToyIssuerState
  pub issuing : KeyFields
  pub given : GaveKey before between issuing
  pub is : after ≡ record between {
    issuer = with_gone (record { class_name = name; key = key }) between.issuer;
  }

-- what `revoke` answers: that the key was revoked, or an error for which it wasn't
abbrev pub IsToyRevocation : List ℕ → List ℕ → ToyIssuerState → ToyIssuerState
    → Result (Unit {0}) IssuerError → Type 0
IsToyRevocation name key before after (Ok done) = IsToyRevoked name key before after
IsToyRevocation name key before after (Err error) = GivesNoKey before after error
