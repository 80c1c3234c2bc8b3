-- The order in which a signer is asked for a message (RFC 6492, 3.1): for the signature of the
-- attributes under a key for this one use, for the issuing key, for the CRL's signature, for the
-- certificate. Its first refusal decides: all that it gave before has at most 2^16 octets.
use Rattle.std.specs.Prelude.{◌≢◌, ◌<◌, ◌^◌, ◌⊎◌, ⊤, ℕ, ℤ, List, length}
use Rattle.rpki_common.specs.Limits.{most_content}
use Rattle.rpki_base.specs.declared.algorithm.SigningAlgorithm.TheVariants.{RsaSha256}
use Rattle.rpki_base.specs.PublicKey.{KeyFields}
use Rattle.rpki_base.specs.Scheme.{Relation}
use Rattle.rpki_signer.specs.declared.errors.MakeError.{MakeError}
use Rattle.rpki_signer.specs.declared.errors.MakeError.TheVariants as make
use Rattle.rpki_signer.specs.Limits.{IsShortKey, IsShortOneOff, RefusesKey, RefusesOneOff, RefusesSignature}
use Rattle.rpki_signer.specs.Signer.{SignerState}
use Rattle.rpki_idcert.specs.IdCert.{CertificateFields}
use Rattle.rpki_idcert.specs.Making.{StopsAtEndEntity}
use Rattle.rpki_sigmsg.specs.declared.create_error.CreateError.{CreateError}
use Rattle.rpki_sigmsg.specs.declared.create_error.CreateError.TheVariants as create
use Rattle.rpki_sigmsg.specs.Crl.{CrlFields}
use Rattle.rpki_sigmsg.specs.Making.{made_covered, IsCertified, IsCrlSigned}

-- ---- what it gave

-- the signature of this message, with the key for this one use, and then the issuing key
pub record HasKeys {Id : Type 0} (scheme : Relation) (message : List ℕ) (id : Id)
    (before after : SignerState Id) (octets : List ℕ) (key issuing : KeyFields) : Type 0 where
  pub between : SignerState Id
  pub once : IsShortOneOff scheme RsaSha256 message before between octets key
  pub then_key : IsShortKey id between after issuing

-- ---- where it stopped

-- creation stops at the issuing key, behind the signature of this message
pub record StopsAtKey {Id E : Type 0} (scheme : Relation) (message : List ℕ) (id : Id)
    (before after : SignerState Id) (error : MakeError E) : Type 0 where
  pub between : SignerState Id
  pub octets : List ℕ
  pub key : KeyFields
  pub once : IsShortOneOff scheme RsaSha256 message before between octets key
  pub refuses : RefusesKey id between after error

-- creation stops at the signature, or at the issuing key
abbrev pub StopsAtKeys : {Id E : Type 0} → Relation → List ℕ → Id → SignerState Id
    → SignerState Id → MakeError E → Type 0
StopsAtKeys scheme message id before after error =
    RefusesOneOff scheme message before after error
    ⊎ StopsAtKey scheme message id before after error

-- creation stops at the certificate, behind the CRL of this issuing key
pub record StopsAtCertificate {Id E : Type 0} (scheme : Relation) (issuing : KeyFields) (when : ℤ)
    (id : Id) (before after : SignerState Id) (error : MakeError E) : Type 0 where
  pub between : SignerState Id
  pub crl : CrlFields
  pub crl_signed : IsCrlSigned scheme issuing when id before between crl
  pub stops : StopsAtEndEntity scheme id between after error

-- creation stops at the CRL's signature, or at the certificate
abbrev pub StopsCertifying : {Id E : Type 0} → Relation → KeyFields → ℤ → Id → SignerState Id
    → SignerState Id → MakeError E → Type 0
StopsCertifying scheme issuing when id before after error =
    RefusesSignature scheme id before after error
    ⊎ StopsAtCertificate scheme issuing when id before after error

-- creation stops behind the two keys, which differ
pub record StopsBehindKeys {Id E : Type 0} (scheme : Relation) (content : List ℕ) (when : ℤ)
    (id : Id) (before after : SignerState Id) (error : MakeError E) : Type 0 where
  pub between : SignerState Id
  pub octets : List ℕ
  pub key : KeyFields
  pub issuing : KeyFields
  pub keys : HasKeys scheme (made_covered content when) id before between octets key issuing
  pub other : key ≢ issuing
  pub stops : StopsCertifying scheme issuing when id between after error

-- creation stops at the signature, at the issuing key, at the CRL or at the certificate
abbrev pub StopsCreating : {Id E : Type 0} → Relation → List ℕ → ℤ → Id → SignerState Id
    → SignerState Id → MakeError E → Type 0
StopsCreating scheme content when id before after error =
    StopsAtKeys scheme (made_covered content when) id before after error
    ⊎ StopsBehindKeys scheme content when id before after error

-- the two keys are one
pub record HasOneKey {Id : Type 0} (scheme : Relation) (message : List ℕ) (id : Id)
    (before after : SignerState Id) : Type 0 where
  pub octets : List ℕ
  pub issuing : KeyFields
  pub keys : HasKeys scheme message id before after octets issuing issuing

-- all was given
pub record HasAll {Id : Type 0} (scheme : Relation) (content : List ℕ) (when : ℤ) (id : Id)
    (before after : SignerState Id) : Type 0 where
  pub between : SignerState Id
  pub octets : List ℕ
  pub key : KeyFields
  pub issuing : KeyFields
  pub keys : HasKeys scheme (made_covered content when) id before between octets key issuing
  pub other : key ≢ issuing
  pub crl : CrlFields
  pub certificate : CertificateFields
  pub certified : IsCertified scheme issuing key when between after crl certificate

-- ---- the refusals of creation; the moment is told before the signer is asked, and memory may run
-- out behind its last call too

-- what an error of creation says of where it stopped: Moment, nothing; TooLong may be of a content
-- of more than 2^31 octets, and OutOfMemory come once all was given
abbrev pub IsFirstRefusal : {Id E : Type 0} → Relation → List ℕ → ℤ → Id → SignerState Id
    → SignerState Id → CreateError E → Type 0
IsFirstRefusal scheme content when id before after create.Moment = ⊤
IsFirstRefusal {E = E} scheme content when id before after create.TooLong =
    (most_content < length content)
    ⊎ StopsCreating {E = E} scheme content when id before after make.TooLong
IsFirstRefusal scheme content when id before after create.KeyReused =
    HasOneKey scheme (made_covered content when) id before after
IsFirstRefusal scheme content when id before after (create.Signing error) =
    StopsCreating scheme content when id before after (make.Signing error)
IsFirstRefusal {E = E} scheme content when id before after create.OutOfMemory =
    StopsCreating {E = E} scheme content when id before after make.OutOfMemory
    ⊎ HasAll scheme content when id before after
