-- Keys and signatures of a signer that are not too long, and what calls answer that make something
-- with them.
use Rattle.std.specs.Prelude.{true, ◌≡◌, ◌≢◌, ◌≤◌, ◌<◌, ◌^◌, ◌⊎◌, ℕ, List, length, ⊤}
use Rattle.rpki_common.specs.Causes.{Rose}
use Rattle.rpki_common.specs.Limits.{most_key}
use Rattle.rpki_base.specs.declared.algorithm.SigningAlgorithm.{SigningAlgorithm}
use Rattle.rpki_base.specs.declared.algorithm.SigningAlgorithm.TheVariants.{RsaSha256}
use Rattle.rpki_base.specs.PublicKey.{KeyFields}
use Rattle.rpki_base.specs.declared.rpki_algorithm.RsaIdentifier.TheVariants.{RsaEncryption}
use Rattle.rpki_base.specs.RpkiSignatureAlgorithm.{RpkiAlgorithm}
use Rattle.rpki_base.specs.Scheme.{Relation}
use Rattle.rpki_signer.specs.declared.errors.MakeError.{MakeError}
use Rattle.rpki_signer.specs.declared.errors.MakeError.TheVariants as make
use Rattle.rpki_signer.specs.declared.errors.SigningError.{SigningError}
use Rattle.rpki_signer.specs.declared.errors.SigningError.TheVariants as signing
use Rattle.rpki_signer.specs.Signer.{SignerState, IsLater, Stays, IsKeyOf, IsSignature, IsOneOff, SigningFails, SigningSpares}

-- at most 2^16 octets
abbrev pub IsShort : List ℕ → Type 0
IsShort octets = length octets ≤ most_key

-- the key is the identifier's, and has at most 2^16 octets
pub record IsShortKey {Id : Type 0} (id : Id) (before after : SignerState Id) (key : KeyFields)
    : Type 0 where
  pub is : IsKeyOf id before after key
  pub short : IsShort key.bits

-- the octets are a signature of the message under the identifier's key, and are at most 2^16
pub record IsShortSignature {Id : Type 0} (scheme : Relation) (kind : SigningAlgorithm) (id : Id)
    (message : List ℕ) (before after : SignerState Id) (octets : List ℕ) : Type 0 where
  pub is : IsSignature scheme kind id message before after octets
  pub short : IsShort octets

-- the octets are a signature of the message under a key for this one use, and they and the key are
-- at most 2^16 octets each
pub record IsShortOneOff {Id : Type 0} (scheme : Relation) (kind : SigningAlgorithm)
    (message : List ℕ) (before after : SignerState Id) (octets : List ℕ) (key : KeyFields) : Type 0
  where
    pub is : IsOneOff scheme kind message before after octets key
    pub short : IsShort octets
    pub short_key : IsShort key.bits

-- the keyring stays, and no count falls
pub record Keeps {Id : Type 0} (before after : SignerState Id) : Type 0 where
  pub later : IsLater before after
  pub keyring : after.keyring ≡ before.keyring

-- Why nothing was made: a key or a signature was too long, and the signer told so by its count; or
-- the signer refused, by its causes.
-- Of want of memory nothing is said, and no refusal of the signer stands for it.
abbrev pub MakeFails : {Id E : Type 0} → SigningAlgorithm → Id → SignerState Id → SignerState Id
    → MakeError E → Type 0
MakeFails kind id before after make.TooLong = Rose before.overlong after.overlong
MakeFails kind id before after (make.Signing error) =
    (error ≢ signing.OutOfMemory) × SigningFails kind id before after error
MakeFails kind id before after make.OutOfMemory = ⊤

-- ---- which refusal was the first, where an RSA key is asked for and then signed under

-- a call was refused: it gave nothing, so it counted nothing that is too long
pub record IsCallRefused {Id E : Type 0} (id : Id) (before after : SignerState Id)
    (error : SigningError E) : Type 0 where
  pub stays : Stays before after
  pub uncounted : after.overlong ≡ before.overlong
  pub known : error ≢ signing.OutOfMemory
  pub fails : SigningFails RsaSha256 id before after error
  pub spares : SigningSpares before after error

-- memory ran out: nothing was given, so no count of the signer's shows that it failed or gave too
-- much
pub record IsSpared {Id : Type 0} (before after : SignerState Id) : Type 0 where
  pub stays : Stays before after
  pub uncounted : after.overlong ≡ before.overlong
  pub no_fault : after.faults ≡ before.faults

-- the key was given, and is too long
pub record GivesLongKey {Id : Type 0} (id : Id) (before after : SignerState Id) : Type 0 where
  pub key : KeyFields
  pub is : IsKeyOf id before after key
  pub long : most_key < length key.bits

-- the key wasn't given, or is too long; nothing was signed
abbrev pub RefusesKey : {Id E : Type 0} → Id → SignerState Id → SignerState Id → MakeError E
    → Type 0
RefusesKey id before after make.TooLong = GivesLongKey id before after
RefusesKey id before after (make.Signing error) =
    IsCallRefused id before after error × (error ≢ signing.IncompatibleKey)
RefusesKey id before after make.OutOfMemory = IsSpared before after

-- a signature of some message was given, and is too long
pub record GivesLongSignature {Id : Type 0} (scheme : Relation) (id : Id)
    (before after : SignerState Id) : Type 0 where
  pub message : List ℕ
  pub octets : List ℕ
  pub is : IsSignature scheme RsaSha256 id message before after octets
  pub long : most_key < length octets

-- the signature wasn't given, or is too long
abbrev pub RefusesSignature : {Id E : Type 0} → Relation → Id → SignerState Id → SignerState Id
    → MakeError E → Type 0
RefusesSignature scheme id before after make.TooLong = GivesLongSignature scheme id before after
RefusesSignature scheme id before after (make.Signing error) = IsCallRefused id before after error
RefusesSignature scheme id before after make.OutOfMemory = IsSpared before after

-- the key was given, and is not too long
pub record StopsBehindKey {Id E : Type 0} (scheme : Relation) (id : Id)
    (before after : SignerState Id) (error : MakeError E) : Type 0 where
  pub between : SignerState Id
  pub key : KeyFields
  pub given : IsShortKey id before between key
  pub refuses : RefusesSignature scheme id between after error

-- a call that asks for a key and signs under it stops at the key or at the signature
abbrev pub StopsInTurn : {Id E : Type 0} → Relation → Id → SignerState Id → SignerState Id
    → MakeError E → Type 0
StopsInTurn scheme id before after error =
    RefusesKey id before after error ⊎ StopsBehindKey scheme id before after error

-- ---- a signature under a key for one use, which asks for no identifier

-- the signature and its key were given, and one of them is too long
pub record GivesLongOneOff {Id : Type 0} (scheme : Relation) (message : List ℕ)
    (before after : SignerState Id) : Type 0 where
  pub octets : List ℕ
  pub key : KeyFields
  pub is : IsOneOff scheme RsaSha256 message before after octets key
  pub long : (most_key < length octets) ⊎ (most_key < length key.bits)

-- the signer failed, and gave no key
pub record IsFaulted {Id : Type 0} (before after : SignerState Id) : Type 0 where
  pub stays : Stays before after
  pub uncounted : after.overlong ≡ before.overlong
  pub told : Rose before.faults after.faults

-- a signature under a key for one use, and that key, weren't given, or one of them is too long
abbrev pub RefusesOneOff : {Id E : Type 0} → Relation → List ℕ → SignerState Id → SignerState Id
    → MakeError E → Type 0
RefusesOneOff scheme message before after make.TooLong =
    GivesLongOneOff scheme message before after
RefusesOneOff scheme message before after (make.Signing signing.KeyNotFound) = ⊥
RefusesOneOff scheme message before after (make.Signing signing.IncompatibleKey) = ⊥
RefusesOneOff scheme message before after (make.Signing (signing.Signer error)) =
    IsFaulted before after
RefusesOneOff scheme message before after (make.Signing signing.OutOfMemory) = ⊥
RefusesOneOff scheme message before after make.OutOfMemory = IsSpared before after

-- the algorithm that is signed with: rsaEncryption and NULL
abbrev pub default_algorithm : RpkiAlgorithm
default_algorithm = record { identifier = RsaEncryption; null = true }
