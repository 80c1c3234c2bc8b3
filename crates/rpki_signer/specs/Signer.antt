-- What a signer holds and has done, and what each of its calls does to that.
use Rattle.std.specs.Prelude.{◌≡◌, ◌≢◌, ◌≤◌, ◌<◌, ◌^◌, ℕ, Option, Some, List, [], ◌∷◌, ◌++◌, length, Contains, ⊤}
use Rattle.rpki_common.specs.Causes.{Rose}
use Rattle.rpki_common.specs.Limits.{most_key}
use Rattle.rpki_base.specs.declared.algorithm.PublicKeyFormat.{PublicKeyFormat}
use Rattle.rpki_base.specs.declared.algorithm.SigningAlgorithm.{SigningAlgorithm}
use Rattle.rpki_base.specs.Algorithm.{format_of}
use Rattle.rpki_base.specs.PublicKey.{KeyFields}
use Rattle.rpki_base.specs.Scheme.{Relation}
use Rattle.rpki_signer.specs.declared.errors.CallError.{CallError}
use Rattle.rpki_signer.specs.declared.errors.CallError.TheVariants as call
use Rattle.rpki_signer.specs.declared.errors.KeyError.{KeyError}
use Rattle.rpki_signer.specs.declared.errors.KeyError.TheVariants as key
use Rattle.rpki_signer.specs.declared.errors.SigningError.{SigningError}
use Rattle.rpki_signer.specs.declared.errors.SigningError.TheVariants as signing

-- a key that a signer holds, and the identifier by which it is asked for
pub record HeldKey (Id : Type 0) : Type 0 where
  pub id : Id
  pub key : KeyFields

-- The keys that it holds; how often it failed, how often it gave a key or a signature of more than
-- 2^16 octets, and how often it gave, for one use, a key that it holds, counts that may stop at
-- 2^64 - 1; the key that it gave last for one use, if it did; and the octets that it drew last,
-- none before the first.
pub record SignerState (Id : Type 0) : Type 0 where
  pub keyring : List (HeldKey Id)
  pub faults : ℕ
  pub overlong : ℕ
  pub reused : ℕ
  pub drawn : Option KeyFields
  pub random : List ℕ

-- the identifier is that of the key
abbrev pub HoldsKey : {Id : Type 0} → List (HeldKey Id) → Id → KeyFields → Type 0
HoldsKey keyring id key = Contains keyring (record { id = id; key = key })

-- the identifier is that of no key
abbrev pub LacksKey : {Id : Type 0} → List (HeldKey Id) → Id → Type 0
LacksKey keyring id = (key : KeyFields) → HoldsKey keyring id key → ⊥

-- no two keys have one identifier
abbrev pub AreDistinct : {Id : Type 0} → List (HeldKey Id) → Type 0
AreDistinct [] = ⊤
AreDistinct (held ∷ more) = LacksKey more held.id × AreDistinct more

-- ---- what a call leaves

-- no count falls
pub record IsLater {Id : Type 0} (before after : SignerState Id) : Type 0 where
  pub faults : before.faults ≤ after.faults
  pub overlong : before.overlong ≤ after.overlong
  pub reused : before.reused ≤ after.reused

-- no count falls, and nothing else changes
pub record Stays {Id : Type 0} (before after : SignerState Id) : Type 0 where
  pub later : IsLater before after
  pub keyring : after.keyring ≡ before.keyring
  pub drawn : after.drawn ≡ before.drawn
  pub random : after.random ≡ before.random

-- more than 2^16 octets of a key or a signature are told by their count
abbrev pub TellsLength : {Id : Type 0} → SignerState Id → SignerState Id → List ℕ → Type 0
TellsLength before after octets = most_key < length octets → Rose before.overlong after.overlong

-- ---- what the answers mean; of want of memory nothing is said

-- what a CallError says: Signer, that the count of faults rose or is at its end
abbrev pub CallFails : {Id E : Type 0} → SignerState Id → SignerState Id → CallError E → Type 0
CallFails before after (call.Signer error) = Rose before.faults after.faults
CallFails before after call.OutOfMemory = ⊤

-- what a KeyError says: KeyNotFound, that no key has the identifier; Signer, that the count of
-- faults rose or is at its end
abbrev pub KeyFails : {Id E : Type 0} → Id → SignerState Id → SignerState Id → KeyError E → Type 0
KeyFails id before after key.KeyNotFound = LacksKey before.keyring id
KeyFails id before after (key.Signer error) = Rose before.faults after.faults
KeyFails id before after key.OutOfMemory = ⊤

-- there is a key under the identifier, and each has another format than signatures of this kind
-- need
pub record IsUnfit {Id : Type 0} (kind : SigningAlgorithm) (keyring : List (HeldKey Id)) (id : Id)
    : Type 0 where
  pub key : KeyFields
  pub holds : HoldsKey keyring id key
  pub only : (other : KeyFields) → HoldsKey keyring id other → other.format ≢ format_of kind

-- what a SigningError says: KeyNotFound, that the identifier has no key; IncompatibleKey, that each
-- of its keys has another format; Signer, that the count of faults rose or is at its end
abbrev pub SigningFails : {Id E : Type 0} → SigningAlgorithm → Id → SignerState Id
    → SignerState Id → SigningError E → Type 0
SigningFails kind id before after signing.KeyNotFound = LacksKey before.keyring id
SigningFails kind id before after signing.IncompatibleKey = IsUnfit kind before.keyring id
SigningFails kind id before after (signing.Signer error) = Rose before.faults after.faults
SigningFails kind id before after signing.OutOfMemory = ⊤

-- ---- a refusal that isn't the signer's failing leaves the count of faults

-- a CallError that isn't Signer leaves the count of faults
abbrev pub CallSpares : {Id E : Type 0} → SignerState Id → SignerState Id → CallError E → Type 0
CallSpares before after (call.Signer error) = ⊤
CallSpares before after call.OutOfMemory = after.faults ≡ before.faults

-- a KeyError that isn't Signer leaves the count of faults
abbrev pub KeySpares : {Id E : Type 0} → SignerState Id → SignerState Id → KeyError E → Type 0
KeySpares before after key.KeyNotFound = after.faults ≡ before.faults
KeySpares before after (key.Signer error) = ⊤
KeySpares before after key.OutOfMemory = after.faults ≡ before.faults

-- a SigningError that isn't Signer leaves the count of faults
abbrev pub SigningSpares : {Id E : Type 0} → SignerState Id → SignerState Id → SigningError E
    → Type 0
SigningSpares before after signing.KeyNotFound = after.faults ≡ before.faults
SigningSpares before after signing.IncompatibleKey = after.faults ≡ before.faults
SigningSpares before after (signing.Signer error) = ⊤
SigningSpares before after signing.OutOfMemory = after.faults ≡ before.faults

-- ---- what is given, without a fault

-- a key of this format was added under a new identifier
pub record IsKeyCreated {Id : Type 0} (format : PublicKeyFormat) (before after : SignerState Id)
    (id : Id) : Type 0 where
  pub key : KeyFields
  pub format_is : key.format ≡ format
  pub new : LacksKey before.keyring id
  pub keyring : after.keyring ≡ before.keyring ++ record { id = id; key = key } ∷ []
  pub later : IsLater before after
  pub no_fault : after.faults ≡ before.faults
  pub drawn : after.drawn ≡ before.drawn
  pub random : after.random ≡ before.random

-- the identifier and its key were taken out
pub record IsDestroyed {Id : Type 0} (id : Id) (before after : SignerState Id) : Type 0 where
  pub key : KeyFields
  pub front : List (HeldKey Id)
  pub back : List (HeldKey Id)
  pub held : before.keyring ≡ front ++ record { id = id; key = key } ∷ back
  pub keyring : after.keyring ≡ front ++ back
  pub later : IsLater before after
  pub no_fault : after.faults ≡ before.faults
  pub drawn : after.drawn ≡ before.drawn
  pub random : after.random ≡ before.random

-- the key is the identifier's
pub record IsKeyOf {Id : Type 0} (id : Id) (before after : SignerState Id) (key : KeyFields)
    : Type 0 where
  pub stays : Stays before after
  pub no_fault : after.faults ≡ before.faults
  pub holds : HoldsKey before.keyring id key
  pub told : TellsLength before after key.bits

-- the octets are a signature of the message under the identifier's key
pub record IsSignature {Id : Type 0} (scheme : Relation) (kind : SigningAlgorithm) (id : Id)
    (message : List ℕ) (before after : SignerState Id) (octets : List ℕ) : Type 0 where
  pub stays : Stays before after
  pub no_fault : after.faults ≡ before.faults
  pub key : KeyFields
  pub holds : HoldsKey before.keyring id key
  pub signed : scheme kind key message octets
  pub told : TellsLength before after octets

-- The octets are a signature of the message under a key for this one use. Where the signer holds
-- that key, it is told by its count.
pub record IsOneOff {Id : Type 0} (scheme : Relation) (kind : SigningAlgorithm) (message : List ℕ)
    (before after : SignerState Id) (octets : List ℕ) (key : KeyFields) : Type 0 where
  pub later : IsLater before after
  pub no_fault : after.faults ≡ before.faults
  pub keyring : after.keyring ≡ before.keyring
  pub drawn : after.drawn ≡ Some key
  pub random : after.random ≡ before.random
  pub signed : scheme kind key message octets
  pub fresh : (id : Id) → HoldsKey before.keyring id key → Rose before.reused after.reused
  pub told : TellsLength before after octets
  pub key_told : TellsLength before after key.bits

-- the octets were drawn
pub record IsDrawn {Id : Type 0} (before after : SignerState Id) (octets : List ℕ) : Type 0 where
  pub later : IsLater before after
  pub no_fault : after.faults ≡ before.faults
  pub keyring : after.keyring ≡ before.keyring
  pub drawn : after.drawn ≡ before.drawn
  pub random : after.random ≡ octets
