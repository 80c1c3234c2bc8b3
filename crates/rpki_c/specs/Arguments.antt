-- What the numbers and octets of a call are read as.
use Rattle.std.specs.Prelude.{◌≡◌, ◌≤◌, ◌⊎◌, ℕ, ℤ, pos, Bool, true, false, Option, None, Some, Result, Err, List, [], ◌∷◌, length, map}
use Rattle.rpki_common.specs.Limits.{most_keys}
use Rattle.rpki_der.specs.Value.{Value, Begins}
use Rattle.rpki_der.specs.Whole.{IsWhole}
use Rattle.rpki_der.specs.declared.mode.Mode.TheVariants.{Der}
use Rattle.rpki_base.specs.Civil.{IsMoment}
use Rattle.rpki_base.specs.PublicKey.{KeyFields, public_key}
use Rattle.rpki_base.specs.Validity.{ValidityFields}
use Rattle.rpki_text.specs.Uri.{fault_of, https, rsync}
use Rattle.rpki_ca.specs.declared.receiving.Kind.{Kind}
use Rattle.rpki_ca.specs.declared.receiving.Kind.TheVariants as kinds
use Rattle.rpki_ca.specs.declared.refusals.Refusal.TheVariants as refusals
use Rattle.rpki_ca.specs.declared.setup_message.SetupKind.{SetupKind}
use Rattle.rpki_ca.specs.declared.setup_message.SetupKind.TheVariants as setups
use Rattle.rpki_external.specs.Answers.{AnswersFields}
use Rattle.rpki_external.specs.Words.{IsSerial}
use Rattle.rpki_external.specs.declared.keys_refusal.KeysRefusal.{KeysRefusal}
use Rattle.rpki_external.specs.declared.keys_refusal.KeysRefusal.TheVariants as keys
use Rattle.rpki_external.specs.declared.preparing.Plan.{Plan}
use Rattle.rpki_external.specs.declared.preparing_requests.RequestPlan.{RequestPlan}

-- ---- arguments that are read, or not

-- the refusal of arguments that are none of these
abbrev pub usage : KeysRefusal
usage = keys.General refusals.Usage

-- nothing is read so
abbrev pub IsUnread : {X : Type 0} → (X → Type 0) → Type 0
IsUnread {X} reads = (x : X) → reads x → ⊥

-- an argument is read as x, of which this is the answer; or it is read as nothing, which is Usage
abbrev pub OfRead : {X Y : Type 0} → (X → Type 0) → (X → Result Y KeysRefusal → Type 0)
    → Result Y KeysRefusal → Type 0
OfRead {X} reads is answer =
    ((x : X) × reads x × is x answer) ⊎ ((answer ≡ Err usage) × IsUnread reads)

-- ---- numbers

-- 1 and 2 are the protocols
abbrev pub IsKindIn : ℤ → Kind → Type 0
IsKindIn number kinds.Publication = number ≡ pos 1
IsKindIn number kinds.Provisioning = number ≡ pos 2

-- 1 to 4 are the setup messages
abbrev pub IsSetupKindIn : ℤ → SetupKind → Type 0
IsSetupKindIn number setups.ChildRequest = number ≡ pos 1
IsSetupKindIn number setups.ParentResponse = number ≡ pos 2
IsSetupKindIn number setups.PublisherRequest = number ≡ pos 3
IsSetupKindIn number setups.RepositoryResponse = number ≡ pos 4

-- the moment, in seconds since 1970, is in the years 0 to 9999
abbrev pub IsMomentIn : ℤ → ℤ → Type 0
IsMomentIn number when = (when ≡ number) × IsMoment number

-- with 0 there is no last time, and with 1 it is this moment
abbrev pub IsLastIn : ℤ → ℤ → Option ℤ → Type 0
IsLastIn has number None = has ≡ pos 0
IsLastIn has number (Some last) = (has ≡ pos 1) × IsMomentIn number last

-- both ends are moments
pub record IsValidityIn (not_before not_after : ℤ) (v : ValidityFields) : Type 0 where
  pub first : IsMomentIn not_before v.not_before
  pub last : IsMomentIn not_after v.not_after

-- ---- octets

-- the octets are one key in DER
abbrev pub IsKeyIn : List ℕ → KeyFields → Type 0
IsKeyIn octets key = IsWhole public_key Der octets key

-- the octets are these keys in DER, one behind the other, and nothing behind the last
abbrev pub AreKeysIn : List ℕ → List KeyFields → Type 0
AreKeysIn octets [] = octets ≡ []
AreKeysIn octets (key ∷ more) = (v : Value) × (rest : List ℕ) × Begins Der octets v rest
    × (public_key v ≡ Some key) × AreKeysIn rest more

-- they are one to eight
pub record AreFewKeysIn (octets : List ℕ) (list : List KeyFields) : Type 0 where
  pub some : 1 ≤ length list
  pub few : length list ≤ most_keys
  pub are : AreKeysIn octets list

-- an answer as an octet
abbrev pub octet_of : Bool → ℕ
octet_of false = 0
octet_of true = 1

-- a digest of 32 octets, and an octet for each answer
pub record AreAnswersIn (digest octets : List ℕ) (a : AnswersFields) : Type 0 where
  pub digest_is : a.digest ≡ digest
  pub whole : length digest ≡ 32
  pub values : octets ≡ map octet_of a.values

-- twenty octets, of which the first bit is 0
abbrev pub IsSerialIn : List ℕ → List ℕ → Type 0
IsSerialIn octets serial = (serial ≡ octets) × IsSerial octets

-- a lawful rsync URI
abbrev pub IsRsyncIn : List ℕ → List ℕ → Type 0
IsRsyncIn octets uri = (uri ≡ octets) × (fault_of rsync octets ≡ None)

-- a lawful https URI
abbrev pub IsHttpsIn : List ℕ → List ℕ → Type 0
IsHttpsIn octets uri = (uri ≡ octets) × (fault_of https octets ≡ None)

-- the same, or none where there are no octets
abbrev pub IsNotifyIn : List ℕ → Option (List ℕ) → Type 0
IsNotifyIn octets None = octets ≡ []
IsNotifyIn octets (Some uri) = IsHttpsIn octets uri

-- ---- several arguments

-- when a message is made, its certificate's serial number, and both keys
pub record IsPlanIn (when : ℤ) (serial issuing_key one_off_key : List ℕ) (p : Plan) : Type 0 where
  pub moment : IsMomentIn when p.when
  pub serial_is : IsSerialIn serial p.serial
  pub issuing_key_is : IsKeyIn issuing_key p.issuing_key
  pub key_is : IsKeyIn one_off_key p.key

-- a key, and the URIs of its repository, its manifest and its notifications
pub record IsRequestPlanIn (key repository manifest notify : List ℕ) (p : RequestPlan) : Type 0
  where
    pub key_is : IsKeyIn key p.key
    pub repository_is : IsRsyncIn repository p.ca_repository
    pub manifest_is : IsRsyncIn manifest p.rpki_manifest
    pub notify_is : IsNotifyIn notify p.rpki_notify
