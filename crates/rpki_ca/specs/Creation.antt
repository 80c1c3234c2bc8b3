-- What is answered where a message is to be created, before the signer is asked and after
-- (RFC 6492, 3.1.1; RFC 8181, 2).
use Rattle.std.specs.Prelude.{⊤, IfErr, ◌≡◌, ◌≢◌, ◌≤ℤ◌, ◌<◌, ◌≤◌, ◌^◌, ◌⊎◌, ℕ, ℤ, List, [], ◌∷◌, ◌++◌, length, Some, Result, Ok, Err}
use Rattle.std.specs.Io.KnownBytes.{Appends}
use Rattle.hex.specs.Hex.{encode_lower}
use Rattle.rpki_common.specs.Causes.{Rose}
use Rattle.rpki_common.specs.Limits.{most_content, most_input}
use Rattle.rpki_base.specs.declared.algorithm.SigningAlgorithm.TheVariants.{RsaSha256}
use Rattle.rpki_base.specs.Algorithm.{format_of}
use Rattle.rpki_base.specs.PublicKey.{KeyFields}
use Rattle.rpki_base.specs.Scheme.{Relation}
use Rattle.rpki_signer.specs.Signer.{HoldsKey, LacksKey, IsUnfit}
use Rattle.rpki_sigmsg.specs.Checks.{IsAmong}
use Rattle.rpki_signer.specs.declared.errors.KeyError.{KeyError}
use Rattle.rpki_signer.specs.declared.errors.KeyError.TheVariants as keys
use Rattle.rpki_signer.specs.declared.errors.SigningError.TheVariants as signing
use Rattle.rpki_sigmsg.specs.declared.create_error.CreateError.{CreateError}
use Rattle.rpki_sigmsg.specs.declared.create_error.CreateError.TheVariants as create
use Rattle.rpki_signer.specs.declared.errors.MakeError.TheVariants as make
use Rattle.rpki_sigmsg.specs.FirstRefusals.{HasOneKey, StopsCreating}
use Rattle.rpki_sigmsg.specs.Making.{window, HasWindow, IsMessageCreated, IsReused, made_covered}
use Rattle.rpki_sigmsg.specs.Message.{MessageFields}
use Rattle.rpki_sigmsg.specs.Spelling.{rewritten}
use Rattle.rpki_ca.specs.declared.receiving.Kind.{Kind}
use Rattle.rpki_ca.specs.declared.receiving.Received.{Received}
use Rattle.rpki_ca.specs.declared.refusals.Refusal.{Refusal}
use Rattle.rpki_ca.specs.declared.refusals.Refusal.TheVariants as refusals
use Rattle.rpki_ca.specs.Acceptance.{ReadsAs, HasNoForm, HoldsNoCertificate, HoldsNoRequest}
use Rattle.rpki_ca.specs.Acceptance.{accepted_text, normal_form, Accepted}
use Rattle.rpki_ca.specs.Seen.{Seen, SignerSeen}

-- ---- before the signer is asked

-- why the input reads as no message of the kind
abbrev pub RefusesInput : Kind → List ℕ → Refusal → Type 0
RefusesInput kind input refusals.XmlError = HasNoForm kind input
RefusesInput kind input refusals.CertSyntax = HoldsNoCertificate kind input
RefusesInput kind input refusals.InvalidCsrSyntax = HoldsNoRequest kind input
RefusesInput kind input other = ⊥

-- the input reads as a message, and the moment has no window
pub record HasNoWindow (kind : Kind) (input : List ℕ) (when : ℤ) : Type 0 where
  pub message : Received
  pub reads : ReadsAs kind input message
  pub none : HasWindow when → ⊥

-- the input reads as a message, the moment has a window, and the message's text has more than 2^31
-- octets
pub record HasLongText (kind : Kind) (input : List ℕ) (when : ℤ) : Type 0 where
  pub message : Received
  pub reads : ReadsAs kind input message
  pub window_is : HasWindow when
  pub long : most_content < length (accepted_text message)

-- why nothing is created, whoever signs
abbrev pub IsCreateRefusal : Kind → List ℕ → ℤ → Result (List ℕ) Refusal → Type 0
IsCreateRefusal kind input when (Err refusals.Moment) = HasNoWindow kind input when
IsCreateRefusal kind input when (Err refusals.TooLong) = HasLongText kind input when
IsCreateRefusal kind input when (Err refusal) = RefusesInput kind input refusal
IsCreateRefusal kind input when (Ok text) = ⊥

-- ---- after it was asked

-- The octets are accepted as the message's normal form, under every list of keys that holds the
-- issuing key, at each second from 300 before the moment to 300 after it.
abbrev pub IsReceivable : {Id : Type 0} → Relation → Kind → List ℕ → Received → ℤ → SignerSeen Id
    → Type 0
IsReceivable scheme kind octets message when signer =
    (key : KeyFields) → HoldsKey signer.before.keyring signer.id key
    → (keys : List KeyFields) → IsAmong keys key
    → (moment : ℤ) → (window when).not_before ≤ℤ moment → moment ≤ℤ (window when).not_after
    → Accepted scheme kind octets keys moment (normal_form message)

-- The octets are the DER of a signed message that was created with the message's text as its
-- content, and the message is received of them.
pub record AreCreated {Id : Type 0} (scheme : Relation) (kind : Kind) (message : Received)
    (when : ℤ) (signer : SignerSeen Id) (octets : List ℕ) : Type 0 where
  pub signed : MessageFields
  pub created : IsMessageCreated scheme (accepted_text message) when signer.id signer.before
      signer.after signed
  pub are : octets ≡ rewritten signed
  pub receivable : IsReceivable scheme kind octets message when signer

-- the text is such octets in hexadecimal of lower case
pub record IsTextCreated {Id : Type 0} (scheme : Relation) (kind : Kind) (message : Received)
    (when : ℤ) (signer : SignerSeen Id) (text : List ℕ) : Type 0 where
  pub octets : List ℕ
  pub created : AreCreated scheme kind message when signer octets
  pub written : text ≡ encode_lower octets

-- what comes of asking the signer, each refusal by its cause
abbrev pub IsSigningAnswer : {Id : Type 0} → Relation → Kind → Received → ℤ → SignerSeen Id
    → Result (List ℕ) Refusal → Type 0
IsSigningAnswer scheme kind message when signer (Ok text) =
    IsTextCreated scheme kind message when signer text
IsSigningAnswer scheme kind message when signer (Err refusals.TooLong) =
    Rose signer.before.overlong signer.after.overlong
IsSigningAnswer scheme kind message when signer (Err refusals.KeyReused) =
    IsReused signer.id signer.before signer.after
IsSigningAnswer scheme kind message when signer (Err refusals.KeyNotFound) =
    LacksKey signer.before.keyring signer.id
IsSigningAnswer scheme kind message when signer (Err refusals.IncompatibleKey) =
    IsUnfit RsaSha256 signer.before.keyring signer.id
IsSigningAnswer scheme kind message when signer (Err refusals.Signer) =
    Rose signer.before.faults signer.after.faults
IsSigningAnswer scheme kind message when signer other = ⊥

-- The signer is asked in turn for the signature of the attributes, for the issuing key, for the
-- CRL's signature and for the certificate, and this is its first refusal: all that it gave before
-- has at most 2^16 octets. Which error of its own it had is left out.
abbrev pub IsFirstToRefuse : {Id : Type 0} → Relation → List ℕ → ℤ → SignerSeen Id → Refusal
    → Type 0
IsFirstToRefuse scheme text when signer refusals.TooLong =
    StopsCreating {E = Unit {0}} scheme text when signer.id signer.before signer.after make.TooLong
IsFirstToRefuse scheme text when signer refusals.KeyReused =
    HasOneKey scheme (made_covered text when) signer.id signer.before signer.after
IsFirstToRefuse scheme text when signer refusals.KeyNotFound =
    StopsCreating {E = Unit {0}} scheme text when signer.id signer.before signer.after
    (make.Signing signing.KeyNotFound)
IsFirstToRefuse scheme text when signer refusals.IncompatibleKey =
    StopsCreating {E = Unit {0}} scheme text when signer.id signer.before signer.after
    (make.Signing signing.IncompatibleKey)
IsFirstToRefuse scheme text when signer refusals.Signer =
    StopsCreating {E = Unit {0}} scheme text when signer.id signer.before signer.after
    (make.Signing (signing.Signer tt))
IsFirstToRefuse scheme text when signer other = ⊤

-- the input reads as a message whose text has at most 2^31 octets, and the moment has a window: so
-- the signer was asked, and this came of it
pub record IsSignersAnswer {Id : Type 0} (scheme : Relation) (kind : Kind) (input : List ℕ)
    (when : ℤ) (signer : SignerSeen Id) (answer : Result (List ℕ) Refusal) : Type 0 where
  pub message : Received
  pub reads : ReadsAs kind input message
  pub window_is : HasWindow when
  pub fits : length (accepted_text message) ≤ most_content
  pub signed : IsSigningAnswer scheme kind message when signer answer
  pub first : IfErr answer (IsFirstToRefuse scheme (accepted_text message) when signer)

-- what is answered where a message is to be created
abbrev pub IsCreateAnswer : {Id : Type 0} → Relation → Kind → List ℕ → ℤ → SignerSeen Id
    → Result (List ℕ) Refusal → Type 0
IsCreateAnswer scheme kind input when signer answer =
    IsCreateRefusal kind input when answer
    ⊎ IsSignersAnswer scheme kind input when signer answer

-- how an error of creation is answered
abbrev pub refusal_of_create : {E : Type 0} → CreateError E → Refusal
refusal_of_create create.Moment = refusals.Moment
refusal_of_create create.TooLong = refusals.TooLong
refusal_of_create create.KeyReused = refusals.KeyReused
refusal_of_create (create.Signing signing.KeyNotFound) = refusals.KeyNotFound
refusal_of_create (create.Signing signing.IncompatibleKey) = refusals.IncompatibleKey
refusal_of_create (create.Signing (signing.Signer error)) = refusals.Signer
refusal_of_create (create.Signing signing.OutOfMemory) = refusals.OutOfMemory
refusal_of_create create.OutOfMemory = refusals.OutOfMemory

-- how a refusal to give a key is answered
abbrev pub refusal_of_key : {E : Type 0} → KeyError E → Refusal
refusal_of_key keys.KeyNotFound = refusals.KeyNotFound
refusal_of_key (keys.Signer error) = refusals.Signer
refusal_of_key keys.OutOfMemory = refusals.OutOfMemory

-- ---- at the end of a call

-- The input reads as a message, the signer holds the issuing key, which it did not give for one
-- use, and what was written is the hexadecimal of octets of which the message is received.
pub record Creates {Id : Type 0} (scheme : Relation) (kind : Kind) (when : ℤ) (input : List ℕ)
    (signer : SignerSeen Id) (sink : Seen) : Type 0 where
  pub message : Received
  pub reads : ReadsAs kind input message
  pub issuing : KeyFields
  pub holds : HoldsKey signer.before.keyring signer.id issuing
  pub format : issuing.format ≡ format_of RsaSha256
  pub other : signer.after.drawn ≢ Some issuing
  pub octets : List ℕ
  pub receivable : IsReceivable scheme kind octets message when signer
  pub written : Appends sink.before sink.after (encode_lower octets ++ 10 ∷ [])

-- The signer holds a fitting key, and it neither failed nor gave too many octets, nor that key for
-- one use.
pub record CanSign {Id : Type 0} (signer : SignerSeen Id) : Type 0 where
  pub issuing : KeyFields
  pub holds : HoldsKey signer.before.keyring signer.id issuing
  pub format : issuing.format ≡ format_of RsaSha256
  pub no_fault : Rose signer.before.faults signer.after.faults → ⊥
  pub short_answers : Rose signer.before.overlong signer.after.overlong → ⊥
  pub other : Rose signer.before.reused signer.after.reused → signer.after.drawn ≢ Some issuing

-- The input has at most 2^26 octets and reads as a message whose text has at most 2^31, the moment
-- has a window, and the signer can sign.
pub record CanCreate {Id : Type 0} (kind : Kind) (when : ℤ) (input : List ℕ)
    (signer : SignerSeen Id) : Type 0 where
  pub short : length input ≤ most_input
  pub message : Received
  pub reads : ReadsAs kind input message
  pub window_is : HasWindow when
  pub fits : length (accepted_text message) ≤ most_content
  pub signs : CanSign signer
