-- The fourteen checks of a signed message under an issuer's key at a moment, and what they mean
-- (RFC 5652, 5.4 and 5.6; RFC 6492, 3.1.2;
-- RFC 8181, 2); and the same under a list of keys.
use Rattle.std.specs.Prelude.{◌≡◌, ◌↔◌, ◌≤ℤ◌, ◌+◌, ℕ, ℤ, Bool, not, ◌||◌, ◌==◌, if◌then◌else◌, bytes_eq, true, Decides, Option, None, Some, Result, Ok, Err}
use Rattle.std.specs.Prelude.{List, [], ◌∷◌, ◌++◌, length, max, ⊤}
use Rattle.std.specs.List.{list_all, AllByRecursion}
use Rattle.sha2.specs.Sha256.{sha256}
use Rattle.rpki_base.specs.PublicKey.{KeyFields}
use Rattle.rpki_base.specs.Scheme.{Relation}
use Rattle.rpki_base.specs.declared.algorithm.SigningAlgorithm.TheVariants.{RsaSha256}
use Rattle.rpki_base.specs.Checks.{first_failure, failing, IsSigned}
use Rattle.rpki_idcert.specs.Checks.{ee_checks}
use Rattle.rpki_base.specs.declared.validation.ValidationError.{ValidationError}
use Rattle.rpki_base.specs.declared.validation.ValidationKind.{ValidationKind}
use Rattle.rpki_base.specs.declared.validation.ValidationKind.TheVariants.{Inspection, Verification}
use Rattle.rpki_sigmsg.specs.RevokedCertificates.{is_listed}
use Rattle.rpki_sigmsg.specs.CrlChecks.{crl_checks, AreCrlsSigned}
use Rattle.rpki_sigmsg.specs.Message.{MessageFields}

-- the question to the scheme: whether the signature of the attributes holds under the key of the
-- certificate
abbrev pub AreAttributesSigned : Relation → MessageFields → Type 0
AreAttributesSigned scheme m = scheme RsaSha256 m.certificate.tbs.key m.covered m.signature.value

-- 1 to 3: the signer is named by the certificate's subject key identifier; the content's SHA-256 is
-- the signed digest; q3: the attributes are signed under the certificate's key
abbrev pub message_checks : MessageFields → Bool → List Bool
message_checks m q3 =
    bytes_eq m.signer m.certificate.tbs.subject_key_id
    ∷ bytes_eq (sha256 m.content) m.digest
    ∷ q3
    ∷ []

-- 14: no CRL lists the certificate
abbrev pub is_not_revoked : MessageFields → Bool
is_not_revoked m =
    list_all (λ c. not (is_listed m.certificate.tbs.serial c.tbs.revoked.entries)) m.crls

-- 4 to 14, of which some ask for the issuer's key; 4 to 8 are those of the end entity's
-- certificate, 9 to 13 those of the CRLs
abbrev pub key_checks : MessageFields → KeyFields → ℤ → Bool → Bool → List Bool
key_checks m issuer when q8 q10 =
    ee_checks m.certificate issuer when q8
    ++ (crl_checks m.crls issuer when q10
    ++ (is_not_revoked m ∷ []))

-- all fourteen checks in their order
abbrev pub checks : MessageFields → KeyFields → ℤ → Bool → Bool → Bool → List Bool
checks m issuer when q3 q8 q10 =
    message_checks m q3 ++ key_checks m issuer when q8 q10

-- checks 1 and 4 are inspections
abbrev pub kind_of : ℕ → ValidationKind
kind_of n = if n == 1 || n == 4 then Inspection else Verification

-- the questions to the scheme, with their answers: of the attributes, of the certificate, and of
-- all CRLs
pub record Asked (scheme : Relation) (m : MessageFields) (issuer : KeyFields) : Type 0 where
  pub q3 : Bool
  pub q8 : Bool
  pub q10 : Bool
  pub attributes : Decides q3 (AreAttributesSigned scheme m)
  pub certificate : Decides q8 (IsSigned scheme m.certificate issuer)
  pub crls : Decides q10 (AreCrlsSigned scheme m.crls issuer)

-- the list is that of all fourteen, by what the scheme answers
pub record AreChecks (scheme : Relation) (m : MessageFields) (issuer : KeyFields) (when : ℤ)
    (list : List Bool) : Type 0 where
  pub asked : Asked scheme m issuer
  pub are : list ≡ checks m issuer when asked.q3 asked.q8 asked.q10

-- the signatures hold: that of the attributes under the key of the certificate, and those of the
-- certificate and of each CRL under the issuer's key
pub record AreSigned (scheme : Relation) (m : MessageFields) (issuer : KeyFields) : Type 0 where
  pub attributes : AreAttributesSigned scheme m
  pub certificate : IsSigned scheme m.certificate issuer
  pub crls : AreCrlsSigned scheme m.crls issuer

-- the signatures hold, and with them all fourteen checks
pub record IsBelieved (scheme : Relation) (m : MessageFields) (issuer : KeyFields) (when : ℤ) : Type
    0 where
  pub signatures : AreSigned scheme m issuer
  pub passes : first_failure 1 (checks m issuer when true true true) ≡ Ok tt

-- what the checks answer: Ok exactly where the message is believed, and else the first check that
-- fails, whatever the scheme answers
pub record IsValidation (scheme : Relation) (m : MessageFields) (issuer : KeyFields) (when : ℤ)
    (answer : Result (Unit {0}) ValidationError) : Type 0 where
  pub believed : (answer ≡ Ok tt) ↔ IsBelieved scheme m issuer when
  pub first_failing : (q : Asked scheme m issuer)
      → answer ≡ failing kind_of (first_failure 1 (checks m issuer when q.q3 q.q8 q.q10))

-- ---- a list of keys

-- the key is one of the list
pub record IsAmong (keys : List KeyFields) (key : KeyFields) : Type 0 where
  pub before : List KeyFields
  pub behind : List KeyFields
  pub parts : keys ≡ before ++ key ∷ behind

-- believed under a key of the list
pub record IsBelievedUnder (scheme : Relation) (m : MessageFields) (keys : List KeyFields)
    (when : ℤ) : Type 0 where
  pub key : KeyFields
  pub among : IsAmong keys key
  pub believed : IsBelieved scheme m key when

-- believed under no key of the list
abbrev pub IsUnbelieved : Relation → MessageFields → List KeyFields → ℤ → Type 0
IsUnbelieved scheme m keys when = AllByRecursion (λ k. IsBelieved scheme m k when → ⊥) keys

-- believed under the key at this place, from 0, and under none before it
pub record IsFirstBelieved (scheme : Relation) (m : MessageFields) (keys : List KeyFields)
    (when : ℤ) (place : ℕ) : Type 0 where
  pub before : List KeyFields
  pub key : KeyFields
  pub behind : List KeyFields
  pub parts : keys ≡ before ++ key ∷ behind
  pub number : place ≡ length before
  pub believed : IsBelieved scheme m key when
  pub none_before : IsUnbelieved scheme m before when

-- what comes of the checks under the key, by answers to the questions: the first that fails, if one
-- does
pub record HasOutcome (scheme : Relation) (m : MessageFields) (key : KeyFields) (when : ℤ)
    (outcome : Result (Unit {0}) ℕ) : Type 0 where
  pub asked : Asked scheme m key
  pub is : outcome ≡ first_failure 1 (checks m key when asked.q3 asked.q8 asked.q10)

-- what comes of the checks under each key, in their order
abbrev pub AreOutcomes : Relation → MessageFields → List KeyFields → ℤ
    → List (Result (Unit {0}) ℕ) → Type 0
AreOutcomes scheme m [] when [] = ⊤
AreOutcomes scheme m [] when (o ∷ os) = ⊥
AreOutcomes scheme m (k ∷ ks) when [] = ⊥
AreOutcomes scheme m (k ∷ ks) when (o ∷ os) =
    HasOutcome scheme m k when o × AreOutcomes scheme m ks when os

-- the place of the first key, from n on, under which none fails
abbrev pub first_passing : ℕ → List (Result (Unit {0}) ℕ) → Option ℕ
first_passing n [] = None
first_passing n (Ok u ∷ more) = Some n
first_passing n (Err check ∷ more) = first_passing (n + 1) more

-- the greatest of the checks that fail, 0 where none does
abbrev pub greatest : List (Result (Unit {0}) ℕ) → ℕ
greatest [] = 0
greatest (Ok u ∷ more) = greatest more
greatest (Err check ∷ more) = max check (greatest more)

-- the place, or the check where there is none
abbrev pub ranked_by : Option ℕ → ℕ → Result ℕ ℕ
ranked_by (Some place) check = Ok place
ranked_by None check = Err check

-- the place of the first key under which none fails; else the greatest of the checks that fail
abbrev pub ranked : List (Result (Unit {0}) ℕ) → Result ℕ ℕ
ranked list = ranked_by (first_passing 0 list) (greatest list)

-- What the checks answer under a list of keys: the place of the first key under which the message
-- is believed; an error only where it is believed under none, and then the greatest of the first
-- checks that fail under each key, whatever the scheme answers.
pub record IsAnyValidation (scheme : Relation) (m : MessageFields) (keys : List KeyFields)
    (when : ℤ) (answer : Result ℕ ValidationError) : Type 0 where
  pub believed : (place : ℕ)
      → (answer ≡ Ok place) ↔ IsFirstBelieved scheme m keys when place
  pub none : (error : ValidationError) → answer ≡ Err error → IsUnbelieved scheme m keys when
  pub first_failing : (outcomes : List (Result (Unit {0}) ℕ))
      → AreOutcomes scheme m keys when outcomes → answer ≡ failing kind_of (ranked outcomes)

-- the answer without the place
abbrev pub without_place : Result ℕ ValidationError → Result (Unit {0}) ValidationError
without_place (Ok place) = Ok tt
without_place (Err error) = Err error

-- the answer, with its error in an error of another kind
abbrev pub passed_on : {X E : Type 0} → (ValidationError → E) → Result X ValidationError
    → Result X E
passed_on wrap (Ok x) = Ok x
passed_on wrap (Err error) = Err (wrap error)

-- each key of the first list is one of the second
abbrev pub AreAmong : List KeyFields → List KeyFields → Type 0
AreAmong keys more = AllByRecursion (IsAmong more) keys

-- ---- what the checks ask of a scheme

-- two schemes answer the questions alike
pub record SameAnswers (s t : Relation) (m : MessageFields) (issuer : KeyFields) : Type 0 where
  pub attributes : AreAttributesSigned s m ↔ AreAttributesSigned t m
  pub certificate : IsSigned s m.certificate issuer ↔ IsSigned t m.certificate issuer
  pub crls : AreCrlsSigned s m.crls issuer ↔ AreCrlsSigned t m.crls issuer

-- two schemes answer the questions alike under each key of a list
abbrev pub SameAnswersUnder : Relation → Relation → MessageFields → List KeyFields → Type 0
SameAnswersUnder s t m keys = AllByRecursion (SameAnswers s t m) keys

-- ---- at which moments a message is accepted

-- all fourteen checks hold
abbrev pub Passes : MessageFields → KeyFields → Bool → Bool → Bool → ℤ → Type 0
Passes m issuer q3 q8 q10 when = first_failure 1 (checks m issuer when q3 q8 q10) ≡ Ok tt

-- from the latest of notBefore and each thisUpdate to the earliest of notAfter and each nextUpdate,
-- both ends in
pub record IsInSpan (m : MessageFields) (when : ℤ) : Type 0 where
  pub not_before : m.certificate.tbs.validity.not_before ≤ℤ when
  pub this_updates : AllByRecursion (λ c. c.tbs.this_update ≤ℤ when) m.crls
  pub not_after : when ≤ℤ m.certificate.tbs.validity.not_after
  pub next_updates : AllByRecursion (λ c. when ≤ℤ c.tbs.next_update) m.crls
