-- What is answered where a setup message is to be looked at (RFC 8183, 5).
use Rattle.std.specs.Prelude.{◌≡◌, ℕ, ℤ, List, Result, Ok, Err}
use Rattle.rpki_base.specs.Scheme.{Relation}
use Rattle.rpki_idcert.specs.IdCert.{CertificateFields}
use Rattle.rpki_setup.specs.Answers.{BeginsCertificate, IsBelievedIn, HoldsUnbelieved}
use Rattle.rpki_setup.specs.ChildRequest.{child_request_in, child_request_text}
use Rattle.rpki_setup.specs.ParentResponse.{parent_response_in, parent_response_text}
use Rattle.rpki_setup.specs.PublisherRequest.{publisher_request_in, publisher_request_text}
use Rattle.rpki_xmltext.specs.Reading as setup
use Rattle.rpki_setup.specs.RepositoryResponse.{repository_response_in, repository_response_text}
use Rattle.rpki_setup.specs.declared.error.Error.{Error}
use Rattle.rpki_setup.specs.declared.error.Error.TheVariants as setup_error
use Rattle.rpki_ca.specs.declared.refusals.Refusal.{Refusal}
use Rattle.rpki_ca.specs.declared.refusals.Refusal.TheVariants as refusals
use Rattle.rpki_ca.specs.declared.setup_message.SetupKind.{SetupKind}
use Rattle.rpki_ca.specs.declared.setup_message.SetupKind.TheVariants as kinds
use Rattle.rpki_ca.specs.declared.setup_message.SetupMessage.{SetupMessage}
use Rattle.rpki_ca.specs.declared.setup_message.SetupMessage.TheVariants as messages

-- the octets read as this message of the kind
abbrev pub ReadsSetup : SetupKind → List ℕ → SetupMessage → Type 0
ReadsSetup kinds.ChildRequest octets (messages.ChildRequest m) =
    setup.ReadsAs child_request_in octets m
ReadsSetup kinds.ParentResponse octets (messages.ParentResponse m) =
    setup.ReadsAs parent_response_in octets m
ReadsSetup kinds.PublisherRequest octets (messages.PublisherRequest m) =
    setup.ReadsAs publisher_request_in octets m
ReadsSetup kinds.RepositoryResponse octets (messages.RepositoryResponse m) =
    setup.ReadsAs repository_response_in octets m
ReadsSetup kind octets message = ⊥

-- the octets that stand for the certificate in the message
abbrev pub certificate_octets : SetupMessage → List ℕ
certificate_octets (messages.ChildRequest m) = m.id_cert
certificate_octets (messages.ParentResponse m) = m.id_cert
certificate_octets (messages.PublisherRequest m) = m.id_cert
certificate_octets (messages.RepositoryResponse m) = m.id_cert

-- the text of the message
abbrev pub setup_text : SetupMessage → List ℕ
setup_text (messages.ChildRequest m) = child_request_text m
setup_text (messages.ParentResponse m) = parent_response_text m
setup_text (messages.PublisherRequest m) = publisher_request_text m
setup_text (messages.RepositoryResponse m) = repository_response_text m

-- how an error is answered
abbrev pub refusal_of_setup : Error → Refusal
refusal_of_setup setup_error.InvalidTaCertEncoding = refusals.InvalidTaCertEncoding
refusal_of_setup setup_error.InvalidTaCert = refusals.InvalidTaCert
refusal_of_setup setup_error.OutOfMemory = refusals.OutOfMemory
refusal_of_setup other = refusals.XmlError

-- ---- the certificate

-- the octets begin with a certificate that is accepted as a trust anchor's certificate at the
-- moment
pub record IsAnchored (scheme : Relation) (octets : List ℕ) (when : ℤ) : Type 0 where
  pub certificate : CertificateFields
  pub believed : IsBelievedIn scheme octets when certificate

-- the octets begin with no certificate, or with one that is not accepted as a trust anchor's
-- certificate at the moment
abbrev pub RefusesAnchor : Relation → List ℕ → ℤ → Refusal → Type 0
RefusesAnchor scheme octets when refusals.InvalidTaCertEncoding =
    (c : CertificateFields) → BeginsCertificate octets c → ⊥
RefusesAnchor scheme octets when refusals.InvalidTaCert = HoldsUnbelieved scheme octets when
RefusesAnchor scheme octets when other = ⊥

-- ---- the command

-- The input reads as a message of the kind, whose octets begin with a certificate that is believed
-- as a trust anchor's at the moment, and the text is that of the message.
pub record IsSetUp (scheme : Relation) (kind : SetupKind) (input : List ℕ) (when : ℤ)
    (text : List ℕ) : Type 0 where
  pub message : SetupMessage
  pub reads : ReadsSetup kind input message
  pub anchored : IsAnchored scheme (certificate_octets message) when
  pub written : text ≡ setup_text message

-- the input reads as no message of the kind
abbrev pub IsNoSetup : SetupKind → List ℕ → Type 0
IsNoSetup kind input = (message : SetupMessage) → ReadsSetup kind input message → ⊥

-- the input reads as the setup message, whose certificate is refused so
pub record HoldsNoAnchor (scheme : Relation) (kind : SetupKind) (input : List ℕ) (when : ℤ)
    (refusal : Refusal) : Type 0 where
  pub message : SetupMessage
  pub reads : ReadsSetup kind input message
  pub refused : RefusesAnchor scheme (certificate_octets message) when refusal

-- `setup`: the message's text, or why there is none
abbrev pub IsSetupAnswer : Relation → SetupKind → List ℕ → ℤ → Result (List ℕ) Refusal → Type 0
IsSetupAnswer scheme kind input when (Ok text) = IsSetUp scheme kind input when text
IsSetupAnswer scheme kind input when (Err refusals.XmlError) = IsNoSetup kind input
IsSetupAnswer scheme kind input when (Err refusal) =
    HoldsNoAnchor scheme kind input when refusal
