-- Setup messages that are read, and why none is.
use Rattle.std.proofs.Common.{◌≡◌, ◌≢◌, ℕ, ℤ, Option, Err, List, refl}
use Rattle.rpki_xmltext.specs.Answers.{RefusesMessage}
use Rattle.rpki_setup.specs.Answers.{cause_of, RefusesCertificate}
use Rattle.rpki_base.specs.Scheme.{Relation}
use Rattle.rpki_setup.specs.ChildRequest.{child_request_in}
use Rattle.rpki_setup.specs.ParentResponse.{parent_response_in}
use Rattle.rpki_setup.specs.PublisherRequest.{publisher_request_in}
use Rattle.rpki_setup.specs.RepositoryResponse.{repository_response_in}
use Rattle.rpki_xmltext.specs.Reading as setup
use Rattle.rpki_setup.specs.declared.error.Error.{Error}
use Rattle.rpki_setup.specs.declared.error.Error.TheVariants as setup_error
use Rattle.rpki_xml.specs.Element.{Element}
use Rattle.rpki_xml.specs.declared.error.XmlError.TheVariants as xml
use Rattle.rpki_ca.specs.declared.refusals.Refusal.{Refusal}
use Rattle.rpki_ca.specs.declared.refusals.Refusal.TheVariants as refusals
use Rattle.rpki_ca.specs.declared.setup_message.SetupKind.{SetupKind}
use Rattle.rpki_ca.specs.declared.setup_message.SetupKind.TheVariants as kinds
use Rattle.rpki_ca.specs.declared.setup_message.SetupMessage.{SetupMessage}
use Rattle.rpki_ca.specs.declared.setup_message.SetupMessage.TheVariants as messages
use Rattle.rpki_ca.specs.Setup.{ReadsSetup, IsNoSetup, RefusesAnchor, IsSetupAnswer, certificate_octets, refusal_of_setup}

-- no message of one kind
no_child_request : (input : List ℕ) → setup.IsNoMessage child_request_in input → IsNoSetup kinds.ChildRequest input
no_child_request input none (messages.ChildRequest m) r = none m r
no_child_request input none (messages.ParentResponse m) r = absurd r
no_child_request input none (messages.PublisherRequest m) r = absurd r
no_child_request input none (messages.RepositoryResponse m) r = absurd r

no_parent_response : (input : List ℕ) → setup.IsNoMessage parent_response_in input → IsNoSetup kinds.ParentResponse input
no_parent_response input none (messages.ParentResponse m) r = none m r
no_parent_response input none (messages.ChildRequest m) r = absurd r
no_parent_response input none (messages.PublisherRequest m) r = absurd r
no_parent_response input none (messages.RepositoryResponse m) r = absurd r

no_publisher_request : (input : List ℕ) → setup.IsNoMessage publisher_request_in input → IsNoSetup kinds.PublisherRequest input
no_publisher_request input none (messages.PublisherRequest m) r = none m r
no_publisher_request input none (messages.ChildRequest m) r = absurd r
no_publisher_request input none (messages.ParentResponse m) r = absurd r
no_publisher_request input none (messages.RepositoryResponse m) r = absurd r

no_repository_response : (input : List ℕ) → setup.IsNoMessage repository_response_in input → IsNoSetup kinds.RepositoryResponse input
no_repository_response input none (messages.RepositoryResponse m) r = none m r
no_repository_response input none (messages.ChildRequest m) r = absurd r
no_repository_response input none (messages.ParentResponse m) r = absurd r
no_repository_response input none (messages.PublisherRequest m) r = absurd r

-- an error of a table says that there is none
of_table : {M : Type 0} (table : Element → Option M) (kind : SetupKind) (input : List ℕ) (e : Error) → (setup.IsNoMessage table input → IsNoSetup kind input) → RefusesMessage cause_of table input e → refusal_of_setup e ≢ refusals.OutOfMemory
    → (refusal_of_setup e ≡ refusals.XmlError) × IsNoSetup kind input
of_table table kind input (setup_error.InvalidXml xml.Malformed) f r other = (refl, f r)
of_table table kind input (setup_error.InvalidXml xml.OutOfMemory) f r other = absurd r
of_table table kind input setup_error.OutOfMemory f r other = absurd (other refl)
of_table table kind input setup_error.InvalidVersion f r other = absurd r
of_table table kind input setup_error.InvalidHandle f r other = absurd r
of_table table kind input setup_error.InvalidTaBase64 f r other = absurd r
of_table table kind input setup_error.InvalidTaCertEncoding f r other = absurd r
of_table table kind input setup_error.InvalidTaCert f r other = absurd r
of_table table kind input (setup_error.InvalidUri e) f r other = absurd r
of_table table kind input setup_error.Read f r other = absurd r
of_table table kind input setup_error.Write f r other = absurd r
of_table table kind input setup_error.TooLong f r other = absurd r

pub child_request : (input : List ℕ) (e : Error) → RefusesMessage cause_of child_request_in input e → refusal_of_setup e ≢ refusals.OutOfMemory → (refusal_of_setup e ≡ refusals.XmlError) × IsNoSetup kinds.ChildRequest input
child_request input e = of_table child_request_in kinds.ChildRequest input e (no_child_request input)

pub parent_response : (input : List ℕ) (e : Error) → RefusesMessage cause_of parent_response_in input e → refusal_of_setup e ≢ refusals.OutOfMemory → (refusal_of_setup e ≡ refusals.XmlError) × IsNoSetup kinds.ParentResponse input
parent_response input e = of_table parent_response_in kinds.ParentResponse input e (no_parent_response input)

pub publisher_request : (input : List ℕ) (e : Error) → RefusesMessage cause_of publisher_request_in input e → refusal_of_setup e ≢ refusals.OutOfMemory → (refusal_of_setup e ≡ refusals.XmlError) × IsNoSetup kinds.PublisherRequest input
publisher_request input e = of_table publisher_request_in kinds.PublisherRequest input e (no_publisher_request input)

pub repository_response : (input : List ℕ) (e : Error) → RefusesMessage cause_of repository_response_in input e → refusal_of_setup e ≢ refusals.OutOfMemory → (refusal_of_setup e ≡ refusals.XmlError) × IsNoSetup kinds.RepositoryResponse input
repository_response input e = of_table repository_response_in kinds.RepositoryResponse input e (no_repository_response input)

-- ---- the certificate

pub anchor : (scheme : Relation) (octets : List ℕ) (when : ℤ) (e : Error) → RefusesCertificate scheme octets when e → refusal_of_setup e ≢ refusals.OutOfMemory → RefusesAnchor scheme octets when (refusal_of_setup e)
anchor scheme octets when setup_error.InvalidTaCertEncoding r other = r
anchor scheme octets when setup_error.InvalidTaCert r other = r
anchor scheme octets when setup_error.OutOfMemory r other = absurd (other refl)
anchor scheme octets when (setup_error.InvalidXml e) r other = absurd r
anchor scheme octets when setup_error.InvalidVersion r other = absurd r
anchor scheme octets when setup_error.InvalidHandle r other = absurd r
anchor scheme octets when setup_error.InvalidTaBase64 r other = absurd r
anchor scheme octets when (setup_error.InvalidUri e) r other = absurd r
anchor scheme octets when setup_error.Read r other = absurd r
anchor scheme octets when setup_error.Write r other = absurd r
anchor scheme octets when setup_error.TooLong r other = absurd r

pub text_or_refusal : (scheme : Relation) (kind : SetupKind) (input : List ℕ) (when : ℤ) (m : SetupMessage) (e : Refusal) → ReadsSetup kind input m → RefusesAnchor scheme (certificate_octets m) when e → IsSetupAnswer scheme kind input when (Err e)
text_or_refusal scheme kind input when m refusals.InvalidTaCertEncoding r q = record { message = m; reads = r; refused = q }
text_or_refusal scheme kind input when m refusals.InvalidTaCert r q = record { message = m; reads = r; refused = q }
text_or_refusal scheme kind input when m refusals.XmlError r q = absurd q
text_or_refusal scheme kind input when m refusals.CertSyntax r q = absurd q
text_or_refusal scheme kind input when m refusals.InvalidCsrSyntax r q = absurd q
text_or_refusal scheme kind input when m refusals.Usage r q = absurd q
text_or_refusal scheme kind input when m refusals.Hex r q = absurd q
text_or_refusal scheme kind input when m refusals.CmsDecode r q = absurd q
text_or_refusal scheme kind input when m (refusals.Validation n) r q = absurd q
text_or_refusal scheme kind input when m refusals.KeyNotFound r q = absurd q
text_or_refusal scheme kind input when m refusals.IncompatibleKey r q = absurd q
text_or_refusal scheme kind input when m refusals.KeyReused r q = absurd q
text_or_refusal scheme kind input when m refusals.Signer r q = absurd q
text_or_refusal scheme kind input when m refusals.Moment r q = absurd q
text_or_refusal scheme kind input when m refusals.TooLong r q = absurd q
text_or_refusal scheme kind input when m refusals.ReadFault r q = absurd q
text_or_refusal scheme kind input when m refusals.OutOfMemory r q = absurd q
