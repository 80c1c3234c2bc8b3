-- Signed messages of the provisioning protocol (RFC 6492, 3.1).
use Rattle.std.specs.Prelude.{◌≡◌, ◌⊎◌, ℕ, List, Result, Ok, Err, ⊤}
use Rattle.rpki_sigmsg.specs.Beginning.{BeginsSigned, HoldsContent}
use Rattle.rpki_sigmsg.specs.Message.{MessageFields as SignedFields}
use Rattle.rpki_xml.specs.declared.error.XmlError.TheVariants as xml
use Rattle.rpki_updown.specs.declared.error.Error.{Error}
use Rattle.rpki_updown.specs.declared.error.Error.TheVariants as errors
use Rattle.rpki_provisioning.specs.Answers.{HoldsNoCertificate, HoldsNoRequest}
use Rattle.rpki_provisioning.specs.Message.{Reads, HasNoShape, text_of}
use Rattle.rpki_provisioning.specs.Shape.{MessageFields}

-- a signed message, and the message that its content is
pub record CmsFields : Type 0 where
  pub signed : SignedFields
  pub message : MessageFields

-- The content says the message: it reads as it, or it is its text. A message that was made says
-- what it says even where its text isn't read again.
abbrev pub Says : List ℕ → MessageFields → Type 0
Says content m = Reads content m ⊎ (content ≡ text_of m)

-- the octets begin with this signed message, and its content reads as this message
pub record BeginsCms (octets : List ℕ) (c : CmsFields) : Type 0 where
  pub begins : BeginsSigned octets c.signed
  pub reads : Reads c.signed.content c.message

-- The answer is CmsDecode exactly where the octets begin with no signed message; where they begin
-- with one, it is XmlError, of malformed XML, exactly where its content has not the form of a
-- message, and CertSyntax and InvalidCsrSyntax exactly where it has, and a certificate or the
-- request in it is none. OutOfMemory says nothing, and no other one comes.
abbrev pub RefusesCms : List ℕ → Error → Type 0
RefusesCms octets errors.CmsDecode = (signed : SignedFields) → BeginsSigned octets signed → ⊥
RefusesCms octets (errors.XmlError e) = (e ≡ xml.Malformed) × HoldsContent HasNoShape octets
RefusesCms octets errors.CertSyntax = HoldsContent HoldsNoCertificate octets
RefusesCms octets errors.InvalidCsrSyntax = HoldsContent HoldsNoRequest octets
RefusesCms octets errors.OutOfMemory = ⊤
RefusesCms octets _ = ⊥

-- the answer says that a signed message was found
abbrev pub FindsSigned : {X : Type 0} → Result X Error → Type 0
FindsSigned (Ok x) = ⊤
FindsSigned (Err (errors.XmlError e)) = ⊤
FindsSigned (Err errors.CertSyntax) = ⊤
FindsSigned (Err errors.InvalidCsrSyntax) = ⊤
FindsSigned _ = ⊥
