-- Signed messages of the publication protocol (RFC 8181, 2; RFC 6492, 3.1).
use Rattle.std.specs.Prelude.{◌≡◌, ◌⊎◌, ℕ, List, Result, Ok, Err, ⊤}
use Rattle.rpki_sigmsg.specs.Beginning.{BeginsSigned, HoldsContent}
use Rattle.rpki_sigmsg.specs.Message.{MessageFields}
use Rattle.rpki_xml.specs.declared.error.XmlError.TheVariants as xml
use Rattle.rpki_publication.specs.declared.error.Error.{Error}
use Rattle.rpki_publication.specs.declared.error.Error.TheVariants as errors
use Rattle.rpki_publication.specs.declared.message.Message.{Message}
use Rattle.rpki_publication.specs.Message.{Reads, IsNoMessage, text_of}

-- a signed message, and the message that its content is
pub record CmsFields : Type 0 where
  pub signed : MessageFields
  pub message : Message

-- The content says the message: it reads as it, or it is its text. A message that was made says
-- what it says even where its text isn't read again.
abbrev pub Says : List ℕ → Message → Type 0
Says content m = Reads content m ⊎ (content ≡ text_of m)

-- the octets begin with this signed message, and its content reads as this message
pub record BeginsCms (octets : List ℕ) (c : CmsFields) : Type 0 where
  pub begins : BeginsSigned octets c.signed
  pub reads : Reads c.signed.content c.message

-- The answer is CmsDecode exactly where the octets begin with no signed message, and XmlError, of
-- malformed XML, exactly where they begin with one whose content is no message. OutOfMemory says
-- nothing, and no other one comes.
abbrev pub RefusesCms : List ℕ → Error → Type 0
RefusesCms octets errors.CmsDecode = (signed : MessageFields) → BeginsSigned octets signed → ⊥
RefusesCms octets (errors.XmlError e) = (e ≡ xml.Malformed) × HoldsContent IsNoMessage octets
RefusesCms octets errors.OutOfMemory = ⊤
RefusesCms octets _ = ⊥

-- the answer says that a signed message was found
abbrev pub FindsSigned : {X : Type 0} → Result X Error → Type 0
FindsSigned (Ok x) = ⊤
FindsSigned (Err (errors.XmlError e)) = ⊤
FindsSigned _ = ⊥
