-- URIs in messages.
use Rattle.std.specs.Prelude.{ℕ, List, Option, None, Some}
use Rattle.rpki_text.specs.Uri.{Kind, fault_of}
use Rattle.rpki_text.specs.declared.uri.Error.{Error as UriError}
use Rattle.rpki_text.specs.declared.uri.Error.TheVariants as uri
use Rattle.rpki_xml.specs.declared.error.XmlError.{XmlError}
use Rattle.rpki_xml.specs.declared.error.XmlError.TheVariants as xml

-- a text that breaks no rule
abbrev pub where_lawful : List ℕ → Option UriError → Option (List ℕ)
where_lawful text None = Some text
where_lawful text (Some fault) = None

-- the URI of this kind that a text is
unfoldable pub uri_of_text : Kind → List ℕ → Option (List ℕ)
uri_of_text kind text = where_lawful text (fault_of kind text)

-- in a message a text that is no URI is malformed XML
abbrev pub xml_of_uri : UriError → XmlError
xml_of_uri uri.TooLong = xml.Malformed
xml_of_uri uri.BadCharacter = xml.Malformed
xml_of_uri uri.BadScheme = xml.Malformed
xml_of_uri uri.BadUri = xml.Malformed
xml_of_uri uri.DotSegments = xml.Malformed
xml_of_uri uri.OutOfMemory = xml.OutOfMemory
