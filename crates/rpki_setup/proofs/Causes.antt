-- The causes of errors that are passed on.
use Rattle.std.proofs.Common.{◌≡◌, Some, refl}
use Rattle.rpki_xmltext.specs.declared.cause.Cause.{Cause}
use Rattle.rpki_xmltext.specs.declared.cause.Cause.TheVariants as causes
use Rattle.rpki_xmltext.proofs.Read.{of_xml as cause_of_xml}
use Rattle.rpki_xml.specs.declared.error.XmlError.{XmlError}
use Rattle.rpki_xml.specs.declared.error.XmlError.TheVariants as xml
use Rattle.rpki_setup.specs.Answers.{of_xml, of_cause, cause_of}

pub xml_caused : (e : XmlError) → cause_of (of_xml e) ≡ Some (cause_of_xml e)
xml_caused xml.Malformed = refl
xml_caused xml.OutOfMemory = refl

pub caused : (c : Cause) → cause_of (of_cause c) ≡ Some c
caused causes.Malformed = refl
caused causes.Read = refl
caused causes.Write = refl
caused causes.TooLong = refl
caused causes.OutOfMemory = refl
