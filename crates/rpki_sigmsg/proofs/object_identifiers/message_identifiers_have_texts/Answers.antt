use Rattle.std.proofs.Common.{refl}
use Rattle.std.specs.Fmt.{digits}
use Rattle.rpki_der.specs.Arcs.{oid_text}
use Rattle.rpki_sigmsg.proofs.object_identifiers.message_identifiers_have_texts.Goals as goal

pub returns-clause-signed_data_type : goal.returns-clause-signed_data_type
unfolding oid_text digits
returns-clause-signed_data_type c = refl

pub returns-clause-content_type : goal.returns-clause-content_type
unfolding oid_text digits
returns-clause-content_type c = refl

pub returns-clause-message_digest : goal.returns-clause-message_digest
unfolding oid_text digits
returns-clause-message_digest c = refl

pub returns-clause-signing_time : goal.returns-clause-signing_time
unfolding oid_text digits
returns-clause-signing_time c = refl

pub returns-clause-binary_signing_time : goal.returns-clause-binary_signing_time
unfolding oid_text digits
returns-clause-binary_signing_time c = refl

pub returns-clause-xml_content : goal.returns-clause-xml_content
unfolding oid_text digits
returns-clause-xml_content c = refl

pub returns-clause-sha256_name : goal.returns-clause-sha256_name
unfolding oid_text digits
returns-clause-sha256_name c = refl
