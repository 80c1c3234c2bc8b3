use Rattle.std.proofs.Common.{refl}
use Rattle.std.specs.Fmt.{digits}
use Rattle.rpki_der.specs.Arcs.{oid_text}
use Rattle.rpki_base.proofs.object_identifiers.identifiers_have_texts.Goals as goal

pub returns-clause-rsa_encryption : goal.returns-clause-rsa_encryption
unfolding oid_text digits
returns-clause-rsa_encryption c = refl

pub returns-clause-sha256_with_rsa : goal.returns-clause-sha256_with_rsa
unfolding oid_text digits
returns-clause-sha256_with_rsa c = refl

pub returns-clause-ec_public_key : goal.returns-clause-ec_public_key
unfolding oid_text digits
returns-clause-ec_public_key c = refl

pub returns-clause-prime256v1 : goal.returns-clause-prime256v1
unfolding oid_text digits
returns-clause-prime256v1 c = refl

pub returns-clause-ecdsa_with_sha256 : goal.returns-clause-ecdsa_with_sha256
unfolding oid_text digits
returns-clause-ecdsa_with_sha256 c = refl

pub returns-clause-common_name : goal.returns-clause-common_name
unfolding oid_text digits
returns-clause-common_name c = refl

pub returns-clause-subject : goal.returns-clause-subject
unfolding oid_text digits
returns-clause-subject c = refl

pub returns-clause-constraints : goal.returns-clause-constraints
unfolding oid_text digits
returns-clause-constraints c = refl

pub returns-clause-number : goal.returns-clause-number
unfolding oid_text digits
returns-clause-number c = refl

pub returns-clause-authority : goal.returns-clause-authority
unfolding oid_text digits
returns-clause-authority c = refl
