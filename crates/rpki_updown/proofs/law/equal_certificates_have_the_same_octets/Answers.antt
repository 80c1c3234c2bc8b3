use Rattle.rpki_updown.proofs.Equal.{issued_alike, signing_alike}
use Rattle.rpki_updown.proofs.law.equal_certificates_have_the_same_octets.Goals as goal

pub returns-clause-issued : goal.returns-clause-issued
returns-clause-issued c = issued_alike _ _ c.equal_certs_have_the_same_octets.ensures

pub returns-clause-signing : goal.returns-clause-signing
returns-clause-signing c = signing_alike _ _ c.equal_certs_have_the_same_octets.ensures
