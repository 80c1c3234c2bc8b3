use Rattle.rpki_updown.proofs.Equal.{issuance_alike, class_alike}
use Rattle.rpki_updown.proofs.law.equal_classes_have_the_same_octets.Goals as goal

pub returns-clause-issuance : goal.returns-clause-issuance
returns-clause-issuance c = issuance_alike _ _ c.equal_certs_have_the_same_octets.ensures

pub returns-clause-class_of : goal.returns-clause-class_of
returns-clause-class_of c = class_alike _ _ c.equal_certs_have_the_same_octets.ensures
