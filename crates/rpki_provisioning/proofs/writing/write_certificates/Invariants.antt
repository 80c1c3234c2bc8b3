use Rattle.std.proofs.Common.{◌≡◌, map, take}
use Rattle.rpki_updown.specs.Entitlements.{issued_with}
use Rattle.rpki_xml.specs.Draft.{with_elements}
use Rattle.rpki_xml.specs.Element.{elements_of}
use Rattle.rpki_provisioning.specs.Class.{certificate_element}
use Rattle.rpki_provisioning.specs.Shape.{certificate_octets}
use Rattle.rpki_provisioning.proofs.writing.write_certificates.Given as goal

abbrev pub invariant-loop-cert : goal.invariant-loop-cert
invariant-loop-cert l = l.writer ≡ with_elements (elements_of certificate_element (map (issued_with certificate_octets) (take l.cert-index l.issued))) l.fn.writer
