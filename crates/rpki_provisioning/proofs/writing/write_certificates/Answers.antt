use Rattle.std.proofs.Common.{sym}
use Rattle.rpki_updown.specs.Entitlements.{issued_with}
use Rattle.rpki_xml.proofs.Drafts.{no_elements, loop_more}
use Rattle.rpki_provisioning.specs.Class.{certificate_element}
use Rattle.rpki_provisioning.specs.Shape.{certificate_octets}
use Rattle.rpki_provisioning.proofs.writing.write_certificates.Goals as goal

pub loop-cert-init : goal.loop-cert-init
loop-cert-init c = sym (no_elements c.args.writer.now)

pub loop-cert-preserved : goal.loop-cert-preserved
loop-cert-preserved c =
    loop_more certificate_element (issued_with certificate_octets) c.args.issued.now c.loop-cert.cert-index c.cert-item.result _ _ _ c.loop-cert-test.true c.cert-item.is c.loop-cert.invariant
    c.in_ok-write_certificate.ensures
