use Rattle.std.proofs.Common.{sym}
use Rattle.rpki_updown.specs.Entitlements.{class_with}
use Rattle.rpki_xml.proofs.Drafts.{no_elements, loop_more}
use Rattle.rpki_provisioning.specs.Class.{class_element}
use Rattle.rpki_provisioning.specs.Shape.{certificate_octets}
use Rattle.rpki_provisioning.proofs.writing.write_classes.Goals as goal

pub loop-class-init : goal.loop-class-init
loop-class-init c = sym (no_elements c.args.writer.now)

pub loop-class-preserved : goal.loop-class-preserved
loop-class-preserved c =
    loop_more class_element (class_with certificate_octets) c.args.classes.now c.loop-class.class-index c.class-item.result _ _ _ c.loop-class-test.true c.class-item.is c.loop-class.invariant
    c.in_ok-write_class.ensures
