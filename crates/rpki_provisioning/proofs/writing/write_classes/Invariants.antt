use Rattle.std.proofs.Common.{◌≡◌, map, take}
use Rattle.rpki_updown.specs.Entitlements.{class_with}
use Rattle.rpki_xml.specs.Draft.{with_elements}
use Rattle.rpki_xml.specs.Element.{elements_of}
use Rattle.rpki_provisioning.specs.Class.{class_element}
use Rattle.rpki_provisioning.specs.Shape.{certificate_octets}
use Rattle.rpki_provisioning.proofs.writing.write_classes.Given as goal

abbrev pub invariant-loop-class : goal.invariant-loop-class
invariant-loop-class l = l.writer ≡ with_elements (elements_of class_element (map (class_with certificate_octets) (take l.class-index l.classes))) l.fn.writer
