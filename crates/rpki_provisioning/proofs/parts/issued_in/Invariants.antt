use Rattle.std.proofs.Common.{◌≡◌, []}
use Rattle.rpki_common.specs.Collecting.{collect}
use Rattle.rpki_xml.specs.Element.{listed}
use Rattle.rpki_provisioning.specs.Class.{is_certificate, certificate_in}
use Rattle.rpki_provisioning.specs.Gathering.{each_slot}
use Rattle.rpki_provisioning.proofs.parts.issued_in.Given as goal

abbrev pub invariant-elements : goal.invariant-elements
invariant-elements l = collect (each_slot is_certificate certificate_in) l.found (listed l.children) ≡ collect (each_slot is_certificate certificate_in) [] (listed l.fn.children)
