use Rattle.std.proofs.Common.{◌≡◌}
use Rattle.rpki_common.specs.Items.{only}
use Rattle.rpki_xml.specs.Element.{listed}
use Rattle.rpki_provisioning.specs.Class.{is_inside}
use Rattle.rpki_provisioning.proofs.parts.only_inside.Given as goal

abbrev pub invariant-elements : goal.invariant-elements
invariant-elements l = only is_inside (listed l.children) ≡ only is_inside (listed l.fn.children)
