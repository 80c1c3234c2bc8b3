use Rattle.std.proofs.Common.{◌≡◌, None}
use Rattle.rpki_common.specs.Collecting.{collect}
use Rattle.rpki_xml.specs.Element.{listed}
use Rattle.rpki_common.specs.Collecting.{slot}
use Rattle.rpki_provisioning.specs.Class.{is_issuer, issuer_in}
use Rattle.rpki_provisioning.proofs.parts.the_issuer_in.Given as goal

abbrev pub invariant-elements : goal.invariant-elements
invariant-elements l = collect (slot is_issuer issuer_in) l.found (listed l.children) ≡ collect (slot is_issuer issuer_in) None (listed l.fn.children)
