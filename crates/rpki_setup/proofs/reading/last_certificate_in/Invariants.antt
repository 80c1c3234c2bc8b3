use Rattle.std.proofs.Common.{◌≡◌, None}
use Rattle.rpki_common.specs.Collecting.{collect}
use Rattle.rpki_xml.specs.Element.{listed}
use Rattle.rpki_setup.specs.ResponseStep.{response_step}
use Rattle.rpki_setup.proofs.reading.last_certificate_in.Given as goal

abbrev pub invariant-elements : goal.invariant-elements
invariant-elements l = collect response_step l.found (listed l.children) ≡ collect response_step None (listed l.fn.children)
