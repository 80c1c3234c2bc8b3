use Rattle.std.proofs.Common.{◌≡◌}
use Rattle.rpki_common.specs.Collecting.{collect}
use Rattle.rpki_xml.specs.Element.{listed}
use Rattle.rpki_publication.specs.Details.{nothing_found, details_step}
use Rattle.rpki_publication.proofs.details.details_in.Given as goal

abbrev pub invariant-elements : goal.invariant-elements
invariant-elements l = collect details_step l.found (listed l.children) ≡ collect details_step nothing_found (listed l.fn.children)
