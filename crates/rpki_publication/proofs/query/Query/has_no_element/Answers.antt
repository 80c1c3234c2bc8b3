use Rattle.std.proofs.Common.{◌∙◌}
use Rattle.rpki_publication.specs.Change.{change_element}
use Rattle.rpki_xmltext.proofs.Elements.{none_is}
use Rattle.rpki_publication.proofs.query.Query.has_no_element.Goals as goal

pub returns-in-Delta : goal.returns-in-Delta
returns-in-Delta c = rw c.in-Delta.is (rw c.elements.ensures at c.is_empty.ensures ∙ none_is change_element c.in-Delta.delta)
