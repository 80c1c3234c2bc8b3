use Rattle.std.proofs.Common.{refl}
use Rattle.rpki_xml.specs.Draft.{empty_draft, with_element}
use Rattle.rpki_xml.proofs.Drafts.{done_is}
use Rattle.rpki_xml.proofs.law.done_is_spelled.Goals as goal

pub returns : goal.returns
returns c = λ e. done_is e (with_element e empty_draft) refl
