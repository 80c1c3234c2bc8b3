use Rattle.rpki_xml.proofs.Drafts.{with_elements-joined}
use Rattle.rpki_xml.proofs.law.calls_follow.Goals as goal

pub returns : goal.returns
returns c = with_elements-joined
