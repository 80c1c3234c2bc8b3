use Rattle.rpki_xml.proofs.Drafts.{attributes_follow}
use Rattle.rpki_xml.proofs.law.optional_attributes_follow.Goals as goal

pub returns : goal.returns
returns c = attributes_follow
