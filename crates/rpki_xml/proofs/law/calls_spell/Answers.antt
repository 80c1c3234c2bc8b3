use Rattle.rpki_xml.proofs.Drafts.{written_is}
use Rattle.rpki_xml.proofs.law.calls_spell.Goals as goal

pub returns : goal.returns
returns c = written_is
