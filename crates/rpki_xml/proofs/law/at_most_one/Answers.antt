use Rattle.rpki_xml.proofs.Documents.{one_document}
use Rattle.rpki_xml.proofs.law.at_most_one.Goals as goal

pub returns : goal.returns
returns c = one_document
