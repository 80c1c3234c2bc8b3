use Rattle.rpki_xml.proofs.Letters.{document_lettered}
use Rattle.rpki_xml.proofs.law.documents_are_lettered.Goals as goal

pub returns : goal.returns
returns c = document_lettered
