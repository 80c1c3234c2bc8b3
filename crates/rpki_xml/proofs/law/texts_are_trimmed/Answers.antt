use Rattle.rpki_xml.proofs.Trims.{document_trimmed}
use Rattle.rpki_xml.proofs.law.texts_are_trimmed.Goals as goal

pub returns : goal.returns
returns c = document_trimmed
