use Rattle.rpki_xml.proofs.PieceSpellings.{document_both}
use Rattle.rpki_xml.proofs.law.documents_are_read_as_spelled.Goals as goal

pub returns : goal.returns
returns c = document_both
