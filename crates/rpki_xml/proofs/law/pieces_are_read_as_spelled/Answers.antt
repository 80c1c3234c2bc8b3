use Rattle.rpki_xml.proofs.PieceSpellings.{piece_both}
use Rattle.rpki_xml.proofs.law.pieces_are_read_as_spelled.Goals as goal

pub returns : goal.returns
returns c = piece_both
