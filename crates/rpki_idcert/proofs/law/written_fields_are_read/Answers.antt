use Rattle.rpki_idcert.proofs.Pieces.{is_whole}
use Rattle.rpki_idcert.proofs.ReadAgain.{tbs_piece, made_again}
use Rattle.rpki_idcert.proofs.law.written_fields_are_read.Goals as goal

pub returns : goal.returns
returns c mode t r h = let z = made_again in is_whole mode _ _ t (tbs_piece mode t r h)
