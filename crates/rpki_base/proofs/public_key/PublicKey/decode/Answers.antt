use Rattle.rpki_der.proofs.Reading.{decodes}
use Rattle.rpki_base.proofs.public_key.PublicKey.decode.Goals as goal

pub returns : goal.returns
returns c = decodes _ _ _ _ _ _ _ c.new-cursor.ensures c.take_from.ensures
