use Rattle.rpki_publication.proofs.Plain.{text_again}
use Rattle.rpki_publication.proofs.law.written_is_read.Goals as goal

pub returns : goal.returns
returns c = text_again
