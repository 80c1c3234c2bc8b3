use Rattle.rpki_publication.proofs.Again.{code_again}
use Rattle.rpki_publication.proofs.law.printed_code_is_read.Goals as goal

pub returns : goal.returns
returns c = code_again
