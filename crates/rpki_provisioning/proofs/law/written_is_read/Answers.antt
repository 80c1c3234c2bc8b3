use Rattle.rpki_provisioning.proofs.Plain.{text_again}
use Rattle.rpki_provisioning.proofs.law.written_is_read.Goals as goal

pub returns : goal.returns
returns c = text_again
