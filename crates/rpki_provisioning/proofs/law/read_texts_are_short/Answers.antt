use Rattle.rpki_provisioning.proofs.Bounds.{text_short}
use Rattle.rpki_provisioning.proofs.law.read_texts_are_short.Goals as goal

pub returns : goal.returns
returns c = text_short
