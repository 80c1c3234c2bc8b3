use Rattle.rpki_base.proofs.MadeNames.{made_name}
use Rattle.rpki_base.proofs.name.made_name_is_read.Goals as goal

pub returns : goal.returns
returns c = made_name
