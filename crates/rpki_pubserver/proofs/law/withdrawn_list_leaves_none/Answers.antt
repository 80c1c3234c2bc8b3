use Rattle.rpki_pubserver.proofs.Lying.{none_left}
use Rattle.rpki_pubserver.proofs.law.withdrawn_list_leaves_none.Goals as goal

pub returns : goal.returns
returns c = none_left
