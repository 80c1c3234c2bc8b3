use Rattle.rpki_replay.proofs.Lines.{one_opening}
use Rattle.rpki_replay.proofs.law.one_opening.Goals as goal

pub returns : goal.returns
returns c = one_opening
