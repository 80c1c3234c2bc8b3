use Rattle.rpki_sigmsg.proofs.InTurn.{in_turn}
use Rattle.rpki_sigmsg.proofs.law.parts_stand_in_turn.Goals as goal

pub returns : goal.returns
returns c = in_turn
