use Rattle.rpki_replay.proofs.Rising.{state_once}
use Rattle.rpki_replay.proofs.law.one_state.Goals as goal

pub returns : goal.returns
returns c = state_once
