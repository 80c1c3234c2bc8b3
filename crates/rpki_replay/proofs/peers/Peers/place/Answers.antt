use Rattle.std.proofs.Common.{◌∙◌}
use Rattle.rpki_replay.proofs.Standing.{within_all}
use Rattle.rpki_replay.proofs.peers.Peers.place.Goals as goal

pub returns-clause-within : goal.returns-clause-within
returns-clause-within c = rw (← c.self.view_is) (within_all c.self.inside.list.items c.args.key.now c.get.result (c.get.ensures ∙ c.self.invariant.1 c.args.key.now))
