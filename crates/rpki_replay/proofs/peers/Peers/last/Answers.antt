use Rattle.rpki_replay.proofs.Standing.{last_at, last_nowhere}
use Rattle.std.proofs.Common.{sym}
use Rattle.rpki_replay.proofs.peers.Peers.last.Goals as goal

pub returns-in-Some : goal.returns-in-Some
returns-in-Some c = last_at c.args.self.now c.args.key.now c.in-Some.place c.index.result.now c.in-Some.ensures.place (rw c.self.view_is at c.index.ensures)

pub returns-in-None : goal.returns-in-None
returns-in-None c = sym (last_nowhere 0 c.args.self.now c.args.key.now (sym c.in-None.ensures.place))
