use Rattle.rpki_replay.proofs.Standing.{put_at, kept_at, last_nowhere}
use Rattle.std.proofs.Common.{sym}
use Rattle.rpki_replay.proofs.peers.Peers.put.Goals as goal

pub invariant_of-self : goal.invariant_of-self
invariant_of-self c = kept_at c.self.inside.places c.self.inside.list.items c.args.time c.in-Some.place c.index_mut.result.now c.index_mut.ensures.value c.self.invariant

pub add-requires : goal.add-requires
add-requires c = last_nowhere 0 c.args.self.now c.args.key.now (sym c.in-None.ensures.place)

pub returns-in-Some-clause-ok : goal.returns-in-Some-clause-ok
returns-in-Some-clause-ok c = rw (← c.self.view_is) (put_at c.self.inside.list.items c.args.key.now c.args.time c.in-Some.place c.index_mut.result.now (rw (← c.self.view_is) at c.in-Some.ensures.place) c.index_mut.ensures.value)
