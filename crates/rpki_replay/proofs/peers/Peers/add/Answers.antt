use Rattle.std.proofs.Common.{◌∙◌}
use Rattle.rpki_replay.proofs.Standing.{put_pushed, kept_pushed}
use Rattle.rpki_replay.proofs.peers.Peers.add.Goals as goal

pub invariant_of-self-in-Ok : goal.invariant_of-self-in-Ok
invariant_of-self-in-Ok c = kept_pushed c.self.inside.places c.insert.new.self c.self.inside.list.items c.push.new.self.items c.in_ok-clone.field-0 c.args.key.now c.args.time c.len-place.result
    c.in_ok-push.ensures.items c.in_ok-clone.ensures (c.len-place.ensures ∙ c.self.inside.list.ok.0) (rw (← c.self.view_is) at c.requires) c.self.invariant c.in-Ok.ensures.ok

pub returns-in-Ok-clause-ok : goal.returns-in-Ok-clause-ok
returns-in-Ok-clause-ok c = rw (← c.self.view_is) (put_pushed c.self.inside.list.items c.push.new.self.items c.in_ok-clone.field-0 c.args.key.now c.args.time c.in_ok-push.ensures.items c.in_ok-clone.ensures (rw (← c.self.view_is) at c.requires))
