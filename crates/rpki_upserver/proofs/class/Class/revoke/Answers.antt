use Rattle.std.proofs.Common.{subst}
use Rattle.rpki_upserver.specs.Issuer.{IsRevoked}
use Rattle.rpki_upserver.specs.Table.{ClassState}
use Rattle.rpki_upserver.proofs.Changing.{revoked_so, sound_without, writable_without}
use Rattle.rpki_upserver.proofs.class.Class.revoke.Goals as goal

pub invariant_of-self-2 : goal.invariant_of-self-2
invariant_of-self-2 g c = sound_without _ c.args.self.now c.remove.new.self.items c.args.place c.args.key c.self.view_is c.requires.place c.remove.ensures c.self.invariant

pub returns-clause-ok : goal.returns-clause-ok
returns-clause-ok g c = (
  subst (λ (s : ClassState). IsRevoked s.class_name c.args.key (g.N.Issuer.state c.args.issuer.now) (g.N.Issuer.state c.revoke.new.self)) c.self.view_is c.in_ok-revoke.ensures,
  revoked_so _ c.args.self.now c.remove.new.self.items c.args.place c.args.key c.make_room.new.self.items c.push.new.self.items c.self.view_is c.requires.place c.remove.ensures c.make_room.ensures.items c.push.ensures,
)

pub returns-clause-writable : goal.returns-clause-writable
returns-clause-writable g c =
    writable_without c.args.key c.args.self.now _ (revoked_so _ c.args.self.now c.remove.new.self.items c.args.place c.args.key c.make_room.new.self.items c.push.new.self.items c.self.view_is c.requires.place c.remove.ensures c.make_room.ensures.items c.push.ensures)
