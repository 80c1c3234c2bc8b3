use Rattle.rpki_upserver.proofs.Changing.{issued_writable, sound_put, writable_put}
use Rattle.rpki_upserver.proofs.class.Class.issue.Goals as goal

pub invariant_of-self-2 : goal.invariant_of-self-2
invariant_of-self-2 g c = sound_put _ c.args.self.now c.make_room_for.new.held.items c.put.new.held.items c.new.result c.self.view_is c.make_room_for.ensures.items c.put.ensures.items
    (issued_writable c.in_ok-uri.uri c.as_str-uri.result.now c.in_ok-limit.limit c.limit.result.now c.args.request.now.limit c.in_ok-cert.cert c.new.result c.new.ensures c.as_str-uri.ensures.text c.as_str-uri.ensures.lawful c.in_ok-limit.ensures c.limit.ensures c.requires
    c.as_slice-cert.ensures.der) c.self.invariant

pub returns-clause-writable : goal.returns-clause-writable
returns-clause-writable g c = writable_put _ c.args.self.now c.make_room_for.new.held.items c.put.new.held.items c.new.result c.self.view_is c.make_room_for.ensures.items c.put.ensures.items
    (issued_writable c.in_ok-uri.uri c.as_str-uri.result.now c.in_ok-limit.limit c.limit.result.now c.args.request.now.limit c.in_ok-cert.cert c.new.result c.new.ensures c.as_str-uri.ensures.text c.as_str-uri.ensures.lawful c.in_ok-limit.ensures c.limit.ensures c.requires
    c.as_slice-cert.ensures.der)
