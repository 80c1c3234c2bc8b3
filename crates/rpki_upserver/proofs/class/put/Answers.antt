use Rattle.std.proofs.Common.{◌<◌, ℕ, IfSome, ap, length, subst}
use Rattle.std.specs.declared.option.Option.{Option}
use Rattle.rpki_upserver.proofs.Places.{got_found, got_last, put_found, put_unfound, room_left}
use Rattle.rpki_upserver.proofs.class.put.Goals as goal

pub push-requires : goal.push-requires
push-requires c = room_left c.args.held.now c.args.issued c.new-issued.result c.key.result c.place_among.result c.new-issued.ensures c.key.ensures c.place_among.ensures.place c.in-None.is c.requires

pub returns-in-Some-clause-items : goal.returns-in-Some-clause-items
returns-in-Some-clause-items c = put_found c.args.held.now.items c.replace.new.self.items c.args.issued c.new-issued.result c.key.result c.place_among.result c.in-Some.place c.new-issued.ensures c.key.ensures c.place_among.ensures.place c.in-Some.is c.replace.ensures

pub returns-in-Some-clause-place : goal.returns-in-Some-clause-place
returns-in-Some-clause-place c = got_found c.args.held.now.items c.replace.new.self.items c.args.issued c.new-issued.result c.in-Some.place c.new-issued.ensures
    (subst (λ (o : Option ℕ). IfSome o (λ place. place < length c.args.held.now.items)) c.in-Some.is c.place_among.ensures.within) c.replace.ensures

pub returns-in-None-clause-items : goal.returns-in-None-clause-items
returns-in-None-clause-items c = put_unfound c.args.held.now.items c.push.new.self.items c.args.issued c.new-issued.result c.key.result c.place_among.result c.new-issued.ensures c.key.ensures c.place_among.ensures.place c.in-None.is c.push.ensures

pub returns-in-None-clause-place : goal.returns-in-None-clause-place
returns-in-None-clause-place c = got_last c.args.held.now.items c.push.new.self.items c.args.issued c.new-issued.result (length c.as_slice-place.result.now) c.new-issued.ensures (ap length c.as_slice-place.ensures) c.push.ensures
