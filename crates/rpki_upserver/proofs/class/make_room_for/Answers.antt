use Rattle.std.proofs.Common.{◌∙◌, ap, inl}
use Rattle.std.specs.Prelude.{not}
use Rattle.rpki_upserver.specs.Table.{has_key}
use Rattle.rpki_upserver.proofs.Places.{some_placed}
use Rattle.rpki_upserver.proofs.class.make_room_for.Goals as goal

pub returns-else-is_none-clause-room : goal.returns-else-is_none-clause-room
returns-else-is_none-clause-room c = inl ((some_placed (has_key c.args.key) c.args.held.now.items c.place_among.result c.place_among.ensures.place).0 (c.is_none.ensures ∙ ap not c.if-is_none.false))
