use Rattle.std.proofs.Common.{◌∙◌, sym}
use Rattle.rpki_upserver.proofs.Tables.{still_distinct, two_alike}
use Rattle.rpki_upserver.proofs.table.are_distinct.Goals as goal

pub returns-then-is_some : goal.returns-then-is_some
returns-then-is_some c = two_alike c.args.classes.now c.loop-rest.rest.now c.class-item.result c.name.result.now c.place_named.result c.loop-rest.invariant c.in-len1-up.len_at_least c.class-item.is c.name.ensures c.place_named.ensures.place (sym c.is_some.ensures ∙ c.if-is_some.true)

pub loop-rest-preserved : goal.loop-rest-preserved
loop-rest-preserved c = still_distinct c.args.classes.now c.loop-rest.rest.now c.class-item.result c.name.result.now c.place_named.result c.loop-rest.invariant c.in-len1-up.len_at_least c.class-item.is c.name.ensures c.place_named.ensures.place (sym c.is_some.ensures ∙ c.if-is_some.false)
