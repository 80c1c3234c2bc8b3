use Rattle.std.proofs.Common.{false, sym}
use Rattle.rpki_text.proofs.UriLaws.{two_cuts}
use Rattle.rpki_text.proofs.uri.has_host_and_module.Goals as goal

pub returns-then-not-is_empty : goal.returns-then-not-is_empty
returns-then-not-is_empty c =
    sym (two_cuts c.args.rest.now c.cut.result.0.now c.cut-2.result.0.now c.cut.result.1 c.cut-2.result.1 c.in-Some.behind false _ c.cut.ensures.parts c.in-Some.is c.cut-2.ensures.parts c.if-is_none.ensures c.if-not-is_empty.ensures
    c.is_empty-then-not-is_empty.ensures)
