use Rattle.std.proofs.lemmas.Result.{err_from_is_err_and}
use Rattle.rpki_xml.specs.Kept.{kept_text}
use Rattle.rpki_xml.specs.Views.{parts_of, parts_in}
use Rattle.rpki_xml.proofs.Apart.{settled_put, settled_fails}
use Rattle.rpki_xml.proofs.stack.with_settled.Goals as goal

pub returns-in_err-settled : goal.returns-in_err-settled
returns-in_err-settled c =
    let p = err_from_is_err_and c.from_residual.result c.from_residual.ensures.1 in
    rw (p.1, p.2) (settled_fails c.in_err-settled.field-0.0 c.args.below (parts_of c.args.source.now c.taken_apart-text.result.0 c.taken_apart-text.result.1 c.taken_apart-text.result.2.items) (parts_in c.args.source.now c.args.rest) (c.taken_apart-text.ensures c.args.source.now) c.in_err-settled.ensures)

pub returns : goal.returns
returns c =
    settled_put c.args.source.now c.args.below (kept_text c.args.source.now c.in_ok-settled.settled) (parts_of c.args.source.now c.taken_apart-text.result.0 c.taken_apart-text.result.1 c.taken_apart-text.result.2.items) (parts_in c.args.source.now c.args.rest)
    c.rest_of.result c.in_ok-settled.ensures (c.taken_apart-text.ensures c.args.source.now) (c.rest_of.ensures c.args.source.now)
