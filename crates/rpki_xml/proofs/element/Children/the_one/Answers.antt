use Rattle.std.proofs.lemmas.Result.{err_from_is_err_and}
use Rattle.rpki_xml.proofs.Listed.{one_alone, one_beside, no_one}
use Rattle.rpki_xml.proofs.element.Children.the_one.Goals as goal

pub returns-in_default : goal.returns-in_default
returns-in_default c = no_one c.args.self c.in_default.ensures.steps.0

pub returns-in_err-no_more : goal.returns-in_err-no_more
returns-in_err-no_more c =
    let p = err_from_is_err_and c.from_residual.result c.from_residual.ensures.1 in
    rw p.1 (one_beside c.args.self c.in-Some.element c.next.new.self c.in-Some.ensures.steps c.in_err-no_more.ensures)

pub returns : goal.returns
returns c = one_alone c.args.self c.in-Some.element c.next.new.self c.in-Some.ensures.steps c.in_ok-no_more.ensures
