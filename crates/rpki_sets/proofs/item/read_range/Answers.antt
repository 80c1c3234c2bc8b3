use Rattle.std.proofs.Common.{◌∙◌}
use Rattle.rpki_sets.proofs.ItemLemmas.{range_first_none, range_last_none, range_both, range_one_none, range_one}
use Rattle.rpki_sets.proofs.item.read_range.Goals as goal

pub returns-in_err-read-in-Some : goal.returns-in_err-read-in-Some
returns-in_err-read-in-Some g c =
    c.from_residual.ensures ∙ range_first_none _ _ _ _ c.in-Some.ensures.some c.in_err-read-in-Some.ensures

pub returns-in_err-read-in-Some-2 : goal.returns-in_err-read-in-Some-2
returns-in_err-read-in-Some-2 g c =
    c.from_residual-in_err-read-in-Some-2.ensures ∙ range_last_none _ _ _ _ _ c.in-Some.ensures.some c.in_ok-read-in-Some.ensures c.in_err-read-in-Some-2.ensures

pub returns-in_ok-read-in-Some-2 : goal.returns-in_ok-read-in-Some-2
returns-in_ok-read-in-Some-2 g c =
    c.run_from.ensures ∙ range_both _ _ _ _ _ _ c.in-Some.ensures.some c.in_ok-read-in-Some.ensures c.in_ok-read-in-Some-2.ensures

pub returns-in_err-number-in-None : goal.returns-in_err-number-in-None
returns-in_err-number-in-None g c =
    c.from_residual-in_err-number-in-None.ensures ∙ range_one_none _ _ c.in-None.ensures.none c.in_err-number-in-None.ensures

pub returns-in_ok-number-in-None : goal.returns-in_ok-number-in-None
returns-in_ok-number-in-None g c =
    c.run_from-in-None.ensures ∙ range_one _ _ _ c.in-None.ensures.none c.in_ok-number-in-None.ensures
