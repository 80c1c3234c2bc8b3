use Rattle.std.proofs.Common.{Some, ◌^◌, ap, ◌∙◌}
use Rattle.rpki_sets.specs.Texts.{decimal_below}
use Rattle.rpki_sets.specs.AsNumbers.{as_number}
use Rattle.rpki_sets.proofs.as_numbers.AsNumbersNumbers.read.Goals as goal

pub returns-in-Some : goal.returns-in-Some
unfolding as_number
returns-in-Some c = ap Some c.from.ensures ∙ c.in-Some.ensures.number ∙ ap (decimal_below (2 ^ 32)) c.without_as.ensures

pub returns-in-None : goal.returns-in-None
unfolding as_number
returns-in-None c = c.in-None.ensures.number ∙ ap (decimal_below (2 ^ 32)) c.without_as.ensures
