use Rattle.std.proofs.Common.{sym}
use Rattle.rpki_ca.proofs.Spelled.{no_number, number_alike, number_within}
use Rattle.rpki_ca.proofs.words.number_of.Goals as goal

pub returns-in_default-clause-none : goal.returns-in_default-clause-none
returns-in_default-clause-none c = λ none n is. no_number c.args.word.now c.args.most n c.in_default.field-0 c.ranges.most.fits is c.in_default.ensures.value.0

pub returns-then-ne-clause-none : goal.returns-then-ne-clause-none
returns-then-ne-clause-none c = λ none n is.
    number_alike c.args.word.now c.format.result.now c.args.most c.in-Ok.number n c.parse.result c.ranges.most.fits is c.in-Ok.is c.parse.ensures.value.0 c.format.ensures.text (sym c.if-ne.ensures)

pub returns-then-number-most-clause-none : goal.returns-then-number-most-clause-none
returns-then-number-most-clause-none c = λ none n is.
    number_within c.args.word.now c.args.most c.in-Ok.number n c.parse.result c.ranges.most.fits is c.in-Ok.is c.parse.ensures.value.0 c.if-number-most.true
