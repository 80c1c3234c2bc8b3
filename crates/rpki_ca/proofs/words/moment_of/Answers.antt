use Rattle.std.proofs.Common.{sym}
use Rattle.rpki_ca.proofs.Spelled.{not_refused, read_back, not_negative, written_alike, in_years, nothing_there}
use Rattle.rpki_ca.proofs.words.moment_of.Goals as goal

pub returns-in_default-clause-none : goal.returns-in_default-clause-none
returns-in_default-clause-none c = λ n. not_refused c.args.word.now c.in_default.field-0 c.in_default.ensures.value.0

pub returns-then-seconds-lt0-clause-none : goal.returns-then-seconds-lt0-clause-none
returns-then-seconds-lt0-clause-none c = λ n when m.
    not_negative c.args.word.now _ when (read_back c.args.word.now c.in-Ok.seconds when c.parse.result c.in-Ok.is c.parse.ensures.value.0 m) c.if-seconds-lt0.true m

pub returns-then-ne-clause-none : goal.returns-then-ne-clause-none
returns-then-ne-clause-none c = λ n when m.
    written_alike c.args.word.now c.format.result.now _ when (read_back c.args.word.now c.in-Ok.seconds when c.parse.result c.in-Ok.is c.parse.ensures.value.0 m) c.format.ensures.text (sym c.if-ne.ensures) m

pub returns-clause-none : goal.returns-clause-none
returns-clause-none c = λ n when m.
    nothing_there c.new-2.result n (c.new-2.ensures.some.1 (in_years c.args.word.now _ when (read_back c.args.word.now c.in-Ok.seconds when c.parse.result c.in-Ok.is c.parse.ensures.value.0 m) m))
