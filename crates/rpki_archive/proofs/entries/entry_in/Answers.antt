use Rattle.rpki_archive.proofs.Asking.{five_words}
use Rattle.rpki_archive.proofs.entries.entry_in.Goals as goal

pub returns-in-Some-clause-none : goal.returns-in-Some-clause-none
returns-in-Some-clause-none c = λ n.
    five_words c.args.line.now c.in_ok-kind.kind.now c.in_ok-moment.moment.now c.in_ok-key.key.now c.in-Some.field-0-0.now c.in_ok-kind.rest.now c.in_ok-moment.rest.now c.in_ok-key.envelope.now c.in-Some.field-0-1.now
    c.in_ok-kind.ensures.some c.in_ok-moment.ensures.some c.in_ok-key.ensures.some c.in-Some.ensures.some
