use Rattle.std.proofs.Common.{refl, subst}
use Rattle.rpki_ca.specs.Command.{IsNoCommand}
use Rattle.rpki_archive.proofs.Asking.{asks, asks_in_vain, no_command, not_text}
use Rattle.rpki_archive.proofs.entries.receipt_in.Goals as goal

pub returns-in_default-2-clause-err : goal.returns-in_default-2-clause-err
returns-in_default-2-clause-err c =
    no_command c.args.line.now c.in-Some.entry.kind.now c.in-Some.entry.moment.now c.in-Some.entry.key.now c.in-Some.entry.envelope.now c.in-Some.ensures.some
    (not_text c.in-Some.entry.kind.now c.in-Some.entry.moment.now c.in-Some.entry.key.now ((rw c.in_default-2.is at c.in_ok-words.ensures.none) refl))

pub returns-in_default-3-clause-err : goal.returns-in_default-3-clause-err
returns-in_default-3-clause-err c =
    no_command c.args.line.now c.in-Some.entry.kind.now c.in-Some.entry.moment.now c.in-Some.entry.key.now c.in-Some.entry.envelope.now c.in-Some.ensures.some
    (subst IsNoCommand (rw c.in-Some-2.is at c.in_ok-words.ensures.some) ((rw c.in_default-3.is at c.in_ok-command.ensures.none) refl))

pub returns-in-Some-4-clause-ok : goal.returns-in-Some-4-clause-ok
returns-in-Some-4-clause-ok c =
    asks c.args.line.now c.in-Some.entry.kind.now c.in-Some.entry.moment.now c.in-Some.entry.key.now c.in-Some.entry.envelope.now c.in-Some-4.octets.items c.in-Some-2.words c.in-Some-3.command c.in-Some.ensures.some
    (rw c.in-Some-2.is at c.in_ok-words.ensures.some) (rw c.in-Some-3.is at c.in_ok-command.ensures.command) c.requires (rw c.in-Some-4.is at c.in_ok-octets.ensures.some)

pub returns-clause-err : goal.returns-clause-err
returns-clause-err c =
    asks_in_vain c.args.line.now c.in-Some.entry.kind.now c.in-Some.entry.moment.now c.in-Some.entry.key.now c.in-Some.entry.envelope.now c.in-Some-2.words c.in-Some-3.command c.in-Some.ensures.some
    (rw c.in-Some-2.is at c.in_ok-words.ensures.some) (rw c.in-Some-3.is at c.in_ok-command.ensures.command) c.requires ((rw c.in-None.is at c.in_ok-octets.ensures.none) refl)
