use Rattle.std.proofs.Common.{Ok, refl, inl, inr}
use Rattle.std.proofs.lemmas.Result.{err_from_is_err_and, IfOk-weaker}
use Rattle.rpki_ca.specs.declared.command.Command.TheVariants.{Make}
use Rattle.rpki_ca.proofs.Commands.{asks_signer, is_make, limited, reads_input, make_reads_none}
use Rattle.rpki_ca.proofs.Answering.{if_err, always_some, at_end, shown, admitted, unread_admitted, usage_of_none, usage_shown, made_by_words, IsRead}
use Rattle.rpki_ca.proofs.Unasked.{unasked_here}
use Rattle.rpki_ca.proofs.running.answer.Goals as goal

pub returns-in_default-clause-err : goal.returns-in_default-clause-err
returns-in_default-clause-err g c = usage_shown g.P.Scheme.checks c.args.words.now _ _ ((rw c.in_default.is at c.in_ok-command.ensures.none) refl) refl

pub returns-in_default-clause-usage : goal.returns-in_default-clause-usage
returns-in_default-clause-usage g c = λ u. (rw c.in_default.is at c.in_ok-command.ensures.none) refl

pub returns-clause-ok : goal.returns-clause-ok
returns-clause-ok g c =
    let is = rw c.in-Some.is at c.in_ok-command.ensures.command in
    let within : IsRead c.in-Some.command c.in_ok-octets.octets.items (g.I.Source.rest c.args.input.now) = (c.in_ok-octets.ensures.short, c.in_ok-octets.ensures.ok) in
    IfOk-weaker c.perform.result _ _ (λ line t. (
      t.0,
      shown g.P.Scheme.checks c.args.words.now _ _ c.in_ok-octets.octets.items c.in-Some.command (Ok t.0) is within c.in_ok-octets.ensures.steady t.1,
      t.2,
    )) c.perform.ensures.ok

pub returns-clause-err : goal.returns-clause-err
returns-clause-err g c =
    let is = rw c.in-Some.is at c.in_ok-command.ensures.command in
    let within : IsRead c.in-Some.command c.in_ok-octets.octets.items (g.I.Source.rest c.args.input.now) = (c.in_ok-octets.ensures.short, c.in_ok-octets.ensures.ok) in
    if_err c.perform.result _ _ (λ e said. admitted g.P.Scheme.checks c.args.words.now _ _ c.in_ok-octets.octets.items c.in-Some.command e is within c.in_ok-octets.ensures.steady said) c.perform.ensures.err

pub returns-in_err-octets-clause-err : goal.returns-in_err-octets-clause-err
returns-in_err-octets-clause-err g c =
    let p = err_from_is_err_and c.from_residual-in_err-octets.result c.from_residual-in_err-octets.ensures.1 in
    rw (p.1, p.2) (unread_admitted g.P.Scheme.checks c.args.words.now _ _ c.in-Some.command c.in_err-octets.field-0.0 (rw c.in-Some.is at c.in_ok-command.ensures.command) c.in_err-octets.ensures.reads c.in_err-octets.ensures.err)

pub returns-clause-usage : goal.returns-clause-usage
returns-clause-usage g c = usage_of_none g.P.Scheme.checks c.args.words.now c.in-Some.command c.in_ok-octets.octets.items _ c.perform.result c.perform.ensures.err

pub returns-clause-untouched : goal.returns-clause-untouched
returns-clause-untouched g c = λ none no_make.
    let is = rw c.in-Some.is at c.in_ok-command.ensures.command in
    elim c.perform.ensures.untouched [
      | inl asks ↦ absurd (asks_signer c.args.words.now c.in-Some.command is asks none no_make)
      | inr same ↦ same
    ]

pub returns-clause-whole : goal.returns-clause-whole
returns-clause-whole g c = λ none.
    let is = rw c.in-Some.is at c.in_ok-command.ensures.command in
    at_end c.perform.result (c.in_ok-octets.ensures.end (reads_input c.args.words.now c.in-Some.command is none))

pub returns-clause-long : goal.returns-clause-long
returns-clause-long g c = λ none long.
    let is = rw c.in-Some.is at c.in_ok-command.ensures.command in
    always_some (g.I.Source.rest c.args.input.now) _ (λ rest few. c.in_ok-octets.ensures.end (reads_input c.args.words.now c.in-Some.command is none))

pub returns-clause-made : goal.returns-clause-made
returns-clause-made g c = λ count seed make.
    let is = rw c.in-Some.is at c.in_ok-command.ensures.command in
    made_by_words g.P.Scheme.checks c.args.words.now count seed c.in-Some.command c.in_ok-octets.octets.items _ (λ line. line.items) c.perform.result is make c.perform.ensures.ok c.perform.ensures.err

pub returns-clause-unread_by_make : goal.returns-clause-unread_by_make
returns-clause-unread_by_make g c = λ count seed make.
    let is = rw c.in-Some.is at c.in_ok-command.ensures.command in
    elim c.in_ok-octets.ensures.unread [
      | inl reads ↦ absurd (make_reads_none c.args.words.now c.in-Some.command count seed is make reads)
      | inr same ↦ same
    ]

pub returns-in_default-clause-made : goal.returns-in_default-clause-made
returns-in_default-clause-made g c = λ count seed make other.
    absurd ((rw c.in_default.is at c.in_ok-command.ensures.none) refl (Make count seed) (is_make c.args.words.now count seed make))

pub perform-requires : goal.perform-requires
perform-requires g c = limited c.args.words.now c.in-Some.command (rw c.in-Some.is at c.in_ok-command.ensures.command)

pub returns-in_err-command-clause-unasked : goal.returns-in_err-command-clause-unasked
returns-in_err-command-clause-unasked g c = λ a. always_some (g.I.Source.rest c.args.input.now) _ (λ rest shown. refl)

pub returns-in_default-clause-unasked : goal.returns-in_default-clause-unasked
returns-in_default-clause-unasked g c = λ a. always_some (g.I.Source.rest c.args.input.now) _ (λ rest shown. refl)

pub returns-in_err-octets-clause-unasked : goal.returns-in_err-octets-clause-unasked
returns-in_err-octets-clause-unasked g c = λ a. always_some (g.I.Source.rest c.args.input.now) _ (λ rest shown. refl)

pub returns-clause-unasked : goal.returns-clause-unasked
returns-clause-unasked g c = λ a.
    let is = rw c.in-Some.is at c.in_ok-command.ensures.command in
    let within : IsRead c.in-Some.command c.in_ok-octets.octets.items (g.I.Source.rest c.args.input.now) = (c.in_ok-octets.ensures.short, c.in_ok-octets.ensures.ok) in
    unasked_here g.P.Scheme.checks c.args.words.now c.in_ok-octets.octets.items (g.I.Source.rest c.args.input.now) c.in-Some.command a is within (λ said. c.perform.ensures.unasked a said)
