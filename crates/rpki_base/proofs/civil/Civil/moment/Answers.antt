use Rattle.std.proofs.Common.{◌<◌, ◌∙◌, sym, arith, rules}
use Rattle.jiff_core.proofs.SignedLemmas.{signed_casts}
use Rattle.rpki_base.proofs.Years.{moment_range, clock_below}
use Rattle.rpki_base.specs.Civil.{moment, seconds_of}
use Rattle.rpki_base.proofs.civil.Civil.moment.Goals as goal

pub returns-then-not-has_clock : goal.returns-then-not-has_clock
unfolding moment seconds_of
returns-then-not-has_clock c = search rules

pub returns-in_err-date : goal.returns-in_err-date
unfolding moment seconds_of
returns-in_err-date c = search rules

pub returns-clause-value : goal.returns-clause-value
unfolding moment seconds_of
returns-clause-value c = search rules

pub returns-clause-range : goal.returns-clause-range
returns-clause-range c =
    let lt : c.second_of_day.result < 86400 = rw c.second_of_day.ensures (clock_below c.args.self.hour c.args.self.minute c.args.self.second (sym c.has_clock.ensures ∙ c.if-not-has_clock.false)) in
    let r = moment_range c.in_ok-date.date c.second_of_day.result c.in_ok-date.ensures.year lt in
    omega (arith, signed_casts, c.seconds_at.ensures, r.0, r.1)
