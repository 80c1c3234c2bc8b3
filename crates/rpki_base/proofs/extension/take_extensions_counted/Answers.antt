use Rattle.std.proofs.Common.{refl, ◌∙◌}
use Rattle.rpki_der.specs.Grammar.{so}
use Rattle.rpki_der.proofs.Reading.{can_leave, not_ended, never_refused}
use Rattle.rpki_der.proofs.Counting.{takes_err, refuses_within, refuses_inside, takes_within, continues_step, reads_gathered, stops_step, takes_smaller}
use Rattle.rpki_der.proofs.Modes.{takes_in, refuses_in}
use Rattle.rpki_der.proofs.Leftovers.{continues_as}
use Rattle.rpki_base.specs.Extension.{extension, gathered}
use Rattle.rpki_base.proofs.Extensions.{as_found}
use Rattle.rpki_base.proofs.extension.take_extensions_counted.Goals as goal

pub returns-in_err-enter_counted : goal.returns-in_err-enter_counted
unfolding gathered
returns-in_err-enter_counted g c = takes_err _ _ _ _ _ _ _ _ _ c.from_residual.ensures.1 (refuses_within _ _ _ c.args.cursor.now _ _ _ c.in_err-enter_counted.ensures.place c.in_err-enter_counted.ensures.ticks)

pub extensions-init : goal.extensions-init
extensions-init g c = continues_as _ _ _ _ _ (λ vs. as_found _)

pub extensions-smaller : goal.extensions-smaller
extensions-smaller g c = takes_smaller _ _ _ _ _ _ _ c.in_ok-found.ensures

pub extensions-preserved : goal.extensions-preserved
extensions-preserved g c = continues_step _ _ _ _ _ _ _ _ _ _ _ _ _ refl c.extensions.invariant
    (takes_in _ (λ m. so (extension m) (g.F.FindsExtensions.with c.extensions.found)) _ _ _ _ _ _ (c.extensions.invariant.mode ∙ c.in_ok-enter_counted.ensures.place.mode) c.in_ok-found.ensures)

pub returns-in_err-found : goal.returns-in_err-found
unfolding gathered
returns-in_err-found g c = takes_err _ _ _ _ _ _ _ _ _ c.from_residual-in_err-found.ensures.1 (refuses_inside _ _ _ _ _ _ _ _ _ _ refl c.in_ok-enter_counted.ensures.place c.in_ok-enter_counted.ensures.ticks (c.extensions.invariant.stops _ _ _ (stops_step _ _ _ _ _ _ _ _ _ refl (not_ended c.extensions-test.ensures)
    (refuses_in _ (λ m. so (extension m) (g.F.FindsExtensions.with c.extensions.found)) _ _ _ _ _ (c.extensions.invariant.mode ∙ c.in_ok-enter_counted.ensures.place.mode) c.in_err-found.ensures))))

pub leave_counted-requires : goal.leave_counted-requires
leave_counted-requires g c = record { inside = can_leave _ c.args.cursor.now c.enter_counted.new.self c.extensions.cursor c.in_ok-enter_counted.ensures.place c.extensions.invariant.levels }

pub returns-in_err-leave_counted : goal.returns-in_err-leave_counted
returns-in_err-leave_counted g c = never_refused c.extensions.cursor _ (c.extensions-test.ensures.0 refl) c.in_err-leave_counted.ensures.place

pub returns : goal.returns
unfolding gathered
returns g c = takes_within _ _ _ _ _ _ _ _ _ _ _ refl c.in_ok-enter_counted.ensures.place c.in_ok-enter_counted.ensures.ticks (c.extensions.invariant.reads _ _ _ _ (reads_gathered _ _ _ _ _ _ _ _ _ refl c.in_ok-leave_counted.ensures.place c.in_ok-leave_counted.ensures.ticks refl))
