use Rattle.std.proofs.Common.{refl, sym, ap, ◌∙◌}
use Rattle.rpki_der.specs.Position.{top}
use Rattle.rpki_sigmsg.specs.Attributes.{signed_attributes}
use Rattle.rpki_sigmsg.specs.Gathered.{add_value, shown}
use Rattle.rpki_der.proofs.Reading.{can_leave, not_ended, never_refused}
use Rattle.rpki_der.proofs.Counting.{takes_err, refuses_within, refuses_inside, takes_within, continues_step, reads_gathered, stops_step, stops_gathered, takes_smaller}
use Rattle.rpki_der.proofs.Modes.{takes_in, refuses_in}
use Rattle.rpki_der.proofs.Leftovers.{continues_as}
use Rattle.rpki_der.proofs.Holding.{reads_held, stops_held}
use Rattle.rpki_sigmsg.proofs.Adding.{all_added}
use Rattle.rpki_sigmsg.proofs.attributes.take_signed_attributes.Goals as goal

pub returns-in_err-enter_counted : goal.returns-in_err-enter_counted
unfolding signed_attributes
returns-in_err-enter_counted g c = takes_err _ _ _ _ _ _ _ _ _ c.from_residual.ensures.1 (refuses_within _ _ _ c.args.cursor.now _ _ _ c.in_err-enter_counted.ensures.place c.in_err-enter_counted.ensures.ticks)

pub attributes-init : goal.attributes-init
attributes-init g c = continues_as _ _ _ _ _ (all_added _)

pub attributes-smaller : goal.attributes-smaller
attributes-smaller g c = takes_smaller _ _ _ _ _ _ _ c.in_ok-found.ensures

pub attributes-preserved : goal.attributes-preserved
attributes-preserved g c = continues_step _ _ _ _ _ _ _ _ _ _ _ _ _ refl c.attributes.invariant
    (takes_in _ (λ m. add_value m (shown c.attributes.found)) _ _ _ _ _ _ (c.attributes.invariant.mode ∙ c.in_ok-enter_counted.ensures.place.mode) c.in_ok-found.ensures)

pub returns-in_err-found : goal.returns-in_err-found
unfolding signed_attributes
returns-in_err-found g c = takes_err _ _ _ _ _ _ _ _ _ c.from_residual-in_err-found.ensures.1 (refuses_inside _ _ _ _ _ _ _ _ _ _ refl c.in_ok-enter_counted.ensures.place c.in_ok-enter_counted.ensures.ticks (stops_held _ _ _ _ _ _ _ (c.attributes.invariant.stops _ _ _ (stops_step _ _ _ _ _ _ _ _ _ refl (not_ended c.attributes-test.ensures)
    (refuses_in _ (λ m. add_value m (shown c.attributes.found)) _ _ _ _ _ (c.attributes.invariant.mode ∙ c.in_ok-enter_counted.ensures.place.mode) c.in_err-found.ensures)))))

pub leave_since_counted-requires : goal.leave_since_counted-requires
leave_since_counted-requires g c = record { inside = can_leave _ c.args.cursor.now c.enter_counted.new.self c.attributes.cursor c.in_ok-enter_counted.ensures.place c.attributes.invariant.levels }

pub returns-in_err-octets : goal.returns-in_err-octets
returns-in_err-octets g c = never_refused c.attributes.cursor _ (c.attributes-test.ensures.0 refl) c.in_err-octets.ensures.place

pub returns-in-None : goal.returns-in-None
unfolding signed_attributes
returns-in-None g c = refuses_inside _ _ _ _ _ _ _ _ _ _ refl c.in_ok-enter_counted.ensures.place c.in_ok-enter_counted.ensures.ticks (stops_held _ _ _ _ _ _ _ (c.attributes.invariant.stops _ _ _ (stops_gathered _ _ _ _ _ _ _ _ refl c.in_ok-octets.ensures.place c.in_ok-octets.ensures.ticks (sym c.in-None.ensures))))

pub returns-in-Some : goal.returns-in-Some
unfolding signed_attributes
returns-in-Some g c = rw (c.in_ok-octets.ensures.contents, c.here-start.ensures) (takes_within _ _ _ _ _ _ _ _ _ _ _ refl c.in_ok-enter_counted.ensures.place c.in_ok-enter_counted.ensures.ticks
    (reads_held _ _ _ _ c.attributes.cursor _ _ _ _ (ap top c.attributes.invariant.levels) c.in_ok-octets.ensures.place (c.attributes.invariant.reads _ _ _ _ (reads_gathered _ _ _ _ _ _ _ _ _ refl c.in_ok-octets.ensures.place c.in_ok-octets.ensures.ticks (sym c.in-Some.ensures)))))
