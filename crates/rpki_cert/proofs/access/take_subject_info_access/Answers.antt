use Rattle.std.proofs.Common.{refl}
use Rattle.rpki_der.proofs.Reading.{can_leave, not_ended, never_refused}
use Rattle.rpki_der.proofs.Counting.{takes_err, refuses_within, refuses_inside, takes_within, continues_step, reads_gathered, stops_step, takes_smaller}
use Rattle.rpki_der.proofs.Leftovers.{continues_as, takes_alike, refuses_alike}
use Rattle.rpki_base.proofs.Extensions.{as_found}
use Rattle.rpki_cert.proofs.Gathering.{access_is}
use Rattle.rpki_cert.proofs.access.take_subject_info_access.Goals as goal

pub returns-in_err-enter_counted : goal.returns-in_err-enter_counted
returns-in_err-enter_counted g c = takes_err _ _ _ _ _ _ _ _ _ c.from_residual.ensures.1 (refuses_alike _ _ _ _ _ _ _ access_is (refuses_within _ _ _ c.args.cursor.now _ _ _ c.in_err-enter_counted.ensures.place c.in_err-enter_counted.ensures.ticks))

pub descriptions-init : goal.descriptions-init
descriptions-init g c = continues_as _ _ _ _ _ (λ vs. as_found _)

pub descriptions-smaller : goal.descriptions-smaller
descriptions-smaller g c = takes_smaller _ _ _ _ _ _ _ c.in_ok-found.ensures

pub descriptions-preserved : goal.descriptions-preserved
descriptions-preserved g c = continues_step _ _ _ _ _ _ _ _ _ _ _ _ _ refl c.descriptions.invariant c.in_ok-found.ensures

pub returns-in_err-found : goal.returns-in_err-found
returns-in_err-found g c = takes_err _ _ _ _ _ _ _ _ _ c.from_residual-in_err-found.ensures.1 (refuses_alike _ _ _ _ _ _ _ access_is
    (refuses_inside _ _ _ _ _ _ _ _ _ _ refl c.in_ok-enter_counted.ensures.place c.in_ok-enter_counted.ensures.ticks (c.descriptions.invariant.stops _ _ _ (stops_step _ _ _ _ _ _ _ _ _ refl (not_ended c.descriptions-test.ensures) c.in_err-found.ensures))))

pub leave_counted-requires : goal.leave_counted-requires
leave_counted-requires g c = record { inside = can_leave _ c.args.cursor.now c.enter_counted.new.self c.descriptions.cursor c.in_ok-enter_counted.ensures.place c.descriptions.invariant.levels }

pub returns-in_err-leave_counted : goal.returns-in_err-leave_counted
returns-in_err-leave_counted g c = never_refused c.descriptions.cursor _ (c.descriptions-test.ensures.0 refl) c.in_err-leave_counted.ensures.place

pub returns : goal.returns
returns g c = takes_alike _ _ _ _ _ _ _ _ access_is (takes_within _ _ _ _ _ _ _ _ _ _ _ refl c.in_ok-enter_counted.ensures.place c.in_ok-enter_counted.ensures.ticks (c.descriptions.invariant.reads _ _ _ _ (reads_gathered _ _ _ _ _ _ _ _ _ refl c.in_ok-leave_counted.ensures.place c.in_ok-leave_counted.ensures.ticks refl)))
