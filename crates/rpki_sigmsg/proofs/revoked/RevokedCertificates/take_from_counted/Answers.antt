use Rattle.std.proofs.Common.{refl}
use Rattle.rpki_sigmsg.specs.RevokedCertificates.{revoked_certificates}
use Rattle.rpki_der.proofs.Reading.{can_leave, not_ended, never_refused}
use Rattle.rpki_der.proofs.Counting.{takes_err, refuses_within, refuses_inside, takes_within, stops_item, stops_memory, takes_smaller}
use Rattle.rpki_der.proofs.Leftovers.{reads_bind, stops_bind}
use Rattle.rpki_der.proofs.Holding.{stops_held}
use Rattle.rpki_base.proofs.Eachs.{cut_between}
use Rattle.rpki_sigmsg.proofs.Entries.{none_yet, one_more, all_read}
use Rattle.rpki_sigmsg.proofs.revoked.RevokedCertificates.take_from_counted.Goals as goal

pub returns-in_err-enter_counted : goal.returns-in_err-enter_counted
unfolding revoked_certificates
returns-in_err-enter_counted g c = takes_err _ _ _ _ _ _ _ _ _ c.from_residual.ensures.1 (refuses_within _ _ _ c.args.cursor.now _ _ _ c.in_err-enter_counted.ensures.place c.in_err-enter_counted.ensures.ticks)

pub entries-init : goal.entries-init
entries-init g c = rw c.new-entries.ensures.items (none_yet _ _ _)

pub entries-smaller : goal.entries-smaller
entries-smaller g c = takes_smaller _ _ _ _ _ _ _ c.in_ok-entry.ensures

pub entries-preserved : goal.entries-preserved
entries-preserved g c = rw c.in_ok-push.ensures.items (one_more _ _ _ _ _ _ _ _ _ c.entries.invariant c.in_ok-entry.ensures)

pub returns-in_err-entry : goal.returns-in_err-entry
unfolding revoked_certificates
returns-in_err-entry g c = takes_err _ _ _ _ _ _ _ _ _ c.from_residual-in_err-entry.ensures.1 (refuses_inside _ _ _ _ _ _ _ _ _ _ refl c.in_ok-enter_counted.ensures.place c.in_ok-enter_counted.ensures.ticks
    (stops_bind _ _ _ _ _ _ _ _ (stops_held _ _ _ _ _ _ _ (c.entries.invariant.stops _ _ _ (stops_item _ _ _ _ _ _ _ _ refl (not_ended c.entries-test.ensures) c.in_err-entry.ensures)))))

pub returns-in_err-push : goal.returns-in_err-push
unfolding revoked_certificates
returns-in_err-push g c = takes_err _ _ _ _ _ _ _ _ _ c.from_residual-in_err-push.ensures.1 (refuses_inside _ _ _ _ _ _ _ _ _ _ refl c.in_ok-enter_counted.ensures.place c.in_ok-enter_counted.ensures.ticks
    (stops_bind _ _ _ _ _ _ _ _ (stops_held _ _ _ _ _ _ _ ((one_more _ _ _ _ _ _ _ _ _ c.entries.invariant c.in_ok-entry.ensures).stops _ _ _ (stops_memory _ _ _ _ _ refl)))))

pub returns-in_err-octets : goal.returns-in_err-octets
unfolding revoked_certificates
returns-in_err-octets g c = takes_err _ _ _ _ _ _ _ _ _ c.from_residual-in_err-octets.ensures.1 (refuses_inside _ _ _ _ _ _ _ _ _ _ refl c.in_ok-enter_counted.ensures.place c.in_ok-enter_counted.ensures.ticks
    (stops_bind _ _ _ _ _ _ _ _ (stops_held _ _ _ _ _ _ _ (c.entries.invariant.stops _ _ _ (stops_memory _ _ _ _ _ refl)))))

pub leave_counted-requires : goal.leave_counted-requires
leave_counted-requires g c = record { inside = can_leave _ c.args.cursor.now c.enter_counted.new.self c.entries.cursor c.in_ok-enter_counted.ensures.place c.entries.invariant.levels }

pub returns-in_err-leave_counted : goal.returns-in_err-leave_counted
returns-in_err-leave_counted g c = never_refused c.entries.cursor _ (c.entries-test.ensures.0 refl) c.in_err-leave_counted.ensures.place

pub returns : goal.returns
unfolding revoked_certificates
returns g c = rw c.from_vec.ensures (takes_within _ _ _ _ _ _ _ _ _ _ _ refl c.in_ok-enter_counted.ensures.place c.in_ok-enter_counted.ensures.ticks
    (reads_bind _ _ _ _ _ _ _ _ _ _ (all_read _ _ _ _ _ _ _ _ _ c.entries.invariant c.in_ok-leave_counted.ensures.place c.in_ok-leave_counted.ensures.ticks (cut_between _ _ _ _ _ c.in_ok-octets.ensures c.since.ensures c.here-start.ensures)) refl))
