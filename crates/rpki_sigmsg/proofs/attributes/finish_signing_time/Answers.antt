use Rattle.std.proofs.Common.{sym}
use Rattle.rpki_der.proofs.Leftovers.{takes_rest_err, stops_second, first_stops, first_reads, reads_set, stops_set_enter, stops_set_leaf, stops_set_more, stops_set_behind}
use Rattle.rpki_sigmsg.proofs.attributes.finish_signing_time.Goals as goal

pub returns-then-is_some : goal.returns-then-is_some
returns-then-is_some g c = stops_second _ _ _ _ _ _ (sym c.if-is_some.ensures)

pub returns-in_err-enter_counted : goal.returns-in_err-enter_counted
returns-in_err-enter_counted g c = takes_rest_err _ _ _ _ _ _ _ _ _ _ c.from_residual.ensures.1 (first_stops _ _ _ _ c.args.cursor.now _ _ _ (sym c.if-is_some.ensures) (stops_set_enter _ c.args.cursor.now _ _ _ c.in_err-enter_counted.ensures.place c.in_err-enter_counted.ensures.ticks))

pub returns-in_err-time : goal.returns-in_err-time
returns-in_err-time g c = takes_rest_err _ _ _ _ _ _ _ _ _ _ c.from_residual-in_err-time.ensures.1 (first_stops _ _ _ _ c.args.cursor.now _ _ _ (sym c.if-is_some.ensures) (stops_set_leaf _ _ _ _ _ _ _ c.in_ok-enter_counted.ensures.place c.in_ok-enter_counted.ensures.ticks c.in_err-time.ensures))

pub returns-in_err-leave_counted : goal.returns-in_err-leave_counted
returns-in_err-leave_counted g c = takes_rest_err _ _ _ _ _ _ _ _ _ _ c.from_residual-in_err-leave_counted.ensures.1 (first_stops _ _ _ _ c.args.cursor.now _ _ _ (sym c.if-is_some.ensures) (stops_set_more _ _ _ _ _ _ _ _ _ _ c.in_ok-enter_counted.ensures.place c.in_ok-enter_counted.ensures.ticks c.in_ok-time.ensures c.in_err-leave_counted.ensures.place c.in_err-leave_counted.ensures.refused))

pub returns-in_err-leave_counted-2 : goal.returns-in_err-leave_counted-2
returns-in_err-leave_counted-2 g c = takes_rest_err _ _ _ _ _ _ _ _ _ _ c.from_residual-in_err-leave_counted-2.ensures.1 (first_stops _ _ _ _ c.args.cursor.now _ _ _ (sym c.if-is_some.ensures) (stops_set_behind _ _ _ _ _ _ _ _ _ _ _ _ c.in_ok-enter_counted.ensures.place c.in_ok-enter_counted.ensures.ticks c.in_ok-time.ensures c.in_ok-leave_counted.ensures.place c.in_ok-leave_counted.ensures.ticks c.in_err-leave_counted-2.ensures.place c.in_err-leave_counted-2.ensures.refused))

pub returns : goal.returns
returns g c = first_reads _ _ _ _ _ _ _ _ _ (sym c.if-is_some.ensures) (reads_set _ _ _ _ _ _ _ _ _ _ _ _ c.in_ok-enter_counted.ensures.place c.in_ok-enter_counted.ensures.ticks c.in_ok-time.ensures c.in_ok-leave_counted.ensures.place c.in_ok-leave_counted.ensures.ticks c.in_ok-leave_counted-2.ensures.place c.in_ok-leave_counted-2.ensures.ticks)
