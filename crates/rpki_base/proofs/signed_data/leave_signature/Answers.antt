-- by tools/proofs/answers.py rpki_base signed_data leave_signature SignedData signature_in - algorithm bits '!value' leave_counted =new =in_ok-value
use Rattle.std.proofs.Common.{refl}
use Rattle.rpki_base.specs.SignedData.{signature_in}
use Rattle.rpki_der.proofs.Counting.{reads_done, reads_first, stops_done, stops_first, stops_later, stops_memory}
use Rattle.rpki_der.proofs.Leftovers.{takes_rest_err}
use Rattle.rpki_base.proofs.signed_data.leave_signature.Goals as goal

pub returns-in_err-algorithm : goal.returns-in_err-algorithm
unfolding signature_in
returns-in_err-algorithm g c = takes_rest_err _ _ _ _ _ _ _ _ _ _ c.from_residual.ensures.1 (stops_first _ _ _ _ _ _ _ _ refl c.in_err-algorithm.ensures)

pub returns-in_err-bits : goal.returns-in_err-bits
unfolding signature_in
returns-in_err-bits g c = takes_rest_err _ _ _ _ _ _ _ _ _ _ c.from_residual-in_err-bits.ensures.1
    (stops_later _ _ _ _ _ _ _ _ _ _ _ _ refl c.in_ok-algorithm.ensures
    (stops_first _ _ _ _ _ _ _ _ refl c.in_err-bits.ensures))

pub returns-in_err-value : goal.returns-in_err-value
unfolding signature_in
returns-in_err-value g c = takes_rest_err _ _ _ _ _ _ _ _ _ _ c.from_residual-in_err-value.ensures.1
    (stops_later _ _ _ _ _ _ _ _ _ _ _ _ refl c.in_ok-algorithm.ensures
    (stops_later _ _ _ _ _ _ _ _ _ _ _ _ refl c.in_ok-bits.ensures
    (stops_memory _ _ _ _ _ refl)))

pub returns-in_err-leave_counted : goal.returns-in_err-leave_counted
unfolding signature_in
returns-in_err-leave_counted g c = takes_rest_err _ _ _ _ _ _ _ _ _ _ c.from_residual-in_err-leave_counted.ensures.1
    (stops_later _ _ _ _ _ _ _ _ _ _ _ _ refl c.in_ok-algorithm.ensures
    (stops_later _ _ _ _ _ _ _ _ _ _ _ _ refl c.in_ok-bits.ensures
    (stops_done _ _ _ _ _ _ c.in_err-leave_counted.ensures.place c.in_err-leave_counted.ensures.refused)))

pub returns : goal.returns
unfolding signature_in
returns g c = rw (c.new.ensures, c.in_ok-value.ensures)
    (reads_first _ _ _ _ _ _ _ _ _ _ _ _ _ refl c.in_ok-algorithm.ensures
    (reads_first _ _ _ _ _ _ _ _ _ _ _ _ _ refl c.in_ok-bits.ensures
    (reads_done _ _ _ _ _ _ refl c.in_ok-leave_counted.ensures.place c.in_ok-leave_counted.ensures.ticks)))
