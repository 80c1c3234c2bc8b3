-- by tools/proofs/answers.py rpki_base public_key PublicKey.take_from_counted PublicKey public_key enter_counted format octets '!bits' leave_counted =in_ok-bits
use Rattle.std.proofs.Common.{refl}
use Rattle.rpki_base.specs.PublicKey.{public_key}
use Rattle.rpki_der.proofs.Counting.{reads_done, reads_first, refuses_inside, refuses_within, stops_done, stops_first, stops_later, stops_memory, takes_err, takes_within}
use Rattle.rpki_base.proofs.public_key.PublicKey.take_from_counted.Goals as goal

pub returns-in_err-enter_counted : goal.returns-in_err-enter_counted
unfolding public_key
returns-in_err-enter_counted g c = takes_err _ _ _ _ _ _ _ _ _ c.from_residual.ensures.1
    (refuses_within _ _ _ c.args.cursor.now _ _ _ c.in_err-enter_counted.ensures.place c.in_err-enter_counted.ensures.ticks)

pub returns-in_err-format : goal.returns-in_err-format
unfolding public_key
returns-in_err-format g c = takes_err _ _ _ _ _ _ _ _ _ c.from_residual-in_err-format.ensures.1
    (refuses_inside _ _ _ _ _ _ _ _ _ _ refl c.in_ok-enter_counted.ensures.place c.in_ok-enter_counted.ensures.ticks
    (stops_first _ _ _ _ _ _ _ _ refl c.in_err-format.ensures))

pub returns-in_err-octets : goal.returns-in_err-octets
unfolding public_key
returns-in_err-octets g c = takes_err _ _ _ _ _ _ _ _ _ c.from_residual-in_err-octets.ensures.1
    (refuses_inside _ _ _ _ _ _ _ _ _ _ refl c.in_ok-enter_counted.ensures.place c.in_ok-enter_counted.ensures.ticks
    (stops_later _ _ _ _ _ _ _ _ _ _ _ _ refl c.in_ok-format.ensures
    (stops_first _ _ _ _ _ _ _ _ refl c.in_err-octets.ensures)))

pub returns-in_err-bits : goal.returns-in_err-bits
unfolding public_key
returns-in_err-bits g c = takes_err _ _ _ _ _ _ _ _ _ c.from_residual-in_err-bits.ensures.1
    (refuses_inside _ _ _ _ _ _ _ _ _ _ refl c.in_ok-enter_counted.ensures.place c.in_ok-enter_counted.ensures.ticks
    (stops_later _ _ _ _ _ _ _ _ _ _ _ _ refl c.in_ok-format.ensures
    (stops_later _ _ _ _ _ _ _ _ _ _ _ _ refl c.in_ok-octets.ensures
    (stops_memory _ _ _ _ _ refl))))

pub returns-in_err-leave_counted : goal.returns-in_err-leave_counted
unfolding public_key
returns-in_err-leave_counted g c = takes_err _ _ _ _ _ _ _ _ _ c.from_residual-in_err-leave_counted.ensures.1
    (refuses_inside _ _ _ _ _ _ _ _ _ _ refl c.in_ok-enter_counted.ensures.place c.in_ok-enter_counted.ensures.ticks
    (stops_later _ _ _ _ _ _ _ _ _ _ _ _ refl c.in_ok-format.ensures
    (stops_later _ _ _ _ _ _ _ _ _ _ _ _ refl c.in_ok-octets.ensures
    (stops_done _ _ _ _ _ _ c.in_err-leave_counted.ensures.place c.in_err-leave_counted.ensures.refused))))

pub returns : goal.returns
unfolding public_key
returns g c = rw c.in_ok-bits.ensures
    (takes_within _ _ _ _ _ _ _ _ _ _ _ refl c.in_ok-enter_counted.ensures.place c.in_ok-enter_counted.ensures.ticks
    (reads_first _ _ _ _ _ _ _ _ _ _ _ _ _ refl c.in_ok-format.ensures
    (reads_first _ _ _ _ _ _ _ _ _ _ _ _ _ refl c.in_ok-octets.ensures
    (reads_done _ _ _ _ _ _ refl c.in_ok-leave_counted.ensures.place c.in_ok-leave_counted.ensures.ticks))))
