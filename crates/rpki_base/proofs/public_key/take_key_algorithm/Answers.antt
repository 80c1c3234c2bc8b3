-- by tools/proofs/answers.py rpki_base public_key take_key_algorithm PublicKey key_algorithm enter_counted format '>leave_parameters'
use Rattle.std.proofs.Common.{refl}
use Rattle.rpki_base.specs.PublicKey.{key_algorithm}
use Rattle.rpki_der.proofs.Counting.{refuses_inside, refuses_within, stops_first, takes_err}
use Rattle.rpki_der.proofs.Leftovers.{takes_within_rest}
use Rattle.rpki_base.proofs.public_key.take_key_algorithm.Goals as goal

pub returns-in_err-enter_counted : goal.returns-in_err-enter_counted
unfolding key_algorithm
returns-in_err-enter_counted g c = takes_err _ _ _ _ _ _ _ _ _ c.from_residual.ensures.1
    (refuses_within _ _ _ c.args.cursor.now _ _ _ c.in_err-enter_counted.ensures.place c.in_err-enter_counted.ensures.ticks)

pub returns-in_err-format : goal.returns-in_err-format
unfolding key_algorithm
returns-in_err-format g c = takes_err _ _ _ _ _ _ _ _ _ c.from_residual-in_err-format.ensures.1
    (refuses_inside _ _ _ _ _ _ _ _ _ _ refl c.in_ok-enter_counted.ensures.place c.in_ok-enter_counted.ensures.ticks
    (stops_first _ _ _ _ _ _ _ _ refl c.in_err-format.ensures))

pub returns : goal.returns
unfolding key_algorithm
returns g c = takes_within_rest _ _ _ _ _ _ _ _ _ _ _ _ _ _ _ _ _ refl refl c.in_ok-enter_counted.ensures.place c.in_ok-enter_counted.ensures.ticks c.in_ok-format.ensures c.leave_parameters.ensures
