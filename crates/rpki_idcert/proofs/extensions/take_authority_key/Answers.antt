-- by tools/proofs/answers.py rpki_idcert extensions take_authority_key Extensions authority_key enter_counted '?key' '&pass_rest_counted'
use Rattle.std.proofs.Common.{refl}
use Rattle.rpki_der.proofs.Counting.{reads_part, refuses_inside, refuses_within, stops_behind, stops_part, takes_err, takes_within}
use Rattle.rpki_der.proofs.Leftovers.{reads_bind, stops_bind}
use Rattle.rpki_idcert.specs.Extensions.{authority_key}
use Rattle.rpki_idcert.proofs.extensions.take_authority_key.Goals as goal

pub returns-in_err-enter_counted : goal.returns-in_err-enter_counted
unfolding authority_key
returns-in_err-enter_counted g c = takes_err _ _ _ _ _ _ _ _ _ c.from_residual.ensures.1
    (refuses_within _ _ _ c.args.cursor.now _ _ _ c.in_err-enter_counted.ensures.place c.in_err-enter_counted.ensures.ticks)

pub returns-in_err-key : goal.returns-in_err-key
unfolding authority_key
returns-in_err-key g c = takes_err _ _ _ _ _ _ _ _ _ c.from_residual-in_err-key.ensures.1
    (refuses_inside _ _ _ _ _ _ _ _ _ _ refl c.in_ok-enter_counted.ensures.place c.in_ok-enter_counted.ensures.ticks
    (stops_part _ _ _ _ _ _ _ _ _ refl c.in_err-key.ensures))

pub returns-in_err-pass_rest_counted : goal.returns-in_err-pass_rest_counted
unfolding authority_key
returns-in_err-pass_rest_counted g c = takes_err _ _ _ _ _ _ _ _ _ c.from_residual-in_err-pass_rest_counted.ensures.1
    (refuses_inside _ _ _ _ _ _ _ _ _ _ refl c.in_ok-enter_counted.ensures.place c.in_ok-enter_counted.ensures.ticks
    (stops_behind _ _ _ _ _ _ _ _ _ _ _ _ _ refl c.in_ok-key.ensures
    (stops_bind _ _ _ _ _ _ _ _ c.in_err-pass_rest_counted.ensures)))

pub returns : goal.returns
unfolding authority_key
returns g c = takes_within _ _ _ _ _ _ _ _ _ _ _ refl c.in_ok-enter_counted.ensures.place c.in_ok-enter_counted.ensures.ticks
    (reads_part _ _ _ _ _ _ _ _ _ _ _ _ _ _ refl c.in_ok-key.ensures
    (reads_bind _ _ _ _ _ _ _ _ _ _ c.in_ok-pass_rest_counted.ensures refl))
