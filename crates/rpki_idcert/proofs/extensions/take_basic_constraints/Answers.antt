-- by tools/proofs/answers.py rpki_idcert extensions take_basic_constraints Extensions basic_constraints enter_counted
--     '?ca:fields@rpki_der.specs.Grammar.optional+rpki_der.specs.Tags.boolean_tag+rpki_der.specs.Boolean.boolean=(λ m. optional boolean_tag (boolean m))' '&leave_path_length' =unwrap_or
use Rattle.std.proofs.Common.{refl}
use Rattle.rpki_der.proofs.Counting.{reads_part, refuses_inside, refuses_within, stops_behind, stops_part, takes_err, takes_within}
use Rattle.rpki_der.proofs.Leftovers.{reads_bind, stops_bind}
use Rattle.rpki_der.proofs.Modes.{part_in, refuses_part_in}
use Rattle.rpki_der.specs.Boolean.{boolean}
use Rattle.rpki_der.specs.Grammar.{optional}
use Rattle.rpki_der.specs.Tags.{boolean_tag}
use Rattle.rpki_idcert.specs.Extensions.{basic_constraints}
use Rattle.rpki_idcert.proofs.extensions.take_basic_constraints.Goals as goal

pub returns-in_err-enter_counted : goal.returns-in_err-enter_counted
unfolding basic_constraints
returns-in_err-enter_counted g c = takes_err _ _ _ _ _ _ _ _ _ c.from_residual.ensures.1
    (refuses_within _ _ _ c.args.cursor.now _ _ _ c.in_err-enter_counted.ensures.place c.in_err-enter_counted.ensures.ticks)

pub returns-in_err-ca : goal.returns-in_err-ca
unfolding basic_constraints
returns-in_err-ca g c = takes_err _ _ _ _ _ _ _ _ _ c.from_residual-in_err-ca.ensures.1
    (refuses_inside _ _ _ _ _ _ _ _ _ _ refl c.in_ok-enter_counted.ensures.place c.in_ok-enter_counted.ensures.ticks
    (stops_part _ _ _ _ _ _ _ _ _ refl (refuses_part_in _ _ (λ m. optional boolean_tag (boolean m)) _ _ _ _ _ c.in_ok-enter_counted.ensures.place.mode c.in_err-ca.ensures.fields)))

pub returns-in_err-leave_path_length : goal.returns-in_err-leave_path_length
unfolding basic_constraints
returns-in_err-leave_path_length g c = takes_err _ _ _ _ _ _ _ _ _ c.from_residual-in_err-leave_path_length.ensures.1
    (refuses_inside _ _ _ _ _ _ _ _ _ _ refl c.in_ok-enter_counted.ensures.place c.in_ok-enter_counted.ensures.ticks
    (stops_behind _ _ _ _ _ _ _ _ _ _ _ _ _ refl (part_in _ _ (λ m. optional boolean_tag (boolean m)) _ _ _ _ _ _ c.in_ok-enter_counted.ensures.place.mode c.in_ok-ca.ensures.fields)
    (stops_bind _ _ _ _ _ _ _ _ c.in_err-leave_path_length.ensures)))

pub returns : goal.returns
unfolding basic_constraints
returns g c = rw c.unwrap_or.ensures
    (takes_within _ _ _ _ _ _ _ _ _ _ _ refl c.in_ok-enter_counted.ensures.place c.in_ok-enter_counted.ensures.ticks
    (reads_part _ _ _ _ _ _ _ _ _ _ _ _ _ _ refl (part_in _ _ (λ m. optional boolean_tag (boolean m)) _ _ _ _ _ _ c.in_ok-enter_counted.ensures.place.mode c.in_ok-ca.ensures.fields)
    (reads_bind _ _ _ _ _ _ _ _ _ _ c.in_ok-leave_path_length.ensures refl)))
