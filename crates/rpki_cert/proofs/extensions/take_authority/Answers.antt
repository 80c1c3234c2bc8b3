-- by tools/proofs/answers.py rpki_cert extensions take_authority Extensions authority enter_counted
--     '?ca:fields@rpki_der.specs.Grammar.optional+rpki_der.specs.Tags.boolean_tag+rpki_der.specs.Boolean.boolean=(λ m. optional boolean_tag (boolean m))' leave_counted =unwrap_or
use Rattle.std.proofs.Common.{refl}
use Rattle.rpki_cert.specs.Extensions.{authority}
use Rattle.rpki_der.proofs.Counting.{reads_done, reads_part, refuses_inside, refuses_within, stops_behind, stops_done, stops_part, takes_err, takes_within}
use Rattle.rpki_der.proofs.Modes.{part_in, refuses_part_in}
use Rattle.rpki_der.specs.Boolean.{boolean}
use Rattle.rpki_der.specs.Grammar.{optional}
use Rattle.rpki_der.specs.Tags.{boolean_tag}
use Rattle.rpki_cert.proofs.extensions.take_authority.Goals as goal

pub returns-in_err-enter_counted : goal.returns-in_err-enter_counted
unfolding authority
returns-in_err-enter_counted g c = takes_err _ _ _ _ _ _ _ _ _ c.from_residual.ensures.1
    (refuses_within _ _ _ c.args.cursor.now _ _ _ c.in_err-enter_counted.ensures.place c.in_err-enter_counted.ensures.ticks)

pub returns-in_err-ca : goal.returns-in_err-ca
unfolding authority
returns-in_err-ca g c = takes_err _ _ _ _ _ _ _ _ _ c.from_residual-in_err-ca.ensures.1
    (refuses_inside _ _ _ _ _ _ _ _ _ _ refl c.in_ok-enter_counted.ensures.place c.in_ok-enter_counted.ensures.ticks
    (stops_part _ _ _ _ _ _ _ _ _ refl (refuses_part_in _ _ (λ m. optional boolean_tag (boolean m)) _ _ _ _ _ c.in_ok-enter_counted.ensures.place.mode c.in_err-ca.ensures.fields)))

pub returns-in_err-leave_counted : goal.returns-in_err-leave_counted
unfolding authority
returns-in_err-leave_counted g c = takes_err _ _ _ _ _ _ _ _ _ c.from_residual-in_err-leave_counted.ensures.1
    (refuses_inside _ _ _ _ _ _ _ _ _ _ refl c.in_ok-enter_counted.ensures.place c.in_ok-enter_counted.ensures.ticks
    (stops_behind _ _ _ _ _ _ _ _ _ _ _ _ _ refl (part_in _ _ (λ m. optional boolean_tag (boolean m)) _ _ _ _ _ _ c.in_ok-enter_counted.ensures.place.mode c.in_ok-ca.ensures.fields)
    (stops_done _ _ _ _ _ _ c.in_err-leave_counted.ensures.place c.in_err-leave_counted.ensures.refused)))

pub returns : goal.returns
unfolding authority
returns g c = rw c.unwrap_or.ensures
    (takes_within _ _ _ _ _ _ _ _ _ _ _ refl c.in_ok-enter_counted.ensures.place c.in_ok-enter_counted.ensures.ticks
    (reads_part _ _ _ _ _ _ _ _ _ _ _ _ _ _ refl (part_in _ _ (λ m. optional boolean_tag (boolean m)) _ _ _ _ _ _ c.in_ok-enter_counted.ensures.place.mode c.in_ok-ca.ensures.fields)
    (reads_done _ _ _ _ _ _ refl c.in_ok-leave_counted.ensures.place c.in_ok-leave_counted.ensures.ticks)))
