-- by tools/proofs/answers.py rpki_sigmsg reference SignedMessageRef.take_from_counted Message viewed_message enter_counted take_oid_if_counted
--     'view@rpki_der.specs.Grammar.wrapped+rpki_der.specs.Tags.context+rpki_sigmsg.specs.Message.signed_parts=(λ m. wrapped (context 0) (signed_parts m))' leave_counted
use Rattle.std.proofs.Common.{refl, ◌∙◌}
use Rattle.rpki_der.proofs.Counting.{reads_done, reads_first, refuses_inside, refuses_within, stops_done, stops_first, stops_later, takes_err, takes_within}
use Rattle.rpki_der.proofs.Modes.{refuses_in, takes_in}
use Rattle.rpki_der.specs.Grammar.{wrapped}
use Rattle.rpki_der.specs.Tags.{context}
use Rattle.rpki_sigmsg.specs.Message.{signed_parts, viewed_message}
use Rattle.rpki_sigmsg.proofs.reference.SignedMessageRef.take_from_counted.Goals as goal

pub returns-in_err-enter_counted : goal.returns-in_err-enter_counted
unfolding viewed_message
returns-in_err-enter_counted g c = takes_err _ _ _ _ _ _ _ _ _ c.from_residual.ensures.1
    (refuses_within _ _ _ c.args.cursor.now _ _ _ c.in_err-enter_counted.ensures.place c.in_err-enter_counted.ensures.ticks)

pub returns-in_err-take_oid_if_counted : goal.returns-in_err-take_oid_if_counted
unfolding viewed_message
returns-in_err-take_oid_if_counted g c = takes_err _ _ _ _ _ _ _ _ _ c.from_residual-in_err-take_oid_if_counted.ensures.1
    (refuses_inside _ _ _ _ _ _ _ _ _ _ refl c.in_ok-enter_counted.ensures.place c.in_ok-enter_counted.ensures.ticks
    (stops_first _ _ _ _ _ _ _ _ refl c.in_err-take_oid_if_counted.ensures))

pub returns-in_err-view : goal.returns-in_err-view
unfolding viewed_message
returns-in_err-view g c = takes_err _ _ _ _ _ _ _ _ _ c.from_residual-in_err-view.ensures.1
    (refuses_inside _ _ _ _ _ _ _ _ _ _ refl c.in_ok-enter_counted.ensures.place c.in_ok-enter_counted.ensures.ticks
    (stops_later _ _ _ _ _ _ _ _ _ _ _ _ refl c.in_ok-take_oid_if_counted.ensures
    (stops_first _ _ _ _ _ _ _ _ refl
    (refuses_in _ (λ m. wrapped (context 0) (signed_parts m)) _ _ _ _ _ (c.in_ok-take_oid_if_counted.ensures.takes.mode ∙ c.in_ok-enter_counted.ensures.place.mode) c.in_err-view.ensures))))

pub returns-in_err-leave_counted : goal.returns-in_err-leave_counted
unfolding viewed_message
returns-in_err-leave_counted g c = takes_err _ _ _ _ _ _ _ _ _ c.from_residual-in_err-leave_counted.ensures.1
    (refuses_inside _ _ _ _ _ _ _ _ _ _ refl c.in_ok-enter_counted.ensures.place c.in_ok-enter_counted.ensures.ticks
    (stops_later _ _ _ _ _ _ _ _ _ _ _ _ refl c.in_ok-take_oid_if_counted.ensures
    (stops_later _ _ _ _ _ _ _ _ _ _ _ _ refl
    (takes_in _ (λ m. wrapped (context 0) (signed_parts m)) _ _ _ _ _ _ (c.in_ok-take_oid_if_counted.ensures.takes.mode ∙ c.in_ok-enter_counted.ensures.place.mode) c.in_ok-view.ensures)
    (stops_done _ _ _ _ _ _ c.in_err-leave_counted.ensures.place c.in_err-leave_counted.ensures.refused))))

pub returns : goal.returns
unfolding viewed_message
returns g c = takes_within _ _ _ _ _ _ _ _ _ _ _ refl c.in_ok-enter_counted.ensures.place c.in_ok-enter_counted.ensures.ticks
    (reads_first _ _ _ _ _ _ _ _ _ _ _ _ _ refl c.in_ok-take_oid_if_counted.ensures
    (reads_first _ _ _ _ _ _ _ _ _ _ _ _ _ refl
    (takes_in _ (λ m. wrapped (context 0) (signed_parts m)) _ _ _ _ _ _ (c.in_ok-take_oid_if_counted.ensures.takes.mode ∙ c.in_ok-enter_counted.ensures.place.mode) c.in_ok-view.ensures)
    (reads_done _ _ _ _ _ _ refl c.in_ok-leave_counted.ensures.place c.in_ok-leave_counted.ensures.ticks)))
