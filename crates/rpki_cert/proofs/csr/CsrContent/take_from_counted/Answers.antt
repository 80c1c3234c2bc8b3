-- by tools/proofs/answers.py rpki_cert csr CsrContent.take_from_counted Csr request_info enter_counted take_integer_if_counted subject public_key attributes@g.Attributes.CsrAttributes.reads
--     leave_counted
use Rattle.std.proofs.Common.{refl, ◌∙◌}
use Rattle.rpki_cert.specs.Csr.{request_info}
use Rattle.rpki_der.proofs.Counting.{reads_done, reads_first, refuses_inside, refuses_within, stops_done, stops_first, stops_later, takes_err, takes_within}
use Rattle.rpki_der.proofs.Modes.{refuses_in, takes_in}
use Rattle.rpki_cert.proofs.csr.CsrContent.take_from_counted.Goals as goal

pub returns-in_err-enter_counted : goal.returns-in_err-enter_counted
unfolding request_info
returns-in_err-enter_counted g c = takes_err _ _ _ _ _ _ _ _ _ c.from_residual.ensures.1
    (refuses_within _ _ _ c.args.cursor.now _ _ _ c.in_err-enter_counted.ensures.place c.in_err-enter_counted.ensures.ticks)

pub returns-in_err-take_integer_if_counted : goal.returns-in_err-take_integer_if_counted
unfolding request_info
returns-in_err-take_integer_if_counted g c = takes_err _ _ _ _ _ _ _ _ _ c.from_residual-in_err-take_integer_if_counted.ensures.1
    (refuses_inside _ _ _ _ _ _ _ _ _ _ refl c.in_ok-enter_counted.ensures.place c.in_ok-enter_counted.ensures.ticks
    (stops_first _ _ _ _ _ _ _ _ refl c.in_err-take_integer_if_counted.ensures))

pub returns-in_err-subject : goal.returns-in_err-subject
unfolding request_info
returns-in_err-subject g c = takes_err _ _ _ _ _ _ _ _ _ c.from_residual-in_err-subject.ensures.1
    (refuses_inside _ _ _ _ _ _ _ _ _ _ refl c.in_ok-enter_counted.ensures.place c.in_ok-enter_counted.ensures.ticks
    (stops_later _ _ _ _ _ _ _ _ _ _ _ _ refl c.in_ok-take_integer_if_counted.ensures
    (stops_first _ _ _ _ _ _ _ _ refl c.in_err-subject.ensures)))

pub returns-in_err-public_key : goal.returns-in_err-public_key
unfolding request_info
returns-in_err-public_key g c = takes_err _ _ _ _ _ _ _ _ _ c.from_residual-in_err-public_key.ensures.1
    (refuses_inside _ _ _ _ _ _ _ _ _ _ refl c.in_ok-enter_counted.ensures.place c.in_ok-enter_counted.ensures.ticks
    (stops_later _ _ _ _ _ _ _ _ _ _ _ _ refl c.in_ok-take_integer_if_counted.ensures
    (stops_later _ _ _ _ _ _ _ _ _ _ _ _ refl c.in_ok-subject.ensures
    (stops_first _ _ _ _ _ _ _ _ refl c.in_err-public_key.ensures))))

pub returns-in_err-attributes : goal.returns-in_err-attributes
unfolding request_info
returns-in_err-attributes g c = takes_err _ _ _ _ _ _ _ _ _ c.from_residual-in_err-attributes.ensures.1
    (refuses_inside _ _ _ _ _ _ _ _ _ _ refl c.in_ok-enter_counted.ensures.place c.in_ok-enter_counted.ensures.ticks
    (stops_later _ _ _ _ _ _ _ _ _ _ _ _ refl c.in_ok-take_integer_if_counted.ensures
    (stops_later _ _ _ _ _ _ _ _ _ _ _ _ refl c.in_ok-subject.ensures
    (stops_later _ _ _ _ _ _ _ _ _ _ _ _ refl c.in_ok-public_key.ensures
    (stops_first _ _ _ _ _ _ _ _ refl
    (refuses_in _ g.Attributes.CsrAttributes.reads _ _ _ _ _ (c.in_ok-public_key.ensures.takes.mode ∙ c.in_ok-subject.ensures.takes.mode ∙ c.in_ok-take_integer_if_counted.ensures.takes.mode
    ∙ c.in_ok-enter_counted.ensures.place.mode) c.in_err-attributes.ensures))))))

pub returns-in_err-leave_counted : goal.returns-in_err-leave_counted
unfolding request_info
returns-in_err-leave_counted g c = takes_err _ _ _ _ _ _ _ _ _ c.from_residual-in_err-leave_counted.ensures.1
    (refuses_inside _ _ _ _ _ _ _ _ _ _ refl c.in_ok-enter_counted.ensures.place c.in_ok-enter_counted.ensures.ticks
    (stops_later _ _ _ _ _ _ _ _ _ _ _ _ refl c.in_ok-take_integer_if_counted.ensures
    (stops_later _ _ _ _ _ _ _ _ _ _ _ _ refl c.in_ok-subject.ensures
    (stops_later _ _ _ _ _ _ _ _ _ _ _ _ refl c.in_ok-public_key.ensures
    (stops_later _ _ _ _ _ _ _ _ _ _ _ _ refl
    (takes_in _ g.Attributes.CsrAttributes.reads _ _ _ _ _ _ (c.in_ok-public_key.ensures.takes.mode ∙ c.in_ok-subject.ensures.takes.mode ∙ c.in_ok-take_integer_if_counted.ensures.takes.mode
    ∙ c.in_ok-enter_counted.ensures.place.mode) c.in_ok-attributes.ensures)
    (stops_done _ _ _ _ _ _ c.in_err-leave_counted.ensures.place c.in_err-leave_counted.ensures.refused))))))

pub returns : goal.returns
unfolding request_info
returns g c = takes_within _ _ _ _ _ _ _ _ _ _ _ refl c.in_ok-enter_counted.ensures.place c.in_ok-enter_counted.ensures.ticks
    (reads_first _ _ _ _ _ _ _ _ _ _ _ _ _ refl c.in_ok-take_integer_if_counted.ensures
    (reads_first _ _ _ _ _ _ _ _ _ _ _ _ _ refl c.in_ok-subject.ensures
    (reads_first _ _ _ _ _ _ _ _ _ _ _ _ _ refl c.in_ok-public_key.ensures
    (reads_first _ _ _ _ _ _ _ _ _ _ _ _ _ refl
    (takes_in _ g.Attributes.CsrAttributes.reads _ _ _ _ _ _ (c.in_ok-public_key.ensures.takes.mode ∙ c.in_ok-subject.ensures.takes.mode ∙ c.in_ok-take_integer_if_counted.ensures.takes.mode
    ∙ c.in_ok-enter_counted.ensures.place.mode) c.in_ok-attributes.ensures)
    (reads_done _ _ _ _ _ _ refl c.in_ok-leave_counted.ensures.place c.in_ok-leave_counted.ensures.ticks)))))
