-- by tools/proofs/answers.py rpki_sigmsg content take_encapsulated_content Message encapsulated_content enter_counted take_oid_if_counted
--     'content@rpki_der.specs.Grammar.wrapped+rpki_der.specs.Tags.context+rpki_der.specs.Held.with_octets+rpki_der.specs.OctetString.octet_string=(λ m. wrapped (context 0) (with_octets (octet_string
--     m)))' leave_counted
use Rattle.std.proofs.Common.{refl, ◌∙◌}
use Rattle.rpki_der.proofs.Counting.{reads_done, reads_first, refuses_inside, refuses_within, stops_done, stops_first, stops_later, takes_err, takes_within}
use Rattle.rpki_der.proofs.Modes.{refuses_in, takes_in}
use Rattle.rpki_der.specs.Grammar.{wrapped}
use Rattle.rpki_der.specs.Held.{with_octets}
use Rattle.rpki_der.specs.OctetString.{octet_string}
use Rattle.rpki_der.specs.Tags.{context}
use Rattle.rpki_sigmsg.specs.Message.{encapsulated_content}
use Rattle.rpki_sigmsg.proofs.content.take_encapsulated_content.Goals as goal

pub returns-in_err-enter_counted : goal.returns-in_err-enter_counted
unfolding encapsulated_content
returns-in_err-enter_counted g c = takes_err _ _ _ _ _ _ _ _ _ c.from_residual.ensures.1
    (refuses_within _ _ _ c.args.cursor.now _ _ _ c.in_err-enter_counted.ensures.place c.in_err-enter_counted.ensures.ticks)

pub returns-in_err-take_oid_if_counted : goal.returns-in_err-take_oid_if_counted
unfolding encapsulated_content
returns-in_err-take_oid_if_counted g c = takes_err _ _ _ _ _ _ _ _ _ c.from_residual-in_err-take_oid_if_counted.ensures.1
    (refuses_inside _ _ _ _ _ _ _ _ _ _ refl c.in_ok-enter_counted.ensures.place c.in_ok-enter_counted.ensures.ticks
    (stops_first _ _ _ _ _ _ _ _ refl c.in_err-take_oid_if_counted.ensures))

pub returns-in_err-content : goal.returns-in_err-content
unfolding encapsulated_content
returns-in_err-content g c = takes_err _ _ _ _ _ _ _ _ _ c.from_residual-in_err-content.ensures.1
    (refuses_inside _ _ _ _ _ _ _ _ _ _ refl c.in_ok-enter_counted.ensures.place c.in_ok-enter_counted.ensures.ticks
    (stops_later _ _ _ _ _ _ _ _ _ _ _ _ refl c.in_ok-take_oid_if_counted.ensures
    (stops_first _ _ _ _ _ _ _ _ refl
    (refuses_in _ (λ m. wrapped (context 0) (with_octets (octet_string m))) _ _ _ _ _ (c.in_ok-take_oid_if_counted.ensures.takes.mode ∙ c.in_ok-enter_counted.ensures.place.mode)
    c.in_err-content.ensures))))

pub returns-in_err-leave_counted : goal.returns-in_err-leave_counted
unfolding encapsulated_content
returns-in_err-leave_counted g c = takes_err _ _ _ _ _ _ _ _ _ c.from_residual-in_err-leave_counted.ensures.1
    (refuses_inside _ _ _ _ _ _ _ _ _ _ refl c.in_ok-enter_counted.ensures.place c.in_ok-enter_counted.ensures.ticks
    (stops_later _ _ _ _ _ _ _ _ _ _ _ _ refl c.in_ok-take_oid_if_counted.ensures
    (stops_later _ _ _ _ _ _ _ _ _ _ _ _ refl
    (takes_in _ (λ m. wrapped (context 0) (with_octets (octet_string m))) _ _ _ _ _ _ (c.in_ok-take_oid_if_counted.ensures.takes.mode ∙ c.in_ok-enter_counted.ensures.place.mode)
    c.in_ok-content.ensures)
    (stops_done _ _ _ _ _ _ c.in_err-leave_counted.ensures.place c.in_err-leave_counted.ensures.refused))))

pub returns : goal.returns
unfolding encapsulated_content
returns g c = takes_within _ _ _ _ _ _ _ _ _ _ _ refl c.in_ok-enter_counted.ensures.place c.in_ok-enter_counted.ensures.ticks
    (reads_first _ _ _ _ _ _ _ _ _ _ _ _ _ refl c.in_ok-take_oid_if_counted.ensures
    (reads_first _ _ _ _ _ _ _ _ _ _ _ _ _ refl
    (takes_in _ (λ m. wrapped (context 0) (with_octets (octet_string m))) _ _ _ _ _ _ (c.in_ok-take_oid_if_counted.ensures.takes.mode ∙ c.in_ok-enter_counted.ensures.place.mode)
    c.in_ok-content.ensures)
    (reads_done _ _ _ _ _ _ refl c.in_ok-leave_counted.ensures.place c.in_ok-leave_counted.ensures.ticks)))
