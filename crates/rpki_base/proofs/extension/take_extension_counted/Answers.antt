-- by tools/proofs/answers.py rpki_base extension take_extension_counted:value Extension extension enter_counted identifier
--     '?critical:fields@rpki_der.specs.Grammar.optional+rpki_der.specs.Tags.boolean_tag+rpki_der.specs.Boolean.boolean=(λ m. optional boolean_tag (boolean m))'
--     value@rpki_der.specs.OctetString.octet_string=octet_string leave_counted =unwrap_or +within:16@rpki_base.proofs.Extensions.held_within=held_within
use Rattle.std.proofs.Common.{refl, ◌∙◌}
use Rattle.rpki_base.proofs.Extensions.{held_within}
use Rattle.rpki_base.specs.Extension.{extension}
use Rattle.rpki_der.proofs.Counting.{reads_done, reads_first, reads_part, refuses_inside, refuses_within, stops_behind, stops_done, stops_first, stops_later, stops_part, takes_err, takes_within}
use Rattle.rpki_der.proofs.Modes.{part_in, refuses_in, refuses_part_in, takes_in}
use Rattle.rpki_der.specs.Boolean.{boolean}
use Rattle.rpki_der.specs.Grammar.{optional}
use Rattle.rpki_der.specs.OctetString.{octet_string}
use Rattle.rpki_der.specs.Tags.{boolean_tag}
use Rattle.rpki_base.proofs.extension.take_extension_counted.Goals as goal

pub returns-in_err-enter_counted-clause-value : goal.returns-in_err-enter_counted-clause-value
unfolding extension
returns-in_err-enter_counted-clause-value g c = takes_err _ _ _ _ _ _ _ _ _ c.from_residual.ensures.1
    (refuses_within _ _ _ c.args.cursor.now _ _ _ c.in_err-enter_counted.ensures.place c.in_err-enter_counted.ensures.ticks)

pub returns-in_err-identifier-clause-value : goal.returns-in_err-identifier-clause-value
unfolding extension
returns-in_err-identifier-clause-value g c = takes_err _ _ _ _ _ _ _ _ _ c.from_residual-in_err-identifier.ensures.1
    (refuses_inside _ _ _ _ _ _ _ _ _ _ refl c.in_ok-enter_counted.ensures.place c.in_ok-enter_counted.ensures.ticks
    (stops_first _ _ _ _ _ _ _ _ refl c.in_err-identifier.ensures))

pub returns-in_err-critical-clause-value : goal.returns-in_err-critical-clause-value
unfolding extension
returns-in_err-critical-clause-value g c = takes_err _ _ _ _ _ _ _ _ _ c.from_residual-in_err-critical.ensures.1
    (refuses_inside _ _ _ _ _ _ _ _ _ _ refl c.in_ok-enter_counted.ensures.place c.in_ok-enter_counted.ensures.ticks
    (stops_later _ _ _ _ _ _ _ _ _ _ _ _ refl c.in_ok-identifier.ensures
    (stops_part _ _ _ _ _ _ _ _ _ refl
    (refuses_part_in _ _ (λ m. optional boolean_tag (boolean m)) _ _ _ _ _ (c.in_ok-identifier.ensures.takes.mode ∙ c.in_ok-enter_counted.ensures.place.mode) c.in_err-critical.ensures.fields))))

pub returns-in_err-value-clause-value : goal.returns-in_err-value-clause-value
unfolding extension
returns-in_err-value-clause-value g c = takes_err _ _ _ _ _ _ _ _ _ c.from_residual-in_err-value.ensures.1
    (refuses_inside _ _ _ _ _ _ _ _ _ _ refl c.in_ok-enter_counted.ensures.place c.in_ok-enter_counted.ensures.ticks
    (stops_later _ _ _ _ _ _ _ _ _ _ _ _ refl c.in_ok-identifier.ensures
    (stops_behind _ _ _ _ _ _ _ _ _ _ _ _ _ refl
    (part_in _ _ (λ m. optional boolean_tag (boolean m)) _ _ _ _ _ _ (c.in_ok-identifier.ensures.takes.mode ∙ c.in_ok-enter_counted.ensures.place.mode) c.in_ok-critical.ensures.fields)
    (stops_first _ _ _ _ _ _ _ _ refl
    (refuses_in _ octet_string _ _ _ _ _ (c.in_ok-critical.ensures.fields.takes.mode ∙ c.in_ok-identifier.ensures.takes.mode ∙ c.in_ok-enter_counted.ensures.place.mode) c.in_err-value.ensures)))))

pub returns-in_err-leave_counted-clause-value : goal.returns-in_err-leave_counted-clause-value
unfolding extension
returns-in_err-leave_counted-clause-value g c = takes_err _ _ _ _ _ _ _ _ _ c.from_residual-in_err-leave_counted.ensures.1
    (refuses_inside _ _ _ _ _ _ _ _ _ _ refl c.in_ok-enter_counted.ensures.place c.in_ok-enter_counted.ensures.ticks
    (stops_later _ _ _ _ _ _ _ _ _ _ _ _ refl c.in_ok-identifier.ensures
    (stops_behind _ _ _ _ _ _ _ _ _ _ _ _ _ refl
    (part_in _ _ (λ m. optional boolean_tag (boolean m)) _ _ _ _ _ _ (c.in_ok-identifier.ensures.takes.mode ∙ c.in_ok-enter_counted.ensures.place.mode) c.in_ok-critical.ensures.fields)
    (stops_later _ _ _ _ _ _ _ _ _ _ _ _ refl
    (takes_in _ octet_string _ _ _ _ _ _ (c.in_ok-critical.ensures.fields.takes.mode ∙ c.in_ok-identifier.ensures.takes.mode ∙ c.in_ok-enter_counted.ensures.place.mode) c.in_ok-value.ensures)
    (stops_done _ _ _ _ _ _ c.in_err-leave_counted.ensures.place c.in_err-leave_counted.ensures.refused)))))

pub returns-clause-value : goal.returns-clause-value
unfolding extension
returns-clause-value g c = rw c.unwrap_or.ensures
    (takes_within _ _ _ _ _ _ _ _ _ _ _ refl c.in_ok-enter_counted.ensures.place c.in_ok-enter_counted.ensures.ticks
    (reads_first _ _ _ _ _ _ _ _ _ _ _ _ _ refl c.in_ok-identifier.ensures
    (reads_part _ _ _ _ _ _ _ _ _ _ _ _ _ _ refl
    (part_in _ _ (λ m. optional boolean_tag (boolean m)) _ _ _ _ _ _ (c.in_ok-identifier.ensures.takes.mode ∙ c.in_ok-enter_counted.ensures.place.mode) c.in_ok-critical.ensures.fields)
    (reads_first _ _ _ _ _ _ _ _ _ _ _ _ _ refl
    (takes_in _ octet_string _ _ _ _ _ _ (c.in_ok-critical.ensures.fields.takes.mode ∙ c.in_ok-identifier.ensures.takes.mode ∙ c.in_ok-enter_counted.ensures.place.mode) c.in_ok-value.ensures)
    (reads_done _ _ _ _ _ _ refl c.in_ok-leave_counted.ensures.place c.in_ok-leave_counted.ensures.ticks)))))

pub returns-clause-within : goal.returns-clause-within
returns-clause-within g c = held_within _ _ _ _ _ _ _ _ _ _ _ _ _ _ _ _ c.in_ok-enter_counted.ensures.place c.in_ok-identifier.ensures c.in_ok-critical.ensures.fields c.in_ok-value.ensures
    c.in_ok-leave_counted.ensures.place
