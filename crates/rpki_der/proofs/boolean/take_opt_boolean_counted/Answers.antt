use Rattle.std.proofs.Common.{◌≡◌, None, Some, sym, ap, ◌∙◌}
use Rattle.rpki_der.proofs.Counting.{takes_part_err}
use Rattle.rpki_der.proofs.Items.{takes_optional_absent, takes_optional, refuses_converted, refuses_optional_field, absent_as, takes_as, refuses_as, refuses_field_as, optional_as_err}
use Rattle.rpki_der.specs.OptionalBoolean.{boolean_shown}
use Rattle.rpki_der.proofs.Booleans.{boolean_converts}
use Rattle.rpki_der.proofs.boolean.take_opt_boolean_counted.Goals as goal

pub returns-in_err-take_opt_if_counted-clause-fields : goal.returns-in_err-take_opt_if_counted-clause-fields
returns-in_err-take_opt_if_counted-clause-fields g c = takes_part_err _ _ _ _ _ _ _ _ _ _ c.from_residual.ensures.1 (refuses_optional_field _ _ _ _ _ _ _ c.in_err-take_opt_if_counted.ensures.value)

pub returns-in_err-take_opt_if_counted-clause-next : goal.returns-in_err-take_opt_if_counted-clause-next
returns-in_err-take_opt_if_counted-clause-next g c = optional_as_err _ _ _ _ _ _ _ c.from_residual.ensures.1 (refuses_field_as _ _ _ _ _ _ _ c.in_err-take_opt_if_counted.ensures.value)

pub returns-in-None-clause-fields : goal.returns-in-None-clause-fields
returns-in-None-clause-fields g c = takes_optional_absent _ _ _ _ _ _ _ (rw c.in-None.is at c.in_ok-take_opt_if_counted.ensures.value)

pub returns-in-None-clause-next : goal.returns-in-None-clause-next
returns-in-None-clause-next g c = absent_as _ _ _ _ _ (rw c.in-None.is at c.in_ok-take_opt_if_counted.ensures.value)

pub returns-in-Some-shown-clause-fields : goal.returns-in-Some-shown-clause-fields
returns-in-Some-shown-clause-fields g c =
    let said : boolean_shown c.args.cursor.now.mode c.in-Some.item ≡ Some c.in-Some-shown.value =
    ap (λ m. boolean_shown m c.in-Some.item) (sym c.mode-mode.ensures) ∙ sym c.shown.ensures ∙ c.in-Some-shown.is in
    takes_optional _ _ _ _ _ _ _ _ _ _ (boolean_converts _) (rw c.in-Some.is at c.in_ok-take_opt_if_counted.ensures.value) said

pub returns-in-Some-shown-clause-next : goal.returns-in-Some-shown-clause-next
returns-in-Some-shown-clause-next g c =
    let said : boolean_shown c.args.cursor.now.mode c.in-Some.item ≡ Some c.in-Some-shown.value =
    ap (λ m. boolean_shown m c.in-Some.item) (sym c.mode-mode.ensures) ∙ sym c.shown.ensures ∙ c.in-Some-shown.is in
    takes_as _ _ _ _ _ _ _ _ _ _ (boolean_converts _) (rw c.in-Some.is at c.in_ok-take_opt_if_counted.ensures.value) said

pub returns-in-None-shown-clause-fields : goal.returns-in-None-shown-clause-fields
returns-in-None-shown-clause-fields g c =
    let said : boolean_shown c.args.cursor.now.mode c.in-Some.item ≡ None =
    ap (λ m. boolean_shown m c.in-Some.item) (sym c.mode-mode.ensures) ∙ sym c.shown.ensures ∙ c.in-None-shown.is in
    refuses_converted _ _ _ _ _ _ _ _ _ (boolean_converts _) (rw c.in-Some.is at c.in_ok-take_opt_if_counted.ensures.value) said

pub returns-in-None-shown-clause-next : goal.returns-in-None-shown-clause-next
returns-in-None-shown-clause-next g c =
    let said : boolean_shown c.args.cursor.now.mode c.in-Some.item ≡ None =
    ap (λ m. boolean_shown m c.in-Some.item) (sym c.mode-mode.ensures) ∙ sym c.shown.ensures ∙ c.in-None-shown.is in
    refuses_as _ _ _ _ _ _ _ _ _ (boolean_converts _) (rw c.in-Some.is at c.in_ok-take_opt_if_counted.ensures.value) said
