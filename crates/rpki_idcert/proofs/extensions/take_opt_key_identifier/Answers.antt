use Rattle.std.proofs.Common.{sym, ◌∙◌}
use Rattle.rpki_der.proofs.Counting.{takes_part_err}
use Rattle.rpki_der.proofs.Items.{takes_optional_absent, takes_optional, refuses_converted, refuses_optional_field}
use Rattle.rpki_idcert.proofs.Fields.{key_converts}
use Rattle.rpki_idcert.proofs.extensions.take_opt_key_identifier.Goals as goal

pub returns-in_err-take_opt_if_counted : goal.returns-in_err-take_opt_if_counted
returns-in_err-take_opt_if_counted g c = takes_part_err _ _ _ _ _ _ _ _ _ _ c.from_residual.ensures.1 (refuses_optional_field _ _ _ _ _ _ _ c.in_err-take_opt_if_counted.ensures.value)

pub returns-in-None : goal.returns-in-None
returns-in-None g c = takes_optional_absent _ _ _ _ _ _ _ (rw c.in-None.is at c.in_ok-take_opt_if_counted.ensures.value)

pub returns-in-Some-key_shown : goal.returns-in-Some-key_shown
returns-in-Some-key_shown g c =
    takes_optional _ _ _ _ _ _ _ _ _ _ key_converts (rw c.in-Some.is at c.in_ok-take_opt_if_counted.ensures.value) (sym c.key_shown.ensures ∙ c.in-Some-key_shown.is)

pub returns-in-None-key_shown : goal.returns-in-None-key_shown
returns-in-None-key_shown g c =
    refuses_converted _ _ _ _ _ _ _ _ _ key_converts (rw c.in-Some.is at c.in_ok-take_opt_if_counted.ensures.value) (sym c.key_shown.ensures ∙ c.in-None-key_shown.is)
