use Rattle.std.proofs.Common.{sym}
use Rattle.rpki_der.proofs.Counting.{takes_part_err}
use Rattle.rpki_der.proofs.Items.{takes_optional_absent, takes_optional, refuses_converted, refuses_optional_field, absent_as, takes_as, refuses_as, refuses_field_as, optional_as_err}
use Rattle.rpki_der.proofs.Nulls.{null_converts}
use Rattle.rpki_der.proofs.null.take_opt_null_counted.Goals as goal

pub returns-in-None-clause-fields : goal.returns-in-None-clause-fields
returns-in-None-clause-fields g c = takes_optional_absent _ _ _ _ _ _ _ (rw c.in-None.is at c.in_ok-take_opt_if_counted.ensures.value)

pub returns-in-None-clause-next : goal.returns-in-None-clause-next
returns-in-None-clause-next g c = absent_as _ _ _ _ _ (rw c.in-None.is at c.in_ok-take_opt_if_counted.ensures.value)

pub returns-then-is_null-clause-fields : goal.returns-then-is_null-clause-fields
returns-then-is_null-clause-fields g c = takes_optional _ _ _ _ _ _ _ _ _ _ null_converts (rw c.in-Some.is at c.in_ok-take_opt_if_counted.ensures.value) (sym c.if-is_null.ensures)

pub returns-then-is_null-clause-next : goal.returns-then-is_null-clause-next
returns-then-is_null-clause-next g c = takes_as _ _ _ _ _ _ _ _ _ _ null_converts (rw c.in-Some.is at c.in_ok-take_opt_if_counted.ensures.value) (sym c.if-is_null.ensures)

pub returns-else-is_null-clause-fields : goal.returns-else-is_null-clause-fields
returns-else-is_null-clause-fields g c = refuses_converted _ _ _ _ _ _ _ _ _ null_converts (rw c.in-Some.is at c.in_ok-take_opt_if_counted.ensures.value) (sym c.if-is_null.ensures)

pub returns-else-is_null-clause-next : goal.returns-else-is_null-clause-next
returns-else-is_null-clause-next g c = refuses_as _ _ _ _ _ _ _ _ _ null_converts (rw c.in-Some.is at c.in_ok-take_opt_if_counted.ensures.value) (sym c.if-is_null.ensures)

pub returns-in_err-take_opt_if_counted-clause-fields : goal.returns-in_err-take_opt_if_counted-clause-fields
returns-in_err-take_opt_if_counted-clause-fields g c = takes_part_err _ _ _ _ _ _ _ _ _ _ c.from_residual.ensures.1 (refuses_optional_field _ _ _ _ _ _ _ c.in_err-take_opt_if_counted.ensures.value)

pub returns-in_err-take_opt_if_counted-clause-next : goal.returns-in_err-take_opt_if_counted-clause-next
returns-in_err-take_opt_if_counted-clause-next g c = optional_as_err _ _ _ _ _ _ _ c.from_residual.ensures.1 (refuses_field_as _ _ _ _ _ _ _ c.in_err-take_opt_if_counted.ensures.value)
