use Rattle.std.proofs.Common.{refl}
use Rattle.rpki_der.proofs.Reading.{not_ended}
use Rattle.rpki_der.proofs.Leftovers.{takes_rest_err}
use Rattle.rpki_idcert.proofs.Fields.{path_ended, path_refused, path_read}
use Rattle.rpki_idcert.proofs.extensions.leave_path_length.Goals as goal

pub returns-then-end : goal.returns-then-end
returns-then-end g c = path_ended _ _ _ _ _ (c.if-end.ensures.0 refl) c.leave_counted.ensures.place c.leave_counted.ensures.ticks

pub returns-in_err-take_u64_counted : goal.returns-in_err-take_u64_counted
returns-in_err-take_u64_counted g c = takes_rest_err _ _ _ _ _ _ _ _ _ _ c.from_residual.ensures.1 (path_refused _ _ _ _ (not_ended c.if-end.ensures) c.in_err-take_u64_counted.ensures)

pub returns : goal.returns
returns g c = path_read _ _ _ _ _ _ _ _ (not_ended c.if-end.ensures) c.in_ok-take_u64_counted.ensures c.leave_counted-2.ensures.place c.leave_counted-2.ensures.ticks c.leave_counted-2.ensures.refused
