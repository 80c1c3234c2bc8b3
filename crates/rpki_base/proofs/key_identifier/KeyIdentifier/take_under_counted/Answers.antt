use Rattle.std.proofs.Common.{sym, ap, ◌∙◌}
use Rattle.rpki_der.proofs.Counting.{takes_err, takes_so, refuses_so, refuses_convert}
use Rattle.rpki_base.specs.KeyIdentifier.{key_identifier_under, twenty}
use Rattle.rpki_base.proofs.key_identifier.KeyIdentifier.take_under_counted.Goals as goal

pub returns-in_err-octets : goal.returns-in_err-octets
unfolding key_identifier_under
returns-in_err-octets g c = takes_err _ _ _ _ _ _ _ _ _ c.from_residual.ensures.1 (refuses_so _ _ _ _ _ _ _ c.in_err-octets.ensures)

pub returns-in-Some : goal.returns-in-Some
unfolding key_identifier_under
returns-in-Some g c = takes_so _ _ _ _ _ _ _ _ _ c.in_ok-octets.ensures (ap twenty (sym c.deref.ensures.value) ∙ sym c.in-Some.ensures)

pub returns : goal.returns
unfolding key_identifier_under
returns g c = refuses_convert _ _ _ _ _ _ _ _ c.in_ok-octets.ensures (ap twenty (sym c.deref.ensures.value) ∙ sym c.in-None.ensures)
