use Rattle.std.proofs.Common.{sym}
use Rattle.rpki_der.proofs.Counting.{takes_err, takes_so, refuses_so, refuses_convert}
use Rattle.rpki_cert.specs.CsrAttributes.{ca_attributes}
use Rattle.rpki_cert.proofs.csr_attributes.RpkiCaCsrAttributesCsrAttributes.take_from_counted.Goals as goal

pub returns-in_err-requested : goal.returns-in_err-requested
unfolding ca_attributes
returns-in_err-requested g c = takes_err _ _ _ _ _ _ _ _ _ c.from_residual.ensures.1 (refuses_so _ _ _ _ _ _ _ c.in_err-requested.ensures)

pub returns-in-Some : goal.returns-in-Some
unfolding ca_attributes
returns-in-Some g c = takes_so _ _ _ _ _ _ _ _ _ c.in_ok-requested.ensures (sym c.in-Some.ensures)

pub returns-in-None : goal.returns-in-None
unfolding ca_attributes
returns-in-None g c = refuses_convert _ _ _ _ _ _ _ _ c.in_ok-requested.ensures (sym c.in-None.ensures)
