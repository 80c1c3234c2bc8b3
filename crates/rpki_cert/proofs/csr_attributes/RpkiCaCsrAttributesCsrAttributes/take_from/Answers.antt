use Rattle.std.proofs.Common.{sym}
use Rattle.rpki_der.proofs.Wholes.{whole_err}
use Rattle.rpki_cert.specs.CsrAttributes.{ca_attributes}
use Rattle.rpki_cert.proofs.Captured.{whole_some, whole_no, whole_refused}
use Rattle.rpki_cert.proofs.csr_attributes.RpkiCaCsrAttributesCsrAttributes.take_from.Goals as goal

pub returns-in_err-requested : goal.returns-in_err-requested
unfolding ca_attributes
returns-in_err-requested c = whole_err _ _ _ _ _ _ c.from_residual.ensures.1 (whole_refused _ _ _ _ _ c.in_err-requested.ensures)

pub returns-in-Some : goal.returns-in-Some
unfolding ca_attributes
returns-in-Some c = whole_some _ _ _ _ _ _ c.in_ok-requested.ensures (sym c.in-Some.ensures)

pub returns-in-None : goal.returns-in-None
unfolding ca_attributes
returns-in-None c = whole_no _ _ _ _ _ c.in_ok-requested.ensures (sym c.in-None.ensures)
