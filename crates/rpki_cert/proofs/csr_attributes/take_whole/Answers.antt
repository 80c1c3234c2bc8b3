use Rattle.rpki_der.proofs.Reading.{not_ended}
use Rattle.rpki_der.proofs.Wholes.{whole_more, whole_none, whole_err, takes_fresh, refuses_fresh}
use Rattle.rpki_cert.specs.CsrAttributes.{attributes}
use Rattle.rpki_cert.proofs.csr_attributes.take_whole.Goals as goal

pub returns-in_err-found : goal.returns-in_err-found
returns-in_err-found c = whole_err _ _ _ _ _ _ c.from_residual.ensures.1 (whole_none _ _ _ c.new-cursor.result _ c.new-cursor.ensures (refuses_fresh attributes _ _ _ _ c.new-cursor.ensures c.in_err-found.ensures))

pub returns-then-not-end : goal.returns-then-not-end
returns-then-not-end c = whole_more (attributes _) _ _ c.new-cursor.result _ _ c.new-cursor.ensures (takes_fresh attributes _ _ _ _ _ c.new-cursor.ensures c.in_ok-found.ensures) (not_ended c.if-not-end.ensures)
