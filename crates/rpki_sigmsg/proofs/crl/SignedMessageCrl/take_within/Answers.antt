use Rattle.rpki_der.proofs.Reading.{not_ended}
use Rattle.rpki_der.proofs.Counting.{uncounted_one}
use Rattle.rpki_der.proofs.Wholes.{whole_more, whole_none, whole_err, takes_fresh, refuses_fresh}
use Rattle.rpki_sigmsg.specs.Crl.{revocation_list}
use Rattle.rpki_sigmsg.proofs.crl.SignedMessageCrl.take_within.Goals as goal

pub returns-in_err-found : goal.returns-in_err-found
returns-in_err-found g c = whole_err _ _ _ _ _ _ c.from_residual.ensures.1 (whole_none _ _ _ c.new-cursor.result _ c.new-cursor.ensures (refuses_fresh revocation_list _ _ _ _ c.new-cursor.ensures c.in_err-found.ensures.refuses))

pub returns-then-not-end : goal.returns-then-not-end
returns-then-not-end g c = whole_more (revocation_list _) _ _ c.new-cursor.result _ _ c.new-cursor.ensures (takes_fresh revocation_list _ _ _ _ _ c.new-cursor.ensures (uncounted_one _ _ _ _ _ _ _ c.in_ok-found.ensures)) (not_ended c.if-not-end.ensures)
