use Rattle.rpki_der.specs.OctetString.{octet_string}
use Rattle.rpki_der.proofs.Reading.{not_ended}
use Rattle.rpki_der.proofs.Wholes.{whole_more, whole_none, whole_memory, whole_err, takes_fresh, refuses_fresh}
use Rattle.rpki_der.proofs.leaf.OctetString.take.Goals as goal

pub returns-in_err-joined : goal.returns-in_err-joined
returns-in_err-joined c = whole_err _ _ _ _ _ _ c.from_residual.ensures.1 (whole_none _ _ _ c.new-cursor.result _ c.new-cursor.ensures (refuses_fresh octet_string _ _ c.new-cursor.result _ c.new-cursor.ensures c.in_err-joined.ensures))

pub returns-then-not-end : goal.returns-then-not-end
returns-then-not-end c = whole_more (octet_string c.args.mode) _ _ c.new-cursor.result _ _ c.new-cursor.ensures (takes_fresh octet_string _ _ c.new-cursor.result _ _ c.new-cursor.ensures c.in_ok-joined.ensures) (not_ended c.if-not-end.ensures)

pub returns-in_err-octets : goal.returns-in_err-octets
returns-in_err-octets c = whole_err _ _ _ _ _ _ c.from_residual-in_err-octets.ensures.1 (whole_memory _ _ _)
