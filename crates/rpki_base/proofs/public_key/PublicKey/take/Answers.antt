use Rattle.rpki_base.specs.PublicKey.{public_key}
use Rattle.rpki_der.proofs.Reading.{not_ended}
use Rattle.rpki_der.proofs.Wholes.{whole_more, whole_none, whole_err}
use Rattle.rpki_base.proofs.public_key.PublicKey.take.Goals as goal

pub returns-in_err-key : goal.returns-in_err-key
returns-in_err-key c = whole_err _ _ _ _ _ _ c.from_residual.ensures.1 (whole_none _ _ _ c.new-cursor.result _ c.new-cursor.ensures c.in_err-key.ensures)

pub returns-then-not-end : goal.returns-then-not-end
returns-then-not-end c = whole_more public_key _ _ c.new-cursor.result _ _ c.new-cursor.ensures c.in_ok-key.ensures (not_ended c.if-not-end.ensures)
