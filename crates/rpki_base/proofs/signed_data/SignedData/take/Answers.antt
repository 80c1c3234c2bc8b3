use Rattle.rpki_base.specs.SignedData.{signed_data}
use Rattle.rpki_der.proofs.Reading.{not_ended}
use Rattle.rpki_der.proofs.Wholes.{whole_more, whole_none, whole_err, takes_fresh, refuses_fresh}
use Rattle.rpki_base.proofs.signed_data.SignedData.take.Goals as goal

pub returns-in_err-signed : goal.returns-in_err-signed
returns-in_err-signed g c = whole_err _ _ _ _ _ _ c.from_residual.ensures.1 (whole_none _ _ _ c.new-cursor.result _ c.new-cursor.ensures (refuses_fresh (signed_data g.Alg.SignatureAlgorithm.reads) _ _ _ _ c.new-cursor.ensures c.in_err-signed.ensures))

pub returns-then-not-end : goal.returns-then-not-end
returns-then-not-end g c = whole_more (signed_data g.Alg.SignatureAlgorithm.reads c.args.mode) _ _ c.new-cursor.result _ _ c.new-cursor.ensures (takes_fresh (signed_data g.Alg.SignatureAlgorithm.reads) _ _ _ _ _ c.new-cursor.ensures c.in_ok-signed.ensures) (not_ended c.if-not-end.ensures)
