use Rattle.std.proofs.Common.{arith}
use Rattle.rpki_cert.specs.Cert.{certificate}
use Rattle.rpki_cert.proofs.Reread.{certificate_taken, decodes_ok, decodes_err}
use Rattle.rpki_cert.proofs.cert.Cert.decode_counted.Goals as goal

pub returns-in_err-slice : goal.returns-in_err-slice
returns-in_err-slice g c = decodes_err 2 certificate _ _ _ (λ x. x) _ _ _ _ c.new-cursor.ensures c.from_residual.ensures.1 c.in_err-slice.ensures

pub returns : goal.returns
returns g c = decodes_ok 2 certificate _ _ _ _ _ _ _ c.new-cursor.ensures c.in_ok-slice.ensures

pub invariant_of-result : goal.invariant_of-result
invariant_of-result g c = certificate_taken c.args.octets.now _ _ _ _ _ c.new-cursor.ensures (λ i. let f = c.type_inv.octets i in omega arith) c.in_ok-slice.ensures
