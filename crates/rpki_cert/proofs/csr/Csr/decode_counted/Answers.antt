use Rattle.std.proofs.Common.{arith}
use Rattle.rpki_cert.specs.Csr.{certification_request}
use Rattle.rpki_cert.proofs.Reread.{request_taken, decodes_ok, decodes_err}
use Rattle.rpki_cert.proofs.csr.Csr.decode_counted.Goals as goal

pub returns-in_err-signed : goal.returns-in_err-signed
returns-in_err-signed g c = decodes_err 2 (certification_request g.Attributes.CsrAttributes.reads g.Alg.SignatureAlgorithm.reads) _ _ _ (λ x. x) _ _ _ _ c.new-cursor.ensures c.from_residual.ensures.1 c.in_err-signed.ensures

pub returns : goal.returns
returns g c = decodes_ok 2 (certification_request g.Attributes.CsrAttributes.reads g.Alg.SignatureAlgorithm.reads) _ _ _ _ _ _ _ c.new-cursor.ensures c.in_ok-signed.ensures

pub invariant_of-result : goal.invariant_of-result
invariant_of-result g c = request_taken g.Attributes.CsrAttributes.reads g.Alg.SignatureAlgorithm.reads c.args.octets.now _ _ _ _ _ c.new-cursor.ensures (λ i. let f = c.type_inv.octets i in omega arith) c.in_ok-signed.ensures
