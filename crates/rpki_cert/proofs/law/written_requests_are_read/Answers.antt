use Rattle.std.proofs.Common.{[]}
use Rattle.rpki_cert.specs.Csr.{request_info, certification_request}
use Rattle.rpki_idcert.proofs.Rewriting.{written_again}
use Rattle.rpki_cert.proofs.law.written_requests_are_read.Goals as goal

pub returns : goal.returns
unfolding certification_request
returns g c = λ mode octets rest r b h.
    let w = written_again (request_info g.Attributes.CsrAttributes.reads) g.Alg.SignatureAlgorithm.reads g.Alg.SignatureAlgorithm.spelled mode b.value r rest b.begins.lawful b.reads h
    (λ o a e. g.met.Alg.SignatureAlgorithm.again mode a (g.met.Alg.SignatureAlgorithm.named mode o a e)) (λ a. g.met.Alg.SignatureAlgorithm.one_value mode a []) in
    record { value = w.0; rest = rest; begins = w.1; reads = w.2 }
