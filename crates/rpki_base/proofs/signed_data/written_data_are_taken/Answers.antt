use Rattle.std.proofs.Common.{[]}
use Rattle.rpki_base.proofs.SignedDataLemmas.{written_data}
use Rattle.rpki_base.proofs.signed_data.written_data_are_taken.Goals as goal

pub returns : goal.returns
returns g c = λ mode d signed rest h b n.
    let w = g.met.Alg.SignatureAlgorithm.one_value mode d.signature.algorithm [] in
    written_data g.Alg.SignatureAlgorithm.reads g.Alg.SignatureAlgorithm.spelled mode d signed w.0 rest h b w.1 (g.met.Alg.SignatureAlgorithm.again mode d.signature.algorithm n)
