use Rattle.std.proofs.Common.{rules}
use Rattle.std.proofs.lemmas.Result.{err_from_is_err_and}
use Rattle.rpki_der.specs.declared.mode.Mode.TheVariants.{Der}
use Rattle.rpki_der.specs.Takes.{Decodes, RefusesOctets}
use Rattle.rpki_base.specs.RpkiSignatureAlgorithm.{spelled_x509}
use Rattle.rpki_base.specs.SignedData.{spelled_data}
use Rattle.rpki_cert.specs.Cert.{certificate}
use Rattle.rpki_upserver.proofs.Outer.{not_malformed}
use Rattle.rpki_upserver.proofs.toy_issuer.resource_certificate.Goals as goal

pub returns-in_err-octets-clause-decoded : goal.returns-in_err-octets-clause-decoded
unfolding RefusesOctets
returns-in_err-octets-clause-decoded c =
    let p = err_from_is_err_and c.from_residual.result c.from_residual.ensures.1 in
    rw (p.1, p.2) tt

pub returns-clause-again : goal.returns-clause-again
returns-clause-again c = λ again.
    let decoded : Decodes (certificate Der) (λ x. x) Der (spelled_data spelled_x509 c.args.cert.now.signed) c.decode.result = search rules in
    not_malformed c.args.cert.now c.decode.result again c.in_ok-octets.ensures.spelled decoded
