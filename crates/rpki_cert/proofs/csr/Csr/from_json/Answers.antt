use Rattle.rpki_text.specs.declared.json.JsonError.TheVariants.{Malformed}
use Rattle.rpki_text.proofs.PassedOn.{passed_on}
use Rattle.rpki_der.specs.declared.mode.Mode.TheVariants.{Der}
use Rattle.rpki_cert.specs.Csr.{certification_request}
use Rattle.rpki_idcert.proofs.JsonLaws.{in_json-none, in_json-some, in_json-other}
use Rattle.rpki_cert.proofs.csr.Csr.from_json.Goals as goal

pub returns-in_err-octets-clause-malformed : goal.returns-in_err-octets-clause-malformed
returns-in_err-octets-clause-malformed g c =
    passed_on c.from_residual.result c.in_err-octets.field-0.0 Malformed c.from_residual.ensures.1 (λ e.
    in_json-none (certification_request g.Attributes.CsrAttributes.reads g.Alg.SignatureAlgorithm.reads Der) _ (c.in_err-octets.ensures.malformed e))

pub returns-in-Ok-clause-value : goal.returns-in-Ok-clause-value
returns-in-Ok-clause-value g c =
    in_json-some (certification_request g.Attributes.CsrAttributes.reads g.Alg.SignatureAlgorithm.reads Der) _ _ _ _ c.in_ok-octets.ensures.octets c.as_slice.ensures c.in-Ok.ensures

pub returns-in-Err-Malformed-clause-malformed : goal.returns-in-Err-Malformed-clause-malformed
returns-in-Err-Malformed-clause-malformed g c = λ _.
    in_json-other (certification_request g.Attributes.CsrAttributes.reads g.Alg.SignatureAlgorithm.reads Der) _ _ _ _ c.in_ok-octets.ensures.octets c.as_slice.ensures c.in-Err-Malformed.ensures c.in-Err-Malformed.field-0-is
