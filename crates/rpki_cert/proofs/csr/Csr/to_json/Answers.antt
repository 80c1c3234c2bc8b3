use Rattle.std.specs.Prelude.{Some, string_bytes}
use Rattle.std.proofs.Common.{◌≡◌, [], sym, ◌∙◌}
use Rattle.std.proofs.lemmas.Result.{IfOk-weaker}
use Rattle.rpki_text.specs.Base64.{octets_of_json}
use Rattle.rpki_der.specs.declared.mode.Mode.TheVariants.{Der}
use Rattle.rpki_idcert.specs.Json.{in_json}
use Rattle.rpki_idcert.proofs.JsonLaws.{in_json-some, alone}
use Rattle.rpki_cert.specs.Csr.{certification_request}
use Rattle.rpki_cert.proofs.csr.Csr.to_json.Goals as goal

pub returns-clause-again : goal.returns-clause-again
returns-clause-again g c =
    IfOk-weaker c.write_octets.result (λ s. octets_of_json (string_bytes s) ≡ Some c.as_slice.result.now)
    (λ s. in_json (certification_request g.Attributes.CsrAttributes.reads g.Alg.SignatureAlgorithm.reads Der) (string_bytes s) ≡ Some c.args.self.now)
    (λ s e. in_json-some (certification_request g.Attributes.CsrAttributes.reads g.Alg.SignatureAlgorithm.reads Der) _ _ _ _ e (sym (c.as_slice.ensures ∙ c.in_ok-octets.ensures.octets))
    (alone (certification_request g.Attributes.CsrAttributes.reads g.Alg.SignatureAlgorithm.reads Der) _ _ (c.written_requests_are_read.ensures Der c.signed_data-signed.ensures.der.octets [] c.args.self.now c.signed_data-signed.ensures.der.begins c.in_ok-octets.ensures.spelled)))
    c.write_octets.ensures.again
