use Rattle.std.specs.Prelude.{Some, string_bytes}
use Rattle.std.proofs.Common.{◌≡◌, [], sym, ◌∙◌}
use Rattle.std.proofs.lemmas.Result.{IfOk-weaker}
use Rattle.rpki_text.specs.Base64.{octets_of_json}
use Rattle.rpki_der.specs.declared.mode.Mode.TheVariants.{Der}
use Rattle.rpki_idcert.specs.IdCert.{identity_certificate}
use Rattle.rpki_idcert.specs.Json.{in_json}
use Rattle.rpki_idcert.specs.Making.{IsReadAgain}
use Rattle.rpki_idcert.proofs.JsonLaws.{in_json-some, alone}
use Rattle.rpki_idcert.proofs.id_cert.IdCert.to_json.Goals as goal

pub returns-clause-again : goal.returns-clause-again
returns-clause-again c =
    IfOk-weaker c.write_octets.result (λ s. octets_of_json (string_bytes s) ≡ Some c.as_slice.result.now)
    (λ s. IsReadAgain Der c.args.self.now → in_json (identity_certificate Der) (string_bytes s) ≡ Some c.args.self.now)
    (λ s e again. in_json-some (identity_certificate Der) _ _ _ _ e (sym (c.as_slice.ensures ∙ c.in_ok-octets.ensures.octets)) (alone (identity_certificate Der) _ _ (again [] c.in_ok-octets.ensures.spelled)))
    c.write_octets.ensures.again
