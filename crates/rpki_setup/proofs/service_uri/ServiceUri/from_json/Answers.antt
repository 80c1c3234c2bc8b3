use Rattle.rpki_text.proofs.PassedOn.{passed_on}
use Rattle.rpki_text.specs.declared.json.JsonError.TheVariants.{Malformed}
use Rattle.rpki_setup.proofs.Services.{no_string, string_is, no_service, told}
use Rattle.rpki_setup.proofs.service_uri.ServiceUri.from_json.Goals as goal

pub returns-in_err-found-clause-malformed : goal.returns-in_err-found-clause-malformed
returns-in_err-found-clause-malformed c =
    passed_on c.from_residual.result c.in_err-found.field-0.0 Malformed c.from_residual.ensures.1 (λ e. no_string _ (c.in_err-found.ensures.malformed e))

pub returns-in-Ok-clause-value : goal.returns-in-Ok-clause-value
returns-in-Ok-clause-value c = string_is _ _ _ _ c.in_ok-found.ensures.ok c.as_str.ensures.value c.in-Ok.ensures.value

pub returns-clause-malformed : goal.returns-clause-malformed
returns-clause-malformed c = λ e. string_is _ _ _ _ c.in_ok-found.ensures.ok c.as_str.ensures.value (no_service _ c.in-Err.error c.in-Err.ensures.refused (told c.json_error.result c.in-Err.error c.json_error.ensures e))
