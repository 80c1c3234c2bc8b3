use Rattle.std.specs.Prelude.{Some, None}
use Rattle.std.proofs.Common.{◌≡◌}
use Rattle.std.proofs.lemmas.Result.{IfOk-weaker}
use Rattle.serde_json.specs.View.{view}
use Rattle.rpki_text.specs.declared.json.JsonError.TheVariants.{Malformed}
use Rattle.rpki_text.proofs.PassedOn.{passed_on}
use Rattle.rpki_updown.specs.LimitJson.{limit_of_value, limit_of_json}
use Rattle.rpki_updown.proofs.LimitLaws.{no_json, json_is}
use Rattle.rpki_updown.proofs.request_resource_limit.RequestResourceLimit.from_json.Goals as goal

pub returns-in_err-value-clause-malformed : goal.returns-in_err-value-clause-malformed
returns-in_err-value-clause-malformed c =
    passed_on c.from_residual.result c.in_err-value.field-0.0 Malformed c.from_residual.ensures.1 (λ e. no_json _ (c.in_err-value.ensures.malformed e))

pub returns-clause-value : goal.returns-clause-value
returns-clause-value c =
    IfOk-weaker c.limit_of_value.result (λ l. limit_of_value (view c.in_ok-value.value) ≡ Some l) (λ l. limit_of_json c.args.text.now ≡ Some l)
    (λ l e. json_is _ _ _ c.in_ok-value.ensures.ok e) c.limit_of_value.ensures.value

pub returns-clause-malformed : goal.returns-clause-malformed
returns-clause-malformed c = λ e. json_is _ _ None c.in_ok-value.ensures.ok (c.limit_of_value.ensures.malformed e)
