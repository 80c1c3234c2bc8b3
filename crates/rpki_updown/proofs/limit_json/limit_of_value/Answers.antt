use Rattle.std.specs.Prelude.{Some, None}
use Rattle.std.proofs.Common.{◌≡◌, sym}
use Rattle.std.proofs.lemmas.Result.{IfOk-weaker}
use Rattle.serde_json.specs.View.{view}
use Rattle.rpki_updown.specs.LimitJson.{limit_stated, limit_of_value}
use Rattle.rpki_updown.proofs.LimitLaws.{no_limit_object, limit_object}
use Rattle.rpki_updown.proofs.limit_json.limit_of_value.Goals as goal

pub returns-else-is_limit-clause-malformed : goal.returns-else-is_limit-clause-malformed
returns-else-is_limit-clause-malformed c = λ _. no_limit_object _ (sym c.if-is_limit.ensures)

pub returns-then-is_limit-clause-value : goal.returns-then-is_limit-clause-value
returns-then-is_limit-clause-value c =
    IfOk-weaker c.limit_stated.result (λ l. limit_stated (view c.args.value.now) ≡ Some l) (λ l. limit_of_value (view c.args.value.now) ≡ Some l)
    (λ l e. limit_object _ _ (sym c.if-is_limit.ensures) e) c.limit_stated.ensures.value

pub returns-then-is_limit-clause-malformed : goal.returns-then-is_limit-clause-malformed
returns-then-is_limit-clause-malformed c = λ e. limit_object _ None (sym c.if-is_limit.ensures) (c.limit_stated.ensures.malformed e)
