use Rattle.std.proofs.Common.{inl, inr}
use Rattle.std.proofs.lemmas.Result.{IfErr-weaker}
use Rattle.rpki_c.proofs.reading.verify_request.Goals as goal

pub returns-clause-err : goal.returns-clause-err
returns-clause-err c =
    IfErr-weaker c.verified_key.result _ _ (λ e so other. inl (_, c.in_ok-answers.ensures.ok, inr (_, c.in_ok-request.ensures.ok, so other))) c.verified_key.ensures.err
