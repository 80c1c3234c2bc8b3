use Rattle.std.proofs.Common.{inl}
use Rattle.std.proofs.lemmas.Result.{IfErr-weaker, IfOk-weaker}
use Rattle.rpki_c.proofs.asking.ask_message.Goals as goal

pub returns-clause-ok : goal.returns-clause-ok
returns-clause-ok c = IfOk-weaker c.ask_under.result _ _ (λ text so. inl (_, c.in_ok-keys.ensures.ok, so)) (rw c.deref.ensures.value at c.ask_under.ensures.ok)

pub returns-clause-err : goal.returns-clause-err
returns-clause-err c = IfErr-weaker c.ask_under.result _ _ (λ e so other. inl (_, c.in_ok-keys.ensures.ok, so other)) (rw c.deref.ensures.value at c.ask_under.ensures.err)
