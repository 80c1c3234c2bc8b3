use Rattle.std.proofs.Common.{◌≡◌, ℕ, List, ◌++◌, sym, ap, subst, ◌∙◌}
use Rattle.rpki_base.specs.Civil.{civil_at}
use Rattle.std.specs.Prelude.{OnOk}
use Rattle.rpki_base.proofs.Civils.{moment_back}
use Rattle.rpki_base.proofs.Times.{utc_written, generalized_written}
use Rattle.rpki_base.proofs.time.Time.to_der_varied.Goals as goal

pub returns-then-is_utc_year-clause-ok : goal.returns-then-is_utc_year-clause-ok
returns-then-is_utc_year-clause-ok c =
    let e = utc_written c.at-civil.result c.args.self.now c.generalized_text-text.result (c.at-civil.ensures.value ∙ ap civil_at (moment_back c.seconds.result c.seconds.ensures.range ∙ c.seconds.ensures.value)) c.generalized_text-text.ensures (sym c.is_utc_year.ensures ∙ c.if-is_utc_year.true) in
    subst (λ (o : List ℕ). OnOk c.primitive.result (c.primitive.new.self ≡ c.args.out.now ++ o)) e c.primitive.ensures.ok

pub returns-else-is_utc_year-clause-ok : goal.returns-else-is_utc_year-clause-ok
returns-else-is_utc_year-clause-ok c =
    let e = generalized_written c.at-civil.result c.args.self.now c.generalized_text-text.result (c.at-civil.ensures.value ∙ ap civil_at (moment_back c.seconds.result c.seconds.ensures.range ∙ c.seconds.ensures.value)) c.generalized_text-text.ensures (sym c.is_utc_year.ensures ∙ c.if-is_utc_year.false) in
    subst (λ (o : List ℕ). OnOk c.primitive-else-is_utc_year.result (c.primitive-else-is_utc_year.new.self ≡ c.args.out.now ++ o)) e c.primitive-else-is_utc_year.ensures.ok
