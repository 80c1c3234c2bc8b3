use Rattle.std.proofs.Common.{Err, sym, ap}
use Rattle.rpki_updown.proofs.LimitLaws.{no_string, no_limit_stated, set_stated, no_set}
use Rattle.rpki_updown.proofs.limit_json.stated_in.Goals as goal

pub returns-in_default-clause-malformed : goal.returns-in_default-clause-malformed
returns-in_default-clause-malformed g c = λ _. no_string _ _ (sym c.in_default.ensures)

pub returns-then-eq-clause-value : goal.returns-then-eq-clause-value
returns-then-eq-clause-value g c = no_limit_stated _ _ c.in-Some.text.now (sym c.in-Some.ensures) (sym c.if-eq.ensures)

pub returns-in-Ok-clause-value : goal.returns-in-Ok-clause-value
returns-in-Ok-clause-value g c = set_stated _ _ c.in-Some.text.now _ (sym c.in-Some.ensures) (sym c.if-eq.ensures) c.in-Ok.ensures.set

pub returns-in-Err-Malformed-clause-malformed : goal.returns-in-Err-Malformed-clause-malformed
returns-in-Err-Malformed-clause-malformed g c = λ _.
    no_set _ _ c.in-Some.text.now (sym c.in-Some.ensures) (sym c.if-eq.ensures) (c.in-Err-Malformed.ensures.malformed (ap Err c.in-Err-Malformed.field-0-is))
