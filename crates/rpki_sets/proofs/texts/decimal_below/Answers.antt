use Rattle.std.proofs.Common.{◌+◌, ◌*◌, sym, ap}
use Rattle.std.proofs.lemmas.Bool.{eqb-true}
use Rattle.rpki_sets.proofs.Decimals.{not_empty, start_reading, none_empty, none_other, none_large, reading_more, some_read}
use Rattle.rpki_sets.proofs.texts.decimal_below.Goals as goal

pub digits-init : goal.digits-init
digits-init c = start_reading _ _ c.requires.positive

pub returns-then-is_empty-clause-number : goal.returns-then-is_empty-clause-number
returns-then-is_empty-clause-number c = none_empty _ _ (eqb-true _ 0 (sym c.if-is_empty.ensures))

pub returns-then-not-is_ascii_digit-clause-number : goal.returns-then-not-is_ascii_digit-clause-number
returns-then-not-is_ascii_digit-clause-number c = none_other _ _ _ _ c.digits-test.true c.digits.invariant (sym c.if-not-is_ascii_digit.ensures.value)

pub returns-then-number-limit-clause-number : goal.returns-then-number-limit-clause-number
returns-then-number-limit-clause-number c = none_large _ _ _ _ c.digits-test.true c.digits.invariant _ (ap (λ d. c.digits.number * 10 + d) c.from.ensures) (sym c.if-not-is_ascii_digit.ensures.value) c.if-number-limit.true

pub digits-preserved : goal.digits-preserved
digits-preserved c = reading_more _ _ _ _ c.digits-test.true c.digits.invariant _ (ap (λ d. c.digits.number * 10 + d) c.from.ensures) (sym c.if-not-is_ascii_digit.ensures.value) c.if-number-limit.false

pub returns-clause-number : goal.returns-clause-number
returns-clause-number c = some_read _ _ _ _ (not_empty _ c.if-is_empty.ensures) c.digits-test.false c.digits.invariant
