use Rattle.std.proofs.Common.{sym, ◌∙◌}
use Rattle.rpki_base.proofs.Offsets.{digit_goes, digits_end, all_digits}
use Rattle.rpki_base.proofs.rfc3339.past_digits.Goals as goal

pub returns-then-not-is_ascii_digit : goal.returns-then-not-is_ascii_digit
returns-then-not-is_ascii_digit c = digits_end c.args.text.now c.loop-i.i c.loop-i-test.true (sym c.is_ascii_digit.ensures.value ∙ c.if-not-is_ascii_digit.true) ∙ c.loop-i.invariant

pub loop-i-preserved : goal.loop-i-preserved
loop-i-preserved c = sym (digit_goes c.args.text.now c.loop-i.i c.loop-i-test.true (sym c.is_ascii_digit.ensures.value ∙ c.if-not-is_ascii_digit.false)) ∙ c.loop-i.invariant

pub returns : goal.returns
returns c = sym (all_digits c.args.text.now c.loop-i.i c.loop-i-test.false) ∙ c.loop-i.invariant
