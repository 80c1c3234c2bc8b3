use Rattle.std.proofs.Common.{rules}
use Rattle.rpki_base.specs.Digits.{four_digits}
use Rattle.rpki_common.specs.Chaining.{◌>>=◌}
use Rattle.rpki_base.proofs.digits.four_digits.Goals as goal

pub returns-in_err-high-clause-value : goal.returns-in_err-high-clause-value
unfolding four_digits ◌>>=◌
returns-in_err-high-clause-value c = search rules

pub returns-in_err-low-clause-value : goal.returns-in_err-low-clause-value
unfolding four_digits ◌>>=◌
returns-in_err-low-clause-value c = search rules

pub returns-clause-value : goal.returns-clause-value
unfolding four_digits ◌>>=◌
returns-clause-value c = search rules
