use Rattle.std.proofs.Common.{rules}
use Rattle.rpki_base.specs.Rfc3339.{offset_seconds}
use Rattle.rpki_common.specs.Chaining.{◌>>=◌}
use Rattle.rpki_base.proofs.rfc3339.offset_seconds.Goals as goal

pub returns-in_err-hour : goal.returns-in_err-hour
unfolding offset_seconds ◌>>=◌
returns-in_err-hour c = search rules

pub returns-in_err-behind : goal.returns-in_err-behind
unfolding offset_seconds ◌>>=◌
returns-in_err-behind c = search rules

pub returns-in_err-minute : goal.returns-in_err-minute
unfolding offset_seconds ◌>>=◌
returns-in_err-minute c = search rules

pub returns-in_err-ended : goal.returns-in_err-ended
unfolding offset_seconds ◌>>=◌
returns-in_err-ended c = search rules

pub returns-then-minute-le59 : goal.returns-then-minute-le59
unfolding offset_seconds ◌>>=◌
returns-then-minute-le59 c = search rules

pub returns-else-hour-le23 : goal.returns-else-hour-le23
unfolding offset_seconds ◌>>=◌
returns-else-hour-le23 c = search rules
