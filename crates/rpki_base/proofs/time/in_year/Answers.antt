use Rattle.std.proofs.Common.{rules}
use Rattle.rpki_base.specs.Time.{in_year}
use Rattle.rpki_common.specs.Chaining.{◌>>=◌}
use Rattle.rpki_base.proofs.time.in_year.Goals as goal

pub returns-in_err-month : goal.returns-in_err-month
unfolding in_year ◌>>=◌
returns-in_err-month c = search rules

pub returns-in_err-day : goal.returns-in_err-day
unfolding in_year ◌>>=◌
returns-in_err-day c = search rules

pub returns-in_err-hour : goal.returns-in_err-hour
unfolding in_year ◌>>=◌
returns-in_err-hour c = search rules

pub returns-in_err-minute : goal.returns-in_err-minute
unfolding in_year ◌>>=◌
returns-in_err-minute c = search rules

pub returns-in_err-second : goal.returns-in_err-second
unfolding in_year ◌>>=◌
returns-in_err-second c = search rules

pub returns-in_err-behind : goal.returns-in_err-behind
unfolding in_year ◌>>=◌
returns-in_err-behind c = search rules

pub returns-in_err-ended : goal.returns-in_err-ended
unfolding in_year ◌>>=◌
returns-in_err-ended c = search rules

pub returns-in_err-seconds : goal.returns-in_err-seconds
unfolding in_year ◌>>=◌
returns-in_err-seconds c = search rules

pub returns : goal.returns
unfolding in_year ◌>>=◌
returns c = search rules
