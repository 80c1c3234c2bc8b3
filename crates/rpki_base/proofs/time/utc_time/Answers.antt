use Rattle.std.proofs.Common.{rules}
use Rattle.rpki_base.specs.Time.{utc_time}
use Rattle.rpki_common.specs.Chaining.{◌>>=◌}
use Rattle.rpki_base.proofs.time.utc_time.Goals as goal

pub returns-in_err-year : goal.returns-in_err-year
unfolding utc_time ◌>>=◌
returns-in_err-year c = search rules

pub returns : goal.returns
unfolding utc_time ◌>>=◌
returns c = search rules
