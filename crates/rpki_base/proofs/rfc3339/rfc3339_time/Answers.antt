use Rattle.std.proofs.Common.{◌≡◌, ◌-ℤ◌, ap, ◌∙◌, rules}
use Rattle.rpki_base.specs.Rfc3339.{rfc3339_time, in_range}
use Rattle.rpki_base.proofs.Offsets.{difference_back}
use Rattle.rpki_common.specs.Chaining.{◌>>=◌}
use Rattle.rpki_base.proofs.rfc3339.rfc3339_time.Goals as goal

pub returns-in_err-year : goal.returns-in_err-year
unfolding rfc3339_time ◌>>=◌
returns-in_err-year c = search rules

pub returns-in_err-rest : goal.returns-in_err-rest
unfolding rfc3339_time ◌>>=◌
returns-in_err-rest c = search rules

pub returns-in_err-month : goal.returns-in_err-month
unfolding rfc3339_time ◌>>=◌
returns-in_err-month c = search rules

pub returns-in_err-rest-2 : goal.returns-in_err-rest-2
unfolding rfc3339_time ◌>>=◌
returns-in_err-rest-2 c = search rules

pub returns-in_err-day : goal.returns-in_err-day
unfolding rfc3339_time ◌>>=◌
returns-in_err-day c = search rules

pub returns-in_err-rest-3 : goal.returns-in_err-rest-3
unfolding rfc3339_time ◌>>=◌
returns-in_err-rest-3 c = search rules

pub returns-in_err-hour : goal.returns-in_err-hour
unfolding rfc3339_time ◌>>=◌
returns-in_err-hour c = search rules

pub returns-in_err-rest-4 : goal.returns-in_err-rest-4
unfolding rfc3339_time ◌>>=◌
returns-in_err-rest-4 c = search rules

pub returns-in_err-minute : goal.returns-in_err-minute
unfolding rfc3339_time ◌>>=◌
returns-in_err-minute c = search rules

pub returns-in_err-rest-5 : goal.returns-in_err-rest-5
unfolding rfc3339_time ◌>>=◌
returns-in_err-rest-5 c = search rules

pub returns-in_err-second : goal.returns-in_err-second
unfolding rfc3339_time ◌>>=◌
returns-in_err-second c = search rules

pub returns-in_err-zone : goal.returns-in_err-zone
unfolding rfc3339_time ◌>>=◌
returns-in_err-zone c = search rules

pub returns-in_err-ahead : goal.returns-in_err-ahead
unfolding rfc3339_time ◌>>=◌
returns-in_err-ahead c = search rules

pub returns-in_err-local : goal.returns-in_err-local
unfolding rfc3339_time ◌>>=◌
returns-in_err-local c = search rules

pub returns : goal.returns
unfolding rfc3339_time ◌>>=◌
returns c =
    let e = difference_back c.in_ok-local.local c.in_ok-ahead.ahead c.in_ok-local.ensures.range c.in_ok-ahead.ensures.small in
    let k : in_range (c.in_ok-local.local -ℤ c.in_ok-ahead.ahead) ≡ rfc3339_time c.args.text.now = search rules in
    c.in_range.ensures ∙ ap in_range e ∙ k
