use Rattle.std.proofs.Common.{rules}
use Rattle.rpki_common.specs.Chaining.{◌>>=◌}
use Rattle.rpki_publication.specs.Change.{withdraw_in}
use Rattle.rpki_publication.proofs.reading.withdraw_in.Goals as goal

pub returns-in_err-require : goal.returns-in_err-require
unfolding withdraw_in ◌>>=◌
returns-in_err-require c = search rules

pub returns-in_err-require-2 : goal.returns-in_err-require-2
unfolding withdraw_in ◌>>=◌
returns-in_err-require-2 c = search rules

pub returns-in_err-a : goal.returns-in_err-a
unfolding withdraw_in ◌>>=◌
returns-in_err-a c = search rules

pub returns-in_err-uri : goal.returns-in_err-uri
unfolding withdraw_in ◌>>=◌
returns-in_err-uri c = search rules

pub returns-in_err-hash : goal.returns-in_err-hash
unfolding withdraw_in ◌>>=◌
returns-in_err-hash c = search rules

pub returns : goal.returns
unfolding withdraw_in ◌>>=◌
returns c = search rules
