use Rattle.std.proofs.Common.{rules}
use Rattle.rpki_common.specs.Chaining.{◌>>=◌}
use Rattle.rpki_setup.proofs.reading.with_element.Goals as goal

pub returns-in_err-certificate_in : goal.returns-in_err-certificate_in
unfolding ◌>>=◌
returns-in_err-certificate_in c = search rules

pub returns-then-is_named : goal.returns-then-is_named
unfolding ◌>>=◌
returns-then-is_named c = search rules

pub returns-in_err-require : goal.returns-in_err-require
unfolding ◌>>=◌
returns-in_err-require c = search rules

pub returns : goal.returns
unfolding ◌>>=◌
returns c = search rules
