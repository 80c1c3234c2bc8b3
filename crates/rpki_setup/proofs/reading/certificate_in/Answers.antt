use Rattle.std.proofs.Common.{rules}
use Rattle.rpki_common.specs.Chaining.{◌>>=◌}
use Rattle.rpki_setup.specs.Root.{certificate_in}
use Rattle.rpki_setup.proofs.reading.certificate_in.Goals as goal

pub returns-in_err-require : goal.returns-in_err-require
unfolding certificate_in ◌>>=◌
returns-in_err-require c = search rules

pub returns-in_err-require-2 : goal.returns-in_err-require-2
unfolding certificate_in ◌>>=◌
returns-in_err-require-2 c = search rules

pub returns : goal.returns
unfolding certificate_in ◌>>=◌
returns c = search rules
