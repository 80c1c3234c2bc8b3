use Rattle.std.proofs.Common.{rules}
use Rattle.rpki_common.specs.Chaining.{◌>>=◌}
use Rattle.rpki_setup.specs.Root.{setup_root_in}
use Rattle.rpki_setup.proofs.reading.root_in.Goals as goal

pub returns-in_err-require : goal.returns-in_err-require
unfolding setup_root_in ◌>>=◌
returns-in_err-require c = search rules

pub returns-in_err-require-2 : goal.returns-in_err-require-2
unfolding setup_root_in ◌>>=◌
returns-in_err-require-2 c = search rules

pub returns-in_err-require-3 : goal.returns-in_err-require-3
unfolding setup_root_in ◌>>=◌
returns-in_err-require-3 c = search rules

pub returns : goal.returns
unfolding setup_root_in ◌>>=◌
returns c = search rules
