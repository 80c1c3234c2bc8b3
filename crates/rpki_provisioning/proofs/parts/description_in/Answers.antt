use Rattle.std.proofs.Common.{rules}
use Rattle.rpki_common.specs.Chaining.{◌>>=◌}
use Rattle.rpki_provisioning.specs.NotPerformed.{description_in}
use Rattle.rpki_provisioning.proofs.parts.description_in.Goals as goal

pub returns-in_err-require : goal.returns-in_err-require
unfolding description_in ◌>>=◌
returns-in_err-require c = search rules

pub returns-in_err-require-2 : goal.returns-in_err-require-2
unfolding description_in ◌>>=◌
returns-in_err-require-2 c = search rules

pub returns : goal.returns
unfolding description_in ◌>>=◌
returns c = search rules
