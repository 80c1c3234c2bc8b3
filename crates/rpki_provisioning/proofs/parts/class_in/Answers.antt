use Rattle.std.proofs.Common.{rules}
use Rattle.rpki_common.specs.Chaining.{◌>>=◌}
use Rattle.rpki_provisioning.specs.Class.{class_in}
use Rattle.rpki_provisioning.proofs.parts.class_in.Goals as goal

pub returns-in_err-require : goal.returns-in_err-require
unfolding class_in ◌>>=◌
returns-in_err-require c = search rules

pub returns-in_err-require-2 : goal.returns-in_err-require-2
unfolding class_in ◌>>=◌
returns-in_err-require-2 c = search rules

pub returns-in_err-start : goal.returns-in_err-start
unfolding class_in ◌>>=◌
returns-in_err-start c = search rules

pub returns-in_err-certificates : goal.returns-in_err-certificates
unfolding class_in ◌>>=◌
returns-in_err-certificates c = search rules

pub returns : goal.returns
unfolding class_in ◌>>=◌
returns c = search rules
