use Rattle.std.proofs.Common.{rules}
use Rattle.rpki_common.specs.Chaining.{◌>>=◌}
use Rattle.rpki_provisioning.specs.Request.{key_in}
use Rattle.rpki_provisioning.proofs.parts.key_in.Goals as goal

pub returns-in_err-require : goal.returns-in_err-require
unfolding key_in ◌>>=◌
returns-in_err-require c = search rules

pub returns-in_err-require-2 : goal.returns-in_err-require-2
unfolding key_in ◌>>=◌
returns-in_err-require-2 c = search rules

pub returns-in_err-only : goal.returns-in_err-only
unfolding key_in ◌>>=◌
returns-in_err-only c = search rules

pub returns-in_err-class_name : goal.returns-in_err-class_name
unfolding key_in ◌>>=◌
returns-in_err-class_name c = search rules

pub returns-in_err-key : goal.returns-in_err-key
unfolding key_in ◌>>=◌
returns-in_err-key c = search rules

pub returns : goal.returns
unfolding key_in ◌>>=◌
returns c = search rules
