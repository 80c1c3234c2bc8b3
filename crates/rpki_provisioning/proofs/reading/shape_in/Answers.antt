use Rattle.std.proofs.Common.{rules}
use Rattle.rpki_common.specs.Chaining.{◌>>=◌}
use Rattle.rpki_provisioning.specs.Message.{shape_in}
use Rattle.rpki_provisioning.proofs.reading.shape_in.Goals as goal

pub returns-in_err-root : goal.returns-in_err-root
unfolding shape_in ◌>>=◌
returns-in_err-root c = search rules

pub returns-in_err-payload : goal.returns-in_err-payload
unfolding shape_in ◌>>=◌
returns-in_err-payload c = search rules

pub returns : goal.returns
unfolding shape_in ◌>>=◌
returns c = search rules
