use Rattle.std.proofs.Common.{rules}
use Rattle.rpki_common.specs.Chaining.{◌>>=◌}
use Rattle.rpki_provisioning.specs.Message.{payload_in}
use Rattle.rpki_provisioning.proofs.reading.revocation_in.Goals as goal

pub returns-in_err-e : goal.returns-in_err-e
unfolding payload_in ◌>>=◌
returns-in_err-e c = search rules

pub returns-in_err-key : goal.returns-in_err-key
unfolding payload_in ◌>>=◌
returns-in_err-key c = search rules

pub returns : goal.returns
unfolding payload_in ◌>>=◌
returns c = search rules
