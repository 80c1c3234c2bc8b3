use Rattle.std.proofs.Common.{rules}
use Rattle.rpki_common.specs.Chaining.{◌>>=◌}
use Rattle.rpki_provisioning.specs.Shape.{asked_by}
use Rattle.rpki_provisioning.proofs.filling.asked_of.Goals as goal

pub returns-in_err-csr : goal.returns-in_err-csr
unfolding asked_by ◌>>=◌
returns-in_err-csr g c = search rules

pub returns : goal.returns
unfolding asked_by ◌>>=◌
returns g c = search rules
