use Rattle.std.proofs.Common.{rules}
use Rattle.rpki_common.specs.Chaining.{◌>>=◌}
use Rattle.rpki_provisioning.specs.Shape.{signing_by}
use Rattle.rpki_provisioning.proofs.filling.signing_of.Goals as goal

pub returns-in_err-cert : goal.returns-in_err-cert
unfolding signing_by ◌>>=◌
returns-in_err-cert g c = search rules

pub returns : goal.returns
unfolding signing_by ◌>>=◌
returns g c = search rules
