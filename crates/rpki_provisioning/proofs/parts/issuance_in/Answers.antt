use Rattle.std.proofs.Common.{rules}
use Rattle.rpki_common.specs.Chaining.{◌>>=◌}
use Rattle.rpki_provisioning.specs.Class.{issuance_in}
use Rattle.rpki_provisioning.proofs.parts.issuance_in.Goals as goal

pub returns-in_err-class : goal.returns-in_err-class
unfolding issuance_in ◌>>=◌
returns-in_err-class c = search rules

pub returns-in_err-issuance_of_class : goal.returns-in_err-issuance_of_class
unfolding issuance_in ◌>>=◌
returns-in_err-issuance_of_class c = search rules

pub returns : goal.returns
unfolding issuance_in ◌>>=◌
returns c = search rules
